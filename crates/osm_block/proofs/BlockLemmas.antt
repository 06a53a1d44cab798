-- A block: what stands before its groups, and its groups.
use Rattle.std.proofs.Common.{◌≡◌, ℕ, List, [], ◌++◌, sym, ap, subst, ◌∙◌, Some, None}
use Rattle.std.specs.List.{flat_map}
use Rattle.osm_block.specs.declared.fields.TheConstants.{BLOCK_PRIMITIVEGROUP}
use Rattle.osm_block.specs.declared.fault.BlockFault.{BlockFault}
use Rattle.osm_value.specs.declared.element.Element.{Element}
use Rattle.pbf_wire.specs.Readings.{fields}
use Rattle.osm_block.specs.Message.{Context, context}
use Rattle.pbf_wire.specs.Readings.{each}
use Rattle.osm_block.specs.Block.{Block, GroupOf, Joins}
use Rattle.osm_block.specs.Head.{HeadRead}
use Rattle.osm_block.specs.Reads.{AppendedGroups}
use Rattle.osm_block.specs.Phases.{Phase, first, group_phases, fault, head_phases}
use Rattle.osm_block.proofs.ReadingLemmas.{first-append_none, first-append_some}

abbrev pub groups_phases : List ℕ → List Phase
groups_phases w = flat_map (group_phases (context (fields w))) (each (fields w) BLOCK_PRIMITIVEGROUP)

pub stop_head : (w : List ℕ) (f : BlockFault) → first (head_phases w) ≡ Some f → fault w ≡ Some f
unfolding fault
stop_head w f s = first-append_some (head_phases w) (groups_phases w) f s

pub past_head : (w : List ℕ) (b : Context) (gs : List (List ℕ)) → first (head_phases w) ≡ None → b ≡ context (fields w) → gs ≡ each (fields w) BLOCK_PRIMITIVEGROUP → fault w ≡ first (flat_map (group_phases b) gs)
unfolding fault
past_head w b gs none is_frame is_groups =
    first-append_none (head_phases w) (groups_phases w) none
    ∙ sym (ap (λ x. first (flat_map (group_phases x) gs)) is_frame ∙ ap (λ l. first (flat_map (group_phases (context (fields w))) l)) is_groups)

pub block_is : (w : List ℕ) (b : Context) (gs : List (List ℕ)) (start out : List Element) → HeadRead b w → gs ≡ each (fields w) BLOCK_PRIMITIVEGROUP → start ≡ [] → AppendedGroups b start out gs → Block out w
block_is w b gs start out head is_groups empty a =
    let same : a.0 ≡ out = sym (a.1 ∙ ap (λ l. l ++ a.0) empty) in
    let P : Context → Type 0 = λ x. Joins (GroupOf x) a.0 gs in
    let Q : List (List ℕ) → Type 0 = λ l. Joins (GroupOf (context (fields w))) a.0 l in
    let R : List Element → Type 0 = λ l. Joins (GroupOf (context (fields w))) l (each (fields w) BLOCK_PRIMITIVEGROUP) in
    record {
      is_message = head.is_message;
      has_table = head.has_table;
      tables_are = head.tables_are;
      texts_are = head.texts_are;
      granularity = head.granularity;
      date_granularity = head.date_granularity;
      elements_are = subst R same (subst Q is_groups (subst P head.context_is a.2));
    }
