-- A block for which no phase stands says some elements, since this holds of each of its messages.
use Rattle.std.proofs.Common.{◌≡◌, ◌≤◌, ℕ, List, [], ◌∷◌, ◌++◌, map, refl, sym, ◌∙◌, Option, Some, None, true, not, arith, pos}
use Rattle.std.specs.Prelude.{nat_le}
use Rattle.std.specs.List.{flat_map, list_all, AllByRecursion}
use Rattle.std.specs.Str.{is_utf8}
use Rattle.std.proofs.lemmas.Bool.Decides.{nat_tests}
use Rattle.osm_value.specs.declared.element.Element.{Element}
use Rattle.osm_value.specs.declared.element.Element.TheVariants as elements
use Rattle.osm_value.specs.Ranges.{IsText, has_no_nul}
use Rattle.osm_value.specs.Value.{Text}
use Rattle.pbf_wire.specs.declared.fault.WireFault.{WireFault}
use Rattle.pbf_wire.specs.Readings.{fields, wire, each, is_there}
use Rattle.osm_block.specs.declared.fields.TheConstants.{BLOCK_PRIMITIVEGROUP, BLOCK_STRINGTABLE}
use Rattle.osm_block.specs.declared.fault.BlockFault.TheVariants as faults
use Rattle.osm_block.specs.Message.{Context, Message, Plain, Dense, Way, Relation, wires, messages, node_message, dense_message, way_message, relation_message, context}
use Rattle.osm_block.specs.Block.{Block, Joins, GroupOf, kinds_in}
use Rattle.osm_block.specs.Reads.{Says}
use Rattle.osm_block.specs.Texts.{is_text}
use Rattle.osm_block.specs.Phases.{Phase, first, when, wire_phases, phases_after_wire, message_phases, group_phases, text_phases, fault, head_phases}
use Rattle.osm_block.proofs.ReadingLemmas.{first-append_none}
use Rattle.osm_block.proofs.LoopLemmas.{first-front_none, message_wire}
use Rattle.osm_block.proofs.HeadLemmas.{tables, texts as head_texts, scales, last_phase, all_none}
use Rattle.osm_block.proofs.BlockLemmas.{groups_phases}
use Rattle.osm_block.proofs.CoordinateLemmas.{le_true}
use Rattle.osm_block.proofs.IndexesLemmas.{and_left, and_right}
use Rattle.osm_block.proofs.RangeLemmas.{both, text_from, table_passes}
use Rattle.osm_block.proofs.FaultlessElements.{none_stands, is_true, node_of, way_of, relation_of}
use Rattle.osm_block.proofs.FaultlessNodes.{dense_of}

-- ---- lists of phases

-- where none of two lists stands, none of the second does
rest_none : (ps qs : List Phase) → first (ps ++ qs) ≡ None → first qs ≡ None
rest_none ps qs e = sym (first-append_none ps qs (first-front_none ps qs e)) ∙ e

-- a payload is a message where the phase of its wire doesn't stand
is_message_by : (o : Option WireFault) → first (wire_phases (o ∷ [])) ≡ None → o ≡ None
is_message_by None e = refl
is_message_by (Some f) e = absurd cc

-- parts for which nothing stands are joined to a list
joined : {A B : Type 0} (R : List A → B → Type 0) (phases : B → List Phase) → ((x : B) → first (phases x) ≡ None → (es : List A) × R es x) →
    (xs : List B) → first (flat_map phases xs) ≡ None → (es : List A) × Joins R es xs
joined R phases some [] e = ([], refl)
joined R phases some (x ∷ xs) e =
    let front = some x (first-front_none (phases x) (flat_map phases xs) e) in
    let rest = joined R phases some xs (rest_none (phases x) (flat_map phases xs) e) in
    (front.0 ++ rest.0, (front.0, rest.0, refl, front.1, rest.1))

-- ---- a message, and a group

pub after_wire : (b : Context) (m : Message) → first (message_phases b m) ≡ None → first (phases_after_wire b m) ≡ None
after_wire b m e = rest_none (wire_phases (wires m)) (phases_after_wire b m) e

message_of : (b : Context) → list_all is_text b.table ≡ true → (m : Message) → first (message_phases b m) ≡ None → (es : List Element) × Says b es m
message_of b texts (Plain p) e =
    let n = node_of b (node_message (fields p)) texts (after_wire b (Plain p) e) in
    (elements.Node n.0 ∷ [], (message_wire b (Plain p) e, (n.0, refl, n.1)))
message_of b texts (Dense ps) e =
    let ns = dense_of b (dense_message (flat_map fields ps)) texts (after_wire b (Dense ps) e) in
    (map elements.Node ns.0, (message_wire b (Dense ps) e, (ns.0, refl, ns.1)))
message_of b texts (Way p) e =
    let w = way_of b (way_message (fields p)) texts (after_wire b (Way p) e) in
    (elements.Way w.0 ∷ [], (message_wire b (Way p) e, (w.0, refl, w.1)))
message_of b texts (Relation p) e =
    let r = relation_of b (relation_message (fields p)) texts (after_wire b (Relation p) e) in
    (elements.Relation r.0 ∷ [], (message_wire b (Relation p) e, (r.0, refl, r.1)))

at_most_one : (n : ℕ) → nat_le n 1 ≡ true → n ≤ 1
at_most_one n h = grind (arith, nat_tests)

group_of : (b : Context) → list_all is_text b.table ≡ true → (g : List ℕ) → first (group_phases b g) ≡ None → (es : List Element) × GroupOf b es g
group_of b texts g e =
    let kinds : Phase = when (not (nat_le (kinds_in (fields g)) 1)) faults.MixedGroup in
    let inside : List Phase = flat_map (message_phases b) (messages (fields g)) in
    let later : first (kinds ∷ [] ++ inside) ≡ None = rest_none (wire_phases (wire g ∷ [])) (kinds ∷ inside) e in
    let one = none_stands (kinds ∷ []) (first-front_none (kinds ∷ []) inside later) in
    let es = joined (Says b) (message_phases b) (message_of b texts) (messages (fields g)) (rest_none (kinds ∷ []) inside later) in (
      es.0,
      record {
        is_message = is_message_by (wire g) (first-front_none (wire_phases (wire g ∷ [])) (kinds ∷ inside) e);
        one_kind = at_most_one (kinds_in (fields g)) (is_true (nat_le (kinds_in (fields g)) 1) faults.MixedGroup one.0);
        elements_are = es.1;
      },
    )

-- ---- what stands before the groups

all_texts : (ts : List Text) → first (flat_map text_phases ts) ≡ None → AllByRecursion IsText ts
all_texts [] e = tt
all_texts (t ∷ ts) e =
    let p = none_stands (text_phases t) (first-front_none (text_phases t) (flat_map text_phases ts) e) in (
      text_from t (both (is_utf8 t) (has_no_nul t) (is_true (is_utf8 t) faults.TextNotUtf8 p.0) (is_true (has_no_nul t) faults.TextHasNul p.1.0)),
      all_texts ts (rest_none (text_phases t) (flat_map text_phases ts) e),
    )

-- the parts of a head for which no phase stands
record Head (w : List ℕ) : Type 0 where
  pub is_message : wire w ≡ None
  pub has_table : is_there (each (fields w) BLOCK_STRINGTABLE) ≡ true
  pub tables_are : AllByRecursion (λ p. wire p ≡ None) (each (fields w) BLOCK_STRINGTABLE)
  pub texts_are : AllByRecursion IsText (context (fields w)).table
  pub scales_are : scales w ≡ true

head_of : (w : List ℕ) → first (head_phases w) ≡ None → Head w
head_of w e =
    let has : Phase = when (not (is_there (each (fields w) BLOCK_STRINGTABLE))) faults.NoStringTable in
    let front : List Phase = wire_phases (wire w ∷ []) ++ has ∷ [] in
    let split : first (front ++ ((tables w ++ head_texts w) ++ last_phase w)) ≡ None = e in
    let two = first-front_none front ((tables w ++ head_texts w) ++ last_phase w) split in
    let later = rest_none front ((tables w ++ head_texts w) ++ last_phase w) split in
    let inside = first-front_none (tables w ++ head_texts w) (last_phase w) later in
    let there = none_stands (has ∷ []) (rest_none (wire_phases (wire w ∷ [])) (has ∷ []) two) in
    let scale = none_stands (last_phase w) (rest_none (tables w ++ head_texts w) (last_phase w) later) in
    record {
      is_message = is_message_by (wire w) (first-front_none (wire_phases (wire w ∷ [])) (has ∷ []) two);
      has_table = is_true (is_there (each (fields w) BLOCK_STRINGTABLE)) faults.NoStringTable there.0;
      tables_are = all_none (each (fields w) BLOCK_STRINGTABLE) (first-front_none (tables w) (head_texts w) inside);
      texts_are = all_texts (context (fields w)).table (rest_none (tables w) (head_texts w) inside);
      scales_are = is_true (scales w) faults.BadGranularity scale.0;
    }

-- ---- the block

pub block_of : (w : List ℕ) → fault w ≡ None → (es : List Element) × Block es w
unfolding fault
block_of w e =
    let b : Context = context (fields w) in
    let parts : first (head_phases w ++ groups_phases w) ≡ None = e in
    let head = head_of w (first-front_none (head_phases w) (groups_phases w) parts) in
    let es = joined (GroupOf b) (group_phases b) (group_of b (table_passes b.table head.texts_are)) (each (fields w) BLOCK_PRIMITIVEGROUP) (rest_none (head_phases w) (groups_phases w) parts) in (
      es.0,
      record {
        is_message = head.is_message;
        has_table = head.has_table;
        tables_are = head.tables_are;
        texts_are = head.texts_are;
        granularity = le_true (pos 1) b.granularity (and_left _ _ head.scales_are);
        date_granularity = le_true (pos 1) b.date_granularity (and_right _ _ head.scales_are);
        elements_are = es.1;
      },
    )
