use Rattle.std.proofs.Common.{rules, ◌∙◌, ◌++◌, [], refl, ap, map, List, Vec, Global, Err}
use Rattle.std.specs.Prelude.{⊤}
use Rattle.osm_value.specs.declared.element.Element.{Element}
use Rattle.pbf_wire.specs.Readings.{fields, each}
use Rattle.osm_block.specs.declared.fields.TheConstants.{BLOCK_PRIMITIVEGROUP}
use Rattle.osm_block.specs.declared.groups.GroupElements.{GroupElements}
use Rattle.osm_block.specs.declared.groups.BlockGroups.{BlockGroups}
use Rattle.osm_block.specs.Block.{Block}
use Rattle.osm_block.specs.Fields.{context_of}
use Rattle.osm_block.specs.Groups.{GroupsHold}
use Rattle.osm_block.specs.GroupsRead.{GroupsRead}
use Rattle.osm_block.specs.Phases.{Gives, fault}
use Rattle.osm_block.proofs.ReadingLemmas.{Gives-err}
use Rattle.osm_block.proofs.BlockLemmas.{stop_head, past_head, block_is}
use Rattle.osm_block.proofs.groups.read_block_groups.Goals as goal

pub returns-in_err-scale : goal.returns-in_err-scale
returns-in_err-scale c =
    let w = c.args.bytes.now in
    let refused : Gives {A = BlockGroups} (λ g. (es : List Element) × Block es w × GroupsHold g es) (fault w) (Err c.in_err-scale.field-0.0) =
    Gives-err {A = Unit {0}} (λ _. ⊤) (λ (g : BlockGroups). (es : List Element) × Block es w × GroupsHold g es) _ _ _ (stop_head w) c.in_err-scale.ensures.phase in
    search rules

pub returns-in_err-groups : goal.returns-in_err-groups
returns-in_err-groups c =
    let w = c.args.bytes.now in
    let b = context_of c.in_ok-scale.scale in
    let groups = ap (map (λ x. x.now)) c.deref.ensures.value ∙ c.in_ok-each.ensures ∙ ap (λ l. map (λ x. x.now) l ++ each (fields w) BLOCK_PRIMITIVEGROUP) c.new-payloads.ensures.items in
    let past = past_head w b _ c.in_ok-scale.ensures.phase.0 c.in_ok-scale.ensures.read.context_is groups in
    let refused : Gives {A = BlockGroups} (λ g. (es : List Element) × Block es w × GroupsHold g es) (fault w) (Err c.in_err-groups.field-0.0) =
    Gives-err {A = Vec GroupElements Global} (λ gs. GroupsRead b gs.items (map (λ x. x.now) c.deref.result.now)) (λ (g : BlockGroups). (es : List Element) × Block es w × GroupsHold g es) _ _ _ (λ f s. past ∙ s) c.in_err-groups.ensures in
    search rules

pub returns : goal.returns
returns c =
    let w = c.args.bytes.now in
    let b = context_of c.in_ok-scale.scale in
    let groups = ap (map (λ x. x.now)) c.deref.ensures.value ∙ c.in_ok-each.ensures ∙ ap (λ l. map (λ x. x.now) l ++ each (fields w) BLOCK_PRIMITIVEGROUP) c.new-payloads.ensures.items in
    let past = past_head w b _ c.in_ok-scale.ensures.phase.0 c.in_ok-scale.ensures.read.context_is groups in
    let read = c.in_ok-groups.ensures.1 in
    (past ∙ c.in_ok-groups.ensures.0, (read.0, block_is w b _ [] read.0 c.in_ok-scale.ensures.read groups refl (read.0, refl, read.1), read.2))
