use Rattle.std.proofs.Common.{rules, ◌∙◌, ◌++◌, ap, map, Err, Vec, Global}
use Rattle.std.specs.Prelude.{⊤}
use Rattle.osm_value.specs.declared.element.Element.{Element}
use Rattle.pbf_wire.specs.Readings.{fields}
use Rattle.pbf_wire.specs.Readings.{each}
use Rattle.osm_block.specs.declared.fields.TheConstants.{BLOCK_PRIMITIVEGROUP}
use Rattle.osm_block.specs.Block.{Block}
use Rattle.osm_block.specs.Fields.{context_of}
use Rattle.osm_block.specs.Phases.{Gives, fault}
use Rattle.osm_block.proofs.ReadingLemmas.{Gives-err}
use Rattle.osm_block.proofs.BlockLemmas.{stop_head, past_head, block_is}
use Rattle.osm_block.proofs.block.read_block.Goals as goal

pub returns-in_err-scale : goal.returns-in_err-scale
returns-in_err-scale c =
    let refused : Gives {A = Vec Element Global} (λ es. Block es.items c.args.bytes.now) (fault c.args.bytes.now) (Err c.in_err-scale.field-0.0) =
    Gives-err {A = Unit {0}} (λ _. ⊤) (λ (es : Vec Element Global). Block es.items c.args.bytes.now) _ _ _ (stop_head c.args.bytes.now) c.in_err-scale.ensures.phase in
    search rules

pub returns-in_err-read_groups : goal.returns-in_err-read_groups
returns-in_err-read_groups c =
    let groups = ap (map (λ x. x.now)) c.deref.ensures.value ∙ c.in_ok-each.ensures ∙ ap (λ l. map (λ x. x.now) l ++ each (fields c.args.bytes.now) BLOCK_PRIMITIVEGROUP) c.new-groups.ensures.items in
    let past = past_head c.args.bytes.now (context_of c.in_ok-scale.scale) _ c.in_ok-scale.ensures.phase.0 c.in_ok-scale.ensures.read.context_is groups in
    let refused : Gives {A = Vec Element Global} (λ es. Block es.items c.args.bytes.now) (fault c.args.bytes.now) (Err c.in_err-read_groups.field-0.0) =
    Gives-err {A = Unit {0}} (λ _. ⊤) (λ (es : Vec Element Global). Block es.items c.args.bytes.now) _ _ _ (λ f s. past ∙ s) c.in_err-read_groups.ensures.phase in
    search rules

pub returns : goal.returns
returns c =
    let groups = ap (map (λ x. x.now)) c.deref.ensures.value ∙ c.in_ok-each.ensures ∙ ap (λ l. map (λ x. x.now) l ++ each (fields c.args.bytes.now) BLOCK_PRIMITIVEGROUP) c.new-groups.ensures.items in
    let past = past_head c.args.bytes.now (context_of c.in_ok-scale.scale) _ c.in_ok-scale.ensures.phase.0 c.in_ok-scale.ensures.read.context_is groups in
    (past ∙ c.in_ok-read_groups.ensures.phase.0, block_is _ _ _ _ _ c.in_ok-scale.ensures.read groups c.new-out.ensures.items c.in_ok-read_groups.ensures.read)
