use Rattle.std.proofs.Common.{List, ℕ, Result, sym, subst}
use Rattle.osm_value.specs.declared.element.Element.{Element}
use Rattle.osm_write.specs.Cutter.{StepOk}
use Rattle.osm_import.specs.Pbf.{WritesBlocks}
use Rattle.osm_import.specs.declared.export.fault.ExportFault.{ExportFault}
use Rattle.osm_import.proofs.HandedOn.{handed}
use Rattle.osm_import.proofs.PbfLemmas.{CutSoFar, cut-more, cut-err}
use Rattle.osm_import.proofs.export.pbf.write_blocks.Goals as goal

pub returns-in_err-write_payload-clause-wrote : goal.returns-in_err-write_payload-clause-wrote
returns-in_err-write_payload-clause-wrote g c =
    let next = rw c.in-Ok-Some.field-0-is at c.in-Ok-Some.ensures.exact in
    let step = subst (λ (block : List ℕ). StepOk c.loop-block.cutter block next.0) (sym c.deref.ensures.value) next.1 in
    subst (λ (r : Result (Unit {0}) ExportFault). WritesBlocks (g.S.Sink.written c.args.out.now) c.args.elements.now (g.S.Sink.written c.write_payload.new.out) r) (sym (handed c.from_residual.result _ c.from_residual.ensures.1))
    (cut-err (g.S.Sink.written c.args.out.now) (g.S.Sink.written c.loop-block.out) (g.S.Sink.written c.write_payload.new.out) c.args.elements.now c.loop-block.cutter c.deref.result.now next.0 c.in_err-write_payload.field-0.0
    c.loop-block.invariant step c.in_err-write_payload.ensures.wrote)

pub loop-block-preserved : goal.loop-block-preserved
loop-block-preserved g c =
    let next = rw c.in-Ok-Some.field-0-is at c.in-Ok-Some.ensures.exact in
    let step = subst (λ (block : List ℕ). StepOk c.loop-block.cutter block next.0) (sym c.deref.ensures.value) next.1 in
    subst (λ (rest : List Element). CutSoFar (g.S.Sink.written c.args.out.now) (g.S.Sink.written c.write_payload.new.out) c.args.elements.now rest) (sym next.2)
    (cut-more (g.S.Sink.written c.args.out.now) (g.S.Sink.written c.loop-block.out) (g.S.Sink.written c.write_payload.new.out) c.args.elements.now c.loop-block.cutter c.deref.result.now next.0
    c.loop-block.invariant step c.in_ok-write_payload.ensures.wrote)
