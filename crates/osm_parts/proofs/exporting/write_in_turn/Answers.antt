use Rattle.std.proofs.Common.{refl, Result, sym, subst, arith}
use Rattle.osm_import.specs.Walks.{Walks}
use Rattle.osm_import.specs.declared.export.fault.ExportFault.{ExportFault}
use Rattle.osm_import.proofs.HandedOn.{handed}
use Rattle.osm_parts.specs.Parts.{entries_in}
use Rattle.osm_parts.proofs.ExportingLemmas.{part-at, one-more, one-stops, all-turns}
use Rattle.osm_parts.proofs.exporting.write_in_turn.Goals as goal

pub returns-in_err-write_part-clause-wrote : goal.returns-in_err-write_part-clause-wrote
returns-in_err-write_part-clause-wrote g c = λ maps asked ordered holds honest each.
    let inv = c.loop-part.invariant in
    let made = c.in_err-write_part.ensures in
    let earlier = made.opens.keeps.honest honest in
    let at = part-at maps asked c.args.parts.now ordered c.loop-part.part-index c.part-item.result each c.loop-part-test.true c.part-item.is in
    subst (λ (r : Result (Unit {0}) ExportFault). Walks g.W.BlobStep.writes (g.S.Sink.written c.args.out.now) (entries_in ordered) (g.S.Sink.written c.write_part.new.out) r) (sym (handed c.from_residual.result _ c.from_residual.ensures.1))
    (one-stops g.W.BlobStep.writes maps asked c.args.parts.now ordered c.loop-part.part-index c.part-item.result (g.S.Sink.written c.args.out.now) (g.S.Sink.written c.loop-part.out) (g.S.Sink.written c.write_part.new.out)
    each c.loop-part-test.true c.part-item.is (inv.wrote maps asked ordered holds earlier each) c.in_err-write_part.field-0.0 (made.wrote maps asked at.held (inv.kept earlier maps holds) honest at.is))

pub loop-part-preserved : goal.loop-part-preserved
loop-part-preserved g c =
    let inv = c.loop-part.invariant in
    let made = c.in_ok-write_part.ensures in
    record {
      honest = λ h. inv.honest (made.opens.keeps.honest h);
      open_if = λ o. inv.open_if (made.opens.keeps.open_if o);
      kept = λ h maps holds. made.opens.ok h maps (inv.kept (made.opens.keeps.honest h) maps holds);
      counted = omega (arith, inv.counted, made.counted);
      wrote = λ maps asked ordered holds honest each.
          let earlier = made.opens.keeps.honest honest in
          let at = part-at maps asked c.args.parts.now ordered c.loop-part.part-index c.part-item.result each c.loop-part-test.true c.part-item.is in
          one-more g.W.BlobStep.writes maps asked c.args.parts.now ordered c.loop-part.part-index c.part-item.result (g.S.Sink.written c.args.out.now) (g.S.Sink.written c.loop-part.out) (g.S.Sink.written c.write_part.new.out)
          each c.loop-part-test.true c.part-item.is (inv.wrote maps asked ordered holds earlier each) at.held refl (made.wrote maps asked at.held (inv.kept earlier maps holds) honest at.is);
    }

pub returns-clause-wrote : goal.returns-clause-wrote
returns-clause-wrote g c = λ maps asked ordered holds honest each.
    all-turns g.W.BlobStep.writes maps asked c.args.parts.now ordered c.loop-part.part-index (g.S.Sink.written c.args.out.now) (g.S.Sink.written c.loop-part.out) each c.loop-part-test.false (c.loop-part.invariant.wrote maps asked ordered holds honest each)
