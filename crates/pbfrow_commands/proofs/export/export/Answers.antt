use Rattle.pbfrow_commands.proofs.ExportLemmas.{cause-kept}
use Rattle.pbfrow_commands.proofs.export.export.Goals as goal

pub returns-in-Lines-clause-told : goal.returns-in-Lines-clause-told
returns-in-Lines-clause-told g c = rw c.in-Lines.is (λ held holds honest.
    let exported = c.export_lines-answer in
    record {
      answer = exported.result;
      text = g.S.Sink.written exported.new.out;
      exports = exported.ensures.export held holds honest;
      cause = cause-kept _ _ _ _ exported.result c.finish.ensures.kept exported.ensures.cause;
      own = exported.ensures.own held holds honest;
      ends = c.finish.ensures.ends;
    })

pub returns-in-Pbf-clause-told : goal.returns-in-Pbf-clause-told
returns-in-Pbf-clause-told g c = rw c.in-Pbf.is (λ held holds honest.
    let exported = c.export_pbf-answer in
    record {
      answer = exported.result;
      text = g.S.Sink.written exported.new.out;
      exports = exported.ensures.export held holds honest;
      cause = cause-kept _ _ _ _ exported.result c.finish-in-Pbf.ensures.kept exported.ensures.cause;
      own = exported.ensures.own held holds honest;
      ends = c.finish-in-Pbf.ensures.ends;
    })
