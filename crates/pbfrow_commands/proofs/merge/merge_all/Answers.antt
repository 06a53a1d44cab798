use Rattle.std.proofs.Common.{[], Ok, Err, refl, arith}
use Rattle.osm_value.proofs.SinkLemmas.{started}
use Rattle.osm_import.proofs.CopiesLemmas.{held-still}
use Rattle.pbfrow_commands.proofs.MergingLemmas.{copied-merges, merges-take}
use Rattle.pbfrow_commands.proofs.merge.merge_all.Goals as goal

pub returns-in-Ok-clause-union : goal.returns-in-Ok-clause-union
returns-in-Ok-clause-union g c = λ maps held holds honest all into_holds into_honest zero.
    let made = c.in-Ok.ensures.merges in
    let it = made.1.merges maps held holds honest all into_holds into_honest in
    (it.0, copied-merges maps made.0 held it.0 it.1, it.2)

pub returns-in-Ok-clause-kept : goal.returns-in-Ok-clause-kept
returns-in-Ok-clause-kept g c = λ maps held holds honest all into_holds into_honest up.
    let made = c.in-Ok.ensures.merges in
    let into = c.merge_each.new.into in
    merges-take (g.T.BlobReader.is_open into) (g.T.BlobReader.holds into) maps held made.0 (Ok c.in-Ok.total) (made.1.merges maps held holds honest all into_holds into_honest) up

pub returns-in-Ok-clause-merges : goal.returns-in-Ok-clause-merges
returns-in-Ok-clause-merges g c =
    let made = c.in-Ok.ensures.merges in
    let old = g.S.Sink.written c.args.out.now in
    record { counts = made.0; outcome = Ok c.in-Ok.total; merges = made.1; total = made.2; text = c.end_merge.ensures.line old _ (made.3 old [] (started _ _)); status_is = c.end_merge.ensures.status }

pub returns-in-Err-clause-union : goal.returns-in-Err-clause-union
returns-in-Err-clause-union g c = λ maps held holds honest all into_holds into_honest zero. absurd (omega (arith, zero))

pub returns-in-Err-clause-kept : goal.returns-in-Err-clause-kept
returns-in-Err-clause-kept g c = λ maps held holds honest all into_holds into_honest up.
    let made = c.in-Err.ensures.merges in
    let into = c.merge_each.new.into in
    merges-take (g.T.BlobReader.is_open into) (g.T.BlobReader.holds into) maps held made.0 (Err c.in-Err.field-0) (made.1.merges maps held holds honest all into_holds into_honest) up

pub returns-in-Err-clause-merges : goal.returns-in-Err-clause-merges
returns-in-Err-clause-merges g c =
    let made = c.in-Err.ensures.merges in
    let old = g.S.Sink.written c.args.out.now in
    record { counts = made.0; outcome = Err c.in-Err.field-0; merges = made.1; total = tt; text = made.3 old [] (started _ _); status_is = refl }

pub returns-in-Ok-clause-stays : goal.returns-in-Ok-clause-stays
returns-in-Ok-clause-stays g c = record {
  still = λ held into_holds into_honest. held-still g.T.BlobReader c.merge_each.new.into (Ok c.in-Ok.total) held (c.in-Ok.ensures.merges.1.kept held into_holds into_honest);
  left = λ held into_holds into_honest. (c.in-Ok.ensures.merges.1.kept held into_holds into_honest).crash;
  honest = c.in-Ok.ensures.honest;
  open_if = c.in-Ok.ensures.open_if;
}

pub returns-in-Err-clause-stays : goal.returns-in-Err-clause-stays
returns-in-Err-clause-stays g c = record {
  still = λ held into_holds into_honest. held-still g.T.BlobReader c.merge_each.new.into (Err c.in-Err.field-0) held (c.in-Err.ensures.merges.1.kept held into_holds into_honest);
  left = λ held into_holds into_honest. (c.in-Err.ensures.merges.1.kept held into_holds into_honest).crash;
  honest = c.in-Err.ensures.honest;
  open_if = c.in-Err.ensures.open_if;
}
