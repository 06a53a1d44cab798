use Rattle.std.proofs.Common.{◌≡◌, ◌+◌, length, subst}
use Rattle.std.specs.Prelude.{filter}
use Rattle.osm_rows.specs.Keeping.{extents_of}
use Rattle.osm_verify.specs.Agreements.{begins}
use Rattle.pbfrow_commands.proofs.verify.inspect.Goals as goal

pub returns-in-Ok-extents_beginning-clause-found : goal.returns-in-Ok-extents_beginning-clause-found
returns-in-Ok-extents_beginning-clause-found g c =
    let before = c.in-Ok.ensures in
    let last = c.in-Ok-extents_beginning.ensures in
    let stays = last.rereads.stays in
    record {
      judged = record {
        elements = before.judged.elements;
        elements_are = before.judged.elements_are;
        counted = before.judged.counted;
        compared = λ held holds honest. before.judged.compared held holds (stays.honest honest);
        seen = λ honest up tables. before.judged.seen (stays.honest honest) (stays.open_if up) tables;
      };
      extras_are = λ held holds honest.
          subst (λ n. c.in-Ok-extents_beginning.extras.items ≡ filter (begins n (c.args.at + length c.args.bytes.now)) (extents_of held)) c.first_extra-from.ensures (last.all held (before.rereads.ok (stays.honest honest) held holds) honest);
    }

pub returns-in-Ok-extents_beginning-clause-same : goal.returns-in-Ok-extents_beginning-clause-same
returns-in-Ok-extents_beginning-clause-same g c = λ honest up.
    let last = c.in-Ok-extents_beginning.ensures in
    g.met.K.BlobReader.same_tables_then _ _ _ (c.in-Ok.ensures.same (last.rereads.stays.honest honest) (last.rereads.stays.open_if up)) (last.same honest up)

pub returns-in-Err-extents_beginning-clause-same : goal.returns-in-Err-extents_beginning-clause-same
returns-in-Err-extents_beginning-clause-same g c = λ honest up.
    let last = c.in-Err-extents_beginning.ensures in
    g.met.K.BlobReader.same_tables_then _ _ _ (c.in-Ok.ensures.same (last.rereads.stays.honest honest) (last.rereads.stays.open_if up)) (last.same honest up)
