use Rattle.std.proofs.Common.{◌++◌, ◌∙◌, List, refl, ap, append_assoc}
use Rattle.osm_rows.specs.declared.keeper.Extent.{Extent}
use Rattle.osm_value.proofs.SinkLemmas.{Wrote-text}
use Rattle.pbfrow_commands.specs.Verifying.{Compared, comparison_line, extra_lines}
use Rattle.pbfrow_reading.specs.Walks.{Part}
use Rattle.pbfrow_commands.proofs.verify.compare_blob.Goals as goal

pub returns-clause-told : goal.returns-clause-told
returns-clause-told g c = λ held holds honest.
    let finding = c.in-Ok.finding in
    let known = c.in-Ok.ensures.found in
    let p : Part Compared =
    record { type_name = c.requires.frame.0; blob = c.requires.frame.1; bytes = c.args.bytes.now; found = record { verdict = finding.verdict; extras = finding.extras.items; elements = known.judged.elements } } in (
      p,
      record { bytes_are = refl; is_part = c.requires.frame.2; counted = λ blobs is. c.add.ensures blobs p refl refl is; rows = known.judged.counted },
      record { judged = known.judged.compared held holds honest; extras = known.extras_are held holds honest; elements_are = known.judged.elements_are },
      (λ start before h.
          Wrote-text start _ _ _ _
          (append_assoc before (comparison_line c.args.at finding.verdict) (extra_lines c.deref.result.now)
          ∙ ap (λ (es : List Extent). before ++ (comparison_line c.args.at finding.verdict ++ extra_lines es)) c.deref.ensures.value)
          (c.put_extras.ensures start _ (c.put_verdict.ensures start before h))),
    )

pub returns-clause-seen : goal.returns-clause-seen
returns-clause-seen g c =
    let finding = c.in-Ok.finding in
    let known = c.in-Ok.ensures.found in
    let p : Part Compared =
    record { type_name = c.requires.frame.0; blob = c.requires.frame.1; bytes = c.args.bytes.now; found = record { verdict = finding.verdict; extras = finding.extras.items; elements = known.judged.elements } } in (
      p,
      record { bytes_are = refl; is_part = c.requires.frame.2; counted = λ blobs is. c.add.ensures blobs p refl refl is; rows = known.judged.counted },
      known.judged.elements_are,
      known.judged.seen,
    )

pub returns-clause-reads : goal.returns-clause-reads
returns-clause-reads g c =
    let read = c.in-Ok.ensures in
    record {
      same = read.same;
      rereads = record { stays = read.rereads.stays; ok = read.rereads.ok };
      own = λ held holds honest. tt;
      cause = tt;
      counted = read.counted;
    }

pub returns-in-Err-clause-reads : goal.returns-in-Err-clause-reads
returns-in-Err-clause-reads g c =
    let read = c.in-Err.ensures in
    record {
      same = read.same;
      rereads = record { stays = read.rereads.stays; ok = tt };
      own = read.own;
      cause = read.cause;
      counted = read.counted;
    }
