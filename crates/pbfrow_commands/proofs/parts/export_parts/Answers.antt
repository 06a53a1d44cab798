use Rattle.std.proofs.Common.{◌≡◌, [], true, List, Bool, inl, inr, refl, sym, subst, rules}
use Rattle.osm_value.proofs.SinkLemmas.{started}
use Rattle.osm_parts.specs.Reading.{AreRead}
use Rattle.osm_parts.specs.declared.runs.Part.{Part}
use Rattle.osm_parts.proofs.ExportingLemmas.{export-later}
use Rattle.osm_parts.proofs.ReadingLemmas.{whole-read}
use Rattle.pbfrow_commands.proofs.ExportLemmas.{cause-kept}
use Rattle.pbfrow_commands.proofs.PartsLines.{keeps-then}
use Rattle.pbfrow_commands.proofs.parts.export_parts.Goals as goal

pub returns-in-Err-clause-told : goal.returns-in-Err-clause-told
returns-in-Err-clause-told g c = λ maps holds honest all.
    inl (record { fault = c.in-Err.fault; of_maps = c.in-Err.ensures.fault maps holds honest all; cause = c.in-Err.ensures.cause; line = c.put_parts_fault.ensures _ [] (started _ _); one = refl })

pub returns-in-Lines-clause-told : goal.returns-in-Lines-clause-told
returns-in-Lines-clause-told g c = rw c.in-Lines.is (λ maps holds honest all.
    let exported = c.export_parts_as_lines-answer in
    let asked = c.eq-asks_history.result in
    let earlier = exported.ensures.opens.keeps.honest honest in
    let still = c.in-Ok.ensures.opens.ok earlier maps holds in
    let lent = subst (λ (parts : List Part). AreRead maps asked parts) (sym c.deref.ensures.value) (c.in-Ok.ensures.read maps holds earlier all) in
    let it = whole-read maps asked c.deref.result.now lent in
    inr (
      it.0,
      it.2,
      record {
        answer = exported.result;
        text = g.S.Sink.written exported.new.out;
        exports = exported.ensures.export maps asked it.0 still honest lent it.1;
        cause = export-later _ _ _ _ exported.result c.in-Ok.ensures.counted (cause-kept _ _ _ _ exported.result c.finish.ensures.kept exported.ensures.cause);
        own = exported.ensures.own maps still honest;
        ends = c.finish.ensures.ends;
      },
    ))

pub returns-in-Lines-clause-keeps : goal.returns-in-Lines-clause-keeps
returns-in-Lines-clause-keeps g c = keeps-then _ _ _ _ _ _ c.in-Ok.ensures.opens.keeps c.export_parts_as_lines-answer.ensures.opens.keeps

pub returns-clause-told : goal.returns-clause-told
returns-clause-told g c = rw c.in-Pbf.is (λ maps holds honest all.
    let is = c.in-Pbf.is in
    let exported = c.export_parts_as_pbf-answer in
    let earlier = exported.ensures.opens.keeps.honest honest in
    let still = c.in-Ok.ensures.opens.ok earlier maps holds in
    let asked : c.eq-asks_history.result ≡ true = search rules in
    let read = subst (λ (b : Bool). AreRead maps b c.in-Ok.parts.items) asked (c.in-Ok.ensures.read maps holds earlier all) in
    let lent = subst (λ (parts : List Part). AreRead maps true parts) (sym c.deref-in-Pbf.ensures.value) read in
    let it = whole-read maps true c.deref-in-Pbf.result.now lent in
    let made = exported.ensures.export maps it.0 still honest lent it.1 in
    inr (
      it.0,
      it.2,
      (
        made.0,
        made.1,
        record {
          answer = exported.result;
          text = g.S.Sink.written exported.new.out;
          exports = made.2;
          cause = export-later _ _ _ _ exported.result c.in-Ok.ensures.counted (cause-kept _ _ _ _ exported.result c.finish-in-Pbf.ensures.kept exported.ensures.cause);
          own = exported.ensures.own maps still honest;
          ends = c.finish-in-Pbf.ensures.ends;
        },
      ),
    ))

pub returns-clause-keeps : goal.returns-clause-keeps
returns-clause-keeps g c = keeps-then _ _ _ _ _ _ c.in-Ok.ensures.opens.keeps c.export_parts_as_pbf-answer.ensures.opens.keeps
