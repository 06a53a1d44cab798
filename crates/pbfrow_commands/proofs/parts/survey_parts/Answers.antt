use Rattle.std.proofs.Common.{false, List, sym, subst, ◌∙◌}
use Rattle.osm_parts.specs.Reading.{AreRead}
use Rattle.osm_parts.specs.declared.runs.Part.{Part}
use Rattle.osm_parts.proofs.ReadingLemmas.{read-apart, whole-read}
use Rattle.pbfrow_commands.proofs.parts.survey_parts.Goals as goal

pub returns-clause-told : goal.returns-clause-told
returns-clause-told g c = λ maps holds honest all.
    let read = c.in_ok-parts.ensures.read maps holds honest all in
    let lent = subst (λ (parts : List Part). AreRead maps false parts) (sym c.deref.ensures.value) read in
    let it = whole-read maps false c.deref.result.now lent in
    let are = c.deref-2.ensures.value ∙ c.in_ok-extents.ensures.whole maps false it.0 lent it.1 in
    (it.0, it.2, c.in_ok-holdings.ensures it.0 (read-apart maps false c.deref.result.now it.0 lent it.1) are)
