use Rattle.std.proofs.Common.{rules, w64, FitsSigned}
use Rattle.std.proofs.lemmas.Int.{to_z-of_z}
use Rattle.osm_value.proofs.SinkLemmas.{Wrote-text}
use Rattle.pbfrow_reading.specs.Showing.{number_line}
use Rattle.pbfrow_reading.proofs.CommandTexts.{number_parts}
use Rattle.pbfrow_reading.proofs.ShowLemmas.{no_text, some_text}
use Rattle.pbfrow_reading.proofs.show.put_optional_number.Goals as goal

pub returns-in_default : goal.returns-in_default
returns-in_default g c = λ start before h. Wrote-text start _ _ _ _ (no_text (number_line c.args.label.now) before c.args.number c.in_default.is) h

pub returns : goal.returns
returns g c = λ start before h.
    let fits : FitsSigned w64 c.in-Some.number = search rules in
    Wrote-text start _ _ _ _
    (some_text (number_line c.args.label.now) before _ c.args.number c.in-Some.number c.in-Some.is (number_parts before c.args.label.now _ c.in-Some.number (to_z-of_z w64 _ fits)))
    (c.put-2.ensures start _ (c.put_number.ensures start _ (c.put.ensures start before h)))
