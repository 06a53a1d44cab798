use Rattle.std.proofs.Common.{rules, w64, FitsSigned}
use Rattle.std.proofs.lemmas.Int.{to_z-of_z}
use Rattle.osm_value.proofs.SinkLemmas.{Wrote-text}
use Rattle.pbfrow_reading.specs.Showing.{box_line}
use Rattle.pbfrow_reading.proofs.CommandTexts.{box_parts}
use Rattle.pbfrow_reading.proofs.ShowLemmas.{some_text}
use Rattle.pbfrow_reading.proofs.show.put_box.Goals as goal

pub returns : goal.returns
returns g c = λ start before h.
    let b = c.in-Some.bbox in
    let left : FitsSigned w64 b.left = search rules in
    let right : FitsSigned w64 b.right = search rules in
    let top : FitsSigned w64 b.top = search rules in
    let bottom : FitsSigned w64 b.bottom = search rules in
    Wrote-text start _ _ _ _
    (some_text box_line before _ c.args.bbox b c.in-Some.is (box_parts before _ _ _ _ b (to_z-of_z w64 _ left) (to_z-of_z w64 _ right) (to_z-of_z w64 _ top) (to_z-of_z w64 _ bottom)))
    (c.put-5.ensures start _
    (c.put_number-4.ensures start _
    (c.put-4.ensures start _
    (c.put_number-3.ensures start _ (c.put-3.ensures start _ (c.put_number-2.ensures start _ (c.put-2.ensures start _ (c.put_number.ensures start _ (c.put.ensures start before h)))))))))
