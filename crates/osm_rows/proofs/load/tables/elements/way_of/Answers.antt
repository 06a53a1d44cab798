use Rattle.std.proofs.Common.{rules, ◌∙◌, ◌<◌, ap, sym, subst, length, arith, Some, FitsSigned, w64}
use Rattle.std.proofs.lemmas.Int.{to_z-of_z}
use Rattle.sqlite.specs.Order.{Row, column}
use Rattle.osm_value.specs.declared.element.Element.TheVariants as elements
use Rattle.osm_value.specs.Value.{WayValue}
use Rattle.osm_rows.proofs.LoadLemmas.ElementsMade.{way_is}
use Rattle.osm_rows.proofs.LoadLemmas.StoredRows.{some_is, some_or_none}
use Rattle.osm_rows.proofs.load.tables.elements.way_of.Goals as goal

pub returns-in_err-info : goal.returns-in_err-info
returns-in_err-info c off position way is row refs tags = absurd (some_or_none _ _ (c.info_of.ensures (off, position, elements.Way way) is.info row) c.in_err-info.was)

pub returns-then-has_no_place : goal.returns-then-has_no_place
returns-then-has_no_place c off position way is row refs tags =
    let id_fits : FitsSigned w64 c.in_ok-id.id = search rules in
    let long : 3 < length c.args.row.now = subst (λ (r : Row). 3 < length r) (sym row) (omega arith) in
    let id = to_z-of_z w64 c.in_ok-id.id id_fits ∙ some_is _ _ (c.in_ok-id.ensures.exact way.id is.id long (ap (λ (r : Row). column r 3) row)) in
    let info = some_is _ _ (c.in_ok-info.ensures (off, position, elements.Way way) is.info row) in
    ap (λ (w : WayValue). Some (elements.Way w)) (c.new.ensures ∙ way_is way _ _ _ _ id refs tags info)
