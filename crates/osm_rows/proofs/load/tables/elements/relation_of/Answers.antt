use Rattle.std.proofs.Common.{rules, ◌∙◌, ◌<◌, ap, sym, subst, length, arith, Some, FitsSigned, w64}
use Rattle.std.proofs.lemmas.Int.{to_z-of_z}
use Rattle.sqlite.specs.Order.{Row, column}
use Rattle.osm_value.specs.declared.element.Element.TheVariants as elements
use Rattle.osm_value.specs.Value.{RelationValue}
use Rattle.osm_rows.proofs.LoadLemmas.ElementsMade.{relation_is}
use Rattle.osm_rows.proofs.LoadLemmas.StoredRows.{some_is, some_or_none}
use Rattle.osm_rows.proofs.load.tables.elements.relation_of.Goals as goal

pub returns-in_err-info : goal.returns-in_err-info
returns-in_err-info c off position relation is row members tags = absurd (some_or_none _ _ (c.info_of.ensures (off, position, elements.Relation relation) is.info row) c.in_err-info.was)

pub returns-then-has_no_place : goal.returns-then-has_no_place
returns-then-has_no_place c off position relation is row members tags =
    let id_fits : FitsSigned w64 c.in_ok-id.id = search rules in
    let long : 3 < length c.args.row.now = subst (λ (r : Row). 3 < length r) (sym row) (omega arith) in
    let id = to_z-of_z w64 c.in_ok-id.id id_fits ∙ some_is _ _ (c.in_ok-id.ensures.exact relation.id is.id long (ap (λ (r : Row). column r 3) row)) in
    let info = some_is _ _ (c.in_ok-info.ensures (off, position, elements.Relation relation) is.info row) in
    ap (λ (r : RelationValue). Some (elements.Relation r)) (c.new.ensures ∙ relation_is relation _ _ _ _ id members tags info)
