use Rattle.std.proofs.Common.{rules, ◌≡◌, ◌∙◌, ◌<◌, ap, sym, subst, length, arith, Some, ℕ, FitsSigned, to_z, of_z, w64}
use Rattle.std.proofs.lemmas.Int.{to_z-of_z}
use Rattle.sqlite.specs.Order.{Row, column}
use Rattle.osm_value.specs.declared.element.Element.TheVariants as elements
use Rattle.osm_value.specs.Value.{NodeValue}
use Rattle.osm_rows.specs.TableRows.{element_row}
use Rattle.osm_rows.proofs.LoadLemmas.ElementsMade.{node_is}
use Rattle.osm_rows.proofs.LoadLemmas.StoredRows.{some_is, some_or_none}
use Rattle.osm_rows.proofs.load.tables.elements.node_of.Goals as goal

pub returns-in_err-info : goal.returns-in_err-info
returns-in_err-info c off position node is row none tags = absurd (some_or_none _ _ (c.info_of.ensures (off, position, elements.Node node) is.info row) c.in_err-info.was)

pub returns-then-is_empty : goal.returns-then-is_empty
returns-then-is_empty c off position node is row none tags =
    let id_fits : FitsSigned w64 c.in_ok-id.id = search rules in
    let lat_fits : FitsSigned w64 c.in_ok-lat.lat = search rules in
    let lon_fits : FitsSigned w64 c.in_ok-lon.lon = search rules in
    let long : (at : ℕ) → at < 12 → at < length c.args.row.now = λ at low. subst (λ (r : Row). at < length r) (sym row) low in
    let at : (k : ℕ) → column c.args.row.now k ≡ column (element_row (off, position, elements.Node node)) k = λ k. ap (λ (r : Row). column r k) row in
    let id : to_z w64 (of_z w64 c.in_ok-id.id) ≡ node.id = to_z-of_z w64 c.in_ok-id.id id_fits ∙ some_is _ _ (c.in_ok-id.ensures.exact node.id is.id (long 3 (omega arith)) (at 3)) in
    let lat : to_z w64 (of_z w64 c.in_ok-lat.lat) ≡ node.lat = to_z-of_z w64 c.in_ok-lat.lat lat_fits ∙ some_is _ _ (c.in_ok-lat.ensures.exact node.lat is.lat (long 4 (omega arith)) (at 4)) in
    let lon : to_z w64 (of_z w64 c.in_ok-lon.lon) ≡ node.lon = to_z-of_z w64 c.in_ok-lon.lon lon_fits ∙ some_is _ _ (c.in_ok-lon.ensures.exact node.lon is.lon (long 5 (omega arith)) (at 5)) in
    let info = some_is _ _ (c.in_ok-info.ensures (off, position, elements.Node node) is.info row) in
    ap (λ (n : NodeValue). Some (elements.Node n)) (c.new.ensures ∙ node_is node _ _ _ _ _ id lat lon tags info)
