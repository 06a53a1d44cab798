use Rattle.std.proofs.Common.{rules, ap, ◌∙◌, refl, FitsSigned, w64, ℤ, Bool, pos, if◌then◌else◌}
use Rattle.std.proofs.lemmas.Int.{to_z-of_z}
use Rattle.std.proofs.lemmas.List.{map-append}
use Rattle.sqlite.specs.declared.types.Value.TheVariants.{Int}
use Rattle.sqlite.specs.Values.{bound, bound_value}
use Rattle.osm_rows.proofs.PutLemmas.BoundValues.{bound_or_null, bound_words}
use Rattle.osm_rows.proofs.put.table_row.ElementRowTableRow.push_values.Goals as goal

pub returns-clause-pushed : goal.returns-clause-pushed
returns-clause-pushed c =
    let row = c.args.self.now in
    let fits_off : FitsSigned w64 row.off = search rules in
    let fits_position : FitsSigned w64 row.position = search rules in
    let fits_id : FitsSigned w64 row.id = search rules in
    let off = ap bound_value (c.params-to_sql.ensures ∙ ap Int (to_z-of_z w64 row.off fits_off)) in
    let position = ap bound_value (c.params-to_sql-2.ensures ∙ ap Int (to_z-of_z w64 row.position fits_position)) in
    let kind = ap bound_value c.params-to_sql-3.ensures in
    let id = ap bound_value (c.params-to_sql-4.ensures ∙ ap Int (to_z-of_z w64 row.id fits_id)) in
    let number = λ (z : ℤ). z in
    let flag = λ (b : Bool). (if b then pos 1 else pos 0) in
    let lat = bound_or_null number _ row.lat c.params-to_sql-5.ensures in
    let lon = bound_or_null number _ row.lon c.params-to_sql-6.ensures in
    let version = bound_or_null number _ row.version c.params-to_sql-7.ensures in
    let time = bound_or_null number _ row.time c.params-to_sql-8.ensures in
    let changeset = bound_or_null number _ row.changeset c.params-to_sql-9.ensures in
    let uid = bound_or_null number _ row.uid c.params-to_sql-10.ensures in
    let user = bound_words _ row.user c.params-to_sql-11.ensures in
    let visible = bound_or_null flag _ row.visible c.params-to_sql-12.ensures in
    ap bound c.in_ok-extend_from_slice.ensures.items ∙ map-append _ c.args.values.now.items _ ∙ rw (off, position, kind, id, lat, lon, version, time, changeset, uid, user, visible, c.element_code.ensures) refl
