use Rattle.std.proofs.Common.{rules, ap, ◌∙◌, refl, FitsSigned, w64}
use Rattle.std.proofs.lemmas.Int.{to_z-of_z}
use Rattle.std.proofs.lemmas.List.{map-append}
use Rattle.sqlite.specs.declared.types.Value.TheVariants.{Int}
use Rattle.sqlite.specs.Values.{bound}
use Rattle.osm_rows.proofs.put.table_row.LinkRowTableRow.push_values.Goals as goal

pub returns-clause-pushed : goal.returns-clause-pushed
returns-clause-pushed c =
    let row = c.args.self.now in
    let fits_off : FitsSigned w64 row.off = search rules in
    let fits_position : FitsSigned w64 row.position = search rules in
    let fits_number : FitsSigned w64 row.number = search rules in
    let fits_id : FitsSigned w64 row.id = search rules in
    let off = c.params-to_sql.ensures ∙ ap Int (to_z-of_z w64 row.off fits_off) in
    let position = c.params-to_sql-2.ensures ∙ ap Int (to_z-of_z w64 row.position fits_position) in
    let number = c.params-to_sql-3.ensures ∙ ap Int (to_z-of_z w64 row.number fits_number) in
    let id = c.params-to_sql-5.ensures ∙ ap Int (to_z-of_z w64 row.id fits_id) in
    ap bound c.in_ok-extend_from_slice.ensures.items ∙ map-append _ c.args.values.now.items _ ∙ rw (off, position, number, c.params-to_sql-4.ensures, id, c.params-to_sql-6.ensures, c.element_code.ensures) refl
