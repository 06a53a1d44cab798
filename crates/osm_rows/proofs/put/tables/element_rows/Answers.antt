use Rattle.std.proofs.Common.{◌∷◌, ◌++◌, ◌<◌, [], map, take, length, ◌∙◌, ap, sym, rules}
use Rattle.std.proofs.lemmas.List.{map-append}
use Rattle.osm_rows.specs.Rows.{placed}
use Rattle.osm_rows.specs.TableRows.{element_row}
use Rattle.osm_rows.specs.Put.WrittenRows.{element_columns}
use Rattle.osm_rows.proofs.PutLemmas.Placing.{rows_more}
use Rattle.osm_rows.proofs.put.tables.element_rows.Goals as goal

pub loop-index-preserved : goal.loop-index-preserved
loop-index-preserved c =
    let es = c.args.elements.now in
    let at = c.loop-index.index in
    let e = c.index-elements-index.result in
    let low : at < length es = search rules in
    let so_far = rows_more element_row c.args.off c.args.first es at e low c.index-elements-index.is in
    ap (map element_columns) c.in_ok-push.ensures.items ∙ map-append element_columns c.loop-index.rows.items (c.element_row.result ∷ [])
    ∙ ap (λ l. l ++ element_columns c.element_row.result ∷ []) c.loop-index.invariant ∙ ap (λ row. map element_row (placed c.args.off c.args.first (take at es)) ++ row ∷ []) c.element_row.ensures ∙ sym so_far
