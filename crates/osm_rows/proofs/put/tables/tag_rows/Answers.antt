use Rattle.std.proofs.Common.{◌+◌, ◌++◌, ◌<◌, map, take, length, ◌∙◌, ap, sym, rules}
use Rattle.std.specs.Prelude.{flat_map}
use Rattle.std.proofs.lemmas.List.{map-append}
use Rattle.osm_rows.specs.Rows.{placed}
use Rattle.osm_rows.specs.TableRows.{tags_at, tag_row}
use Rattle.osm_rows.proofs.PutLemmas.Placing.{flat_more}
use Rattle.osm_rows.proofs.put.tables.tag_rows.Goals as goal

pub loop-index-preserved : goal.loop-index-preserved
loop-index-preserved c =
    let es = c.args.elements.now in
    let at = c.loop-index.index in
    let e = c.index-elements-index.result in
    let low : at < length es = search rules in
    let before = flat_map tags_at (placed c.args.off c.args.first (take at es)) in
    let here = tags_at (c.args.off, c.args.first + at, e) in
    let pushed = rw c.tags.ensures.exact at c.in_ok-push_tags.ensures in
    pushed ∙ ap (λ l. l ++ map tag_row here) c.loop-index.invariant ∙ sym (map-append tag_row before here) ∙ ap (map tag_row) (sym (flat_more tags_at c.args.off c.args.first es at e low c.index-elements-index.is))
