use Rattle.std.proofs.Common.{◌≡◌, [], ◌∷◌, ◌∙◌, pos, ap, get_or, ◌+◌, ◌<◌, map, take, length, arith, rules}
use Rattle.std.proofs.lemmas.List.{map-append, take_more, length-map, length-take}
use Rattle.osm_rows.specs.TableRows.{link_row, node_link}
use Rattle.osm_rows.specs.Put.WrittenRows.{link_columns}
use Rattle.osm_rows.proofs.PutLemmas.Placing.{one_part_more}
use Rattle.osm_rows.proofs.put.tables.push_nodes.Goals as goal

pub loop-number-preserved : goal.loop-number-preserved
loop-number-preserved c =
    let xs = c.args.refs.now in
    let at = c.loop-number.number in
    let x = get_or xs at (pos 0) in
    let low : at < length xs = search rules in
    let count : length (map node_link (take at xs)) ≡ at = omega (arith, length-map (take at xs) node_link, length-take at xs) in
    let more = ap (map node_link) (take_more xs at (pos 0) low) ∙ map-append node_link (take at xs) (x ∷ []) in
    one_part_more link_columns link_row c.args.off c.args.position (map node_link (take at xs)) (map node_link (take (at + 1) xs)) (node_link x) at more count c.args.rows.now.items c.loop-number.rows.items _ _ c.in_ok-push.ensures.items c.loop-number.invariant c.node_row.ensures
