use Rattle.std.proofs.Common.{◌≡◌, ◌+◌, ◌<◌, take, length, arith, rules}
use Rattle.std.proofs.lemmas.List.{length-take}
use Rattle.osm_rows.specs.TableRows.{link_row}
use Rattle.osm_rows.specs.Put.WrittenRows.{link_columns}
use Rattle.osm_rows.proofs.PutLemmas.Placing.{next_taken, one_part_more}
use Rattle.osm_rows.proofs.put.tables.push_members.Goals as goal

pub loop-number-preserved : goal.loop-number-preserved
loop-number-preserved c =
    let xs = c.args.members.now in
    let at = c.loop-number.number in
    let x = c.index-members-number.result in
    let low : at < length xs = search rules in
    let count : length (take at xs) ≡ at = omega (arith, length-take at xs) in
    let more = next_taken xs at x low c.index-members-number.is in
    one_part_more link_columns link_row c.args.off c.args.position (take at xs) (take (at + 1) xs) x at more count c.args.rows.now.items c.loop-number.rows.items _ _ c.in_ok-push.ensures.items c.loop-number.invariant c.member_row.ensures
