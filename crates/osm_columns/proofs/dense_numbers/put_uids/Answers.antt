use Rattle.std.proofs.Common.{rules, refl, ◌≡◌, ◌<◌, ◌+◌, length, get_or, pos, take, sym, FitsSigned, w32, w64, arith, ℤ}
use Rattle.std.proofs.lemmas.Int.{to_z-of_z}
use Rattle.std.proofs.lemmas.List.{map-id}
use Rattle.osm_columns.proofs.AddLemmas.{adds-next, adds-same}
use Rattle.osm_columns.proofs.dense_numbers.put_uids.Goals as goal

pub loop-index-preserved : goal.loop-index-preserved
loop-index-preserved c =
    let within : c.loop-index.index < length c.args.uids.now = omega (arith, c.loop-index-test.true) in
    let units : FitsSigned w64 (get_or c.args.uids.now c.loop-index.index (pos 0)) = search rules in
    let is : c.uid_of.result ≡ get_or c.args.uids.now c.loop-index.index (pos 0) = simp to_z-of_z at c.uid_of.ensures in
    let result : FitsSigned w32 c.uid_of.result = search rules in
    let put = simp to_z-of_z at c.put_item.ensures in
    let so_far = adds-same c.args.at _ _ c.args.array.now c.loop-index.array (sym (map-id (take c.loop-index.index c.args.uids.now))) c.loop-index.invariant in
    adds-same _ _ _ c.args.array.now c.put_item.new.array (map-id (take (c.loop-index.index + 1) c.args.uids.now)) (adds-next (λ (z : ℤ). z) c.args.uids.now c.loop-index.index c.args.at _ _ (pos 0) _ _ _ _ within refl is so_far put refl)
