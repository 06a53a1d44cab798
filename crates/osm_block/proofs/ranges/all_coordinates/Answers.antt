use Rattle.std.proofs.lemmas.Int.{to_z-of_z}
use Rattle.std.proofs.Common.{◌≡◌, ◌≤◌, ◌^◌, ◌∙◌, sym, subst, w32, w64, to_z, of_z}
use Rattle.std.specs.Prelude.{unsigned_abs}
use Rattle.osm_block.proofs.SmallLemmas.{small_coordinates}
use Rattle.osm_block.proofs.ranges.all_coordinates.Goals as goal

pub returns-then-are_small_units : goal.returns-then-are_small_units
returns-then-are_small_units c =
    let offset_is : to_z w64 (of_z w64 c.args.offset) ≡ c.args.offset = to_z-of_z w64 c.args.offset c.ranges.offset in
    let size_is : to_z w32 (of_z w32 c.args.granularity) ≡ c.args.granularity = to_z-of_z w32 c.args.granularity c.ranges.granularity in
    let offset : unsigned_abs c.args.offset ≤ 2 ^ 60 = subst (λ z. unsigned_abs z ≤ 2 ^ 60) offset_is (c.are_small_units.ensures.offset c.if-are_small_units.true) in
    let size : unsigned_abs c.args.granularity ≤ 2 ^ 24 = subst (λ z. unsigned_abs z ≤ 2 ^ 24) size_is (c.are_small_units.ensures.size c.if-are_small_units.true) in
    c.if-are_small_units.true ∙ sym (small_coordinates c.args.offset c.args.granularity c.args.units.now offset size (c.are_small_units.ensures.units c.if-are_small_units.true))
