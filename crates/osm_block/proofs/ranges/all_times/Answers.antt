use Rattle.std.proofs.lemmas.Int.{to_z-of_z}
use Rattle.std.proofs.Common.{◌≡◌, ◌≤◌, ◌^◌, ◌∙◌, sym, subst, w32, to_z, of_z}
use Rattle.std.specs.Prelude.{unsigned_abs}
use Rattle.osm_block.proofs.SmallLemmas.{small_times}
use Rattle.osm_block.proofs.ranges.all_times.Goals as goal

pub returns-then-are_small_units : goal.returns-then-are_small_units
returns-then-are_small_units c =
    let size_is : to_z w32 (of_z w32 c.args.date_granularity) ≡ c.args.date_granularity = to_z-of_z w32 c.args.date_granularity c.ranges.date_granularity in
    let size : unsigned_abs c.args.date_granularity ≤ 2 ^ 24 = subst (λ z. unsigned_abs z ≤ 2 ^ 24) size_is (c.are_small_units.ensures.size c.if-are_small_units.true) in
    c.if-are_small_units.true ∙ sym (small_times c.args.date_granularity c.args.units.now size (c.are_small_units.ensures.units c.if-are_small_units.true))
