use Rattle.std.proofs.Common.{◌≡◌, ◌<◌, ◌+◌, ℕ, zero, suc, List, length, refl, arith}
use Rattle.std.specs.Prelude.{slice_index_or}
use Rattle.osm_rows.specs.declared.keeper.Extent.{Extent}
use Rattle.osm_rows.specs.Keeping.{AscendApart}
use Rattle.osm_rows.proofs.load.extents.are_apart.Goals as goal

-- an extent that begins before the end of the one in front of it
meets : (es : List Extent) (i end : ℕ) (d : Extent) → i < length es → (slice_index_or es i d).off < end → (i ≡ 0 → end ≡ 0) → ((k : ℕ) (d : Extent) → k + 1 ≡ i → end ≡ (slice_index_or es k d).fin)
    → AscendApart es → ⊥
meets es zero end d within low begun last apart = let none = begun refl in omega (arith, none, low)
meets es (suc k) end d within low begun last apart =
    let before = apart k (suc k) d (omega arith) within in
    let is = last k d (omega arith) in
    omega (arith, before, is, low)

pub returns-then-extent-end : goal.returns-then-extent-end
returns-then-extent-end c =
    let inv = c.loop-extent.invariant in
    (λ bad. absurd (cc), λ apart. absurd (meets c.args.extents.now c.loop-extent.extent-index c.loop-extent.end _ c.loop-extent-test.true c.if-extent-end.true inv.begun inv.last apart))
