use Rattle.std.proofs.Common.{◌≡◌, ◌==◌, drop, find}
use Rattle.osm_rows.specs.declared.keeper.Extent.{Extent}
use Rattle.osm_import.proofs.place.extent_at.Given as goal

abbrev pub invariant-loop-extent : goal.invariant-loop-extent
invariant-loop-extent l = find (λ (extent : Extent). extent.off == l.off) l.extents ≡ find (λ (extent : Extent). extent.off == l.off) (drop l.extent-index l.extents)
