use Rattle.std.proofs.Common.{◌≡◌, drop, slice_get}
use Rattle.osm_import.specs.Gaps.{ranges_between}
use Rattle.osm_import.proofs.export.refusal.first_gap.Given as goal

abbrev pub invariant-loop-extent : goal.invariant-loop-extent
invariant-loop-extent l = slice_get (ranges_between l.end l.size (drop l.extent-index l.extents)) 0 ≡ slice_get (ranges_between 0 l.size l.extents) 0
