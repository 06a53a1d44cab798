use Rattle.std.proofs.Common.{◌≡◌, ◌++◌, drop}
use Rattle.osm_import.specs.Gaps.{ranges_between}
use Rattle.osm_import.proofs.gap.gaps_between.Given as goal

abbrev pub invariant-loop-extent : goal.invariant-loop-extent
invariant-loop-extent l = l.gaps.items ++ ranges_between l.end l.size (drop l.extent-index l.extents) ≡ ranges_between 0 l.size l.extents
