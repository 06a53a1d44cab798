use Rattle.std.proofs.Common.{◌≡◌, take, filter}
use Rattle.std.specs.Prelude.{nat_le}
use Rattle.osm_rows.specs.declared.keeper.Extent.{Extent}
use Rattle.osm_verify.proofs.comparing.from_on.Given as goal

abbrev pub invariant-loop-extent : goal.invariant-loop-extent
invariant-loop-extent l = l.later.items ≡ filter (λ (extent : Extent). nat_le l.from extent.off) (take l.extent-index l.extents)
