use Rattle.std.proofs.Common.{take}
use Rattle.pbf_frame.proofs.CuttingLemmas.{Cutting}
use Rattle.pbf_frame.proofs.ranges.ranges_of.Given as goal

abbrev pub invariant-loop-end : goal.invariant-loop-end
invariant-loop-end l = Cutting l.size l.count (take l.end-index l.ends) l.from l.ranges.items
