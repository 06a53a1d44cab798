use Rattle.std.proofs.Common.{take}
use Rattle.pbfrow_counts.specs.Counting.{CountsMore}
use Rattle.pbfrow_counts.proofs.elements.ElementCounts.add.Given as goal

abbrev pub invariant-loop-element : goal.invariant-loop-element
invariant-loop-element l = CountsMore l.fn.self (take l.element-index l.elements) l.self
