use Rattle.pbfrow_commands.proofs.ImportLemmas.{IsSkipping}
use Rattle.pbfrow_commands.proofs.import.skip.Given as goal

abbrev pub invariant-loop-left : goal.invariant-loop-left
invariant-loop-left g l = IsSkipping l.count l.left (g.R.Source.bytes_left l.fn.reader) (g.R.Source.bytes_left l.reader)

abbrev pub decreases-loop-left : goal.decreases-loop-left
decreases-loop-left g l = l.left
