use Rattle.std.proofs.Common.{◌≤◌, arith}
use Rattle.std.proofs.lemmas.Grind.{common_steps}
use Rattle.pbfrow_commands.proofs.ImportLemmas.{skip-more}
use Rattle.pbfrow_commands.proofs.import.skip.Goals as goal

pub loop-left-preserved : goal.loop-left-preserved
loop-left-preserved g c =
    let most : c.in-Ok.taken ≤ c.loop-left.left = grind (arith, common_steps) in
    skip-more c.args.count c.loop-left.left c.in-Ok.taken _ (g.R.Source.bytes_left c.args.reader.now) (g.R.Source.bytes_left c.loop-left.reader) (g.R.Source.bytes_left c.read.new.self) c.read.new.buffer
    c.in-Ok.ensures.within.0 most (omega arith) c.loop-left.invariant c.in-Ok.ensures.consumed.0
