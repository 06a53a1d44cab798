use Rattle.std.proofs.Common.{◌∙◌, sym}
use Rattle.osm_block.proofs.SmallLemmas.{small_are_wide}
use Rattle.osm_block.proofs.ranges.all_wide.Goals as goal

pub returns-then-are_small : goal.returns-then-are_small
returns-then-are_small c = c.if-are_small.true ∙ sym (small_are_wide c.args.numbers.now (c.are_small.ensures c.if-are_small.true))
