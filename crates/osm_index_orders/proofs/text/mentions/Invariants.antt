use Rattle.std.proofs.Common.{◌≡◌, length}
use Rattle.osm_index_orders.specs.Orders.{mentions}
use Rattle.osm_index_orders.proofs.text.mentions.Given as goal

abbrev pub invariant-loop-rest : goal.invariant-loop-rest
invariant-loop-rest l = mentions l.word l.rest ≡ mentions l.word l.fn.text

abbrev pub decreases-loop-rest : goal.decreases-loop-rest
decreases-loop-rest l = length l.rest
