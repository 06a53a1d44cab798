use Rattle.std.proofs.Common.{◌≡◌, ◌++◌, ◌-◌, ◌≤◌, length, take, drop}
use Rattle.osm_index_orders.specs.Orders.{to_closing}
use Rattle.osm_index_orders.proofs.text.to_closing.Given as goal

abbrev pub invariant-loop-at : goal.invariant-loop-at
invariant-loop-at l = (take l.at l.text ++ to_closing (drop l.at l.text) ≡ to_closing l.text) × (l.at ≤ length l.text)

abbrev pub decreases-loop-at : goal.decreases-loop-at
decreases-loop-at l = length l.text - l.at
