use Rattle.std.proofs.Common.{◌≡◌, ◌≤◌, length, reverse}
use Rattle.osm_index_orders.specs.Orders.{from_closing}
use Rattle.osm_index_orders.proofs.text.without_options.Given as goal

abbrev pub invariant-loop-text : goal.invariant-loop-text
invariant-loop-text l = (from_closing (reverse l.text) ≡ from_closing (reverse l.fn.text)) × (length l.text ≤ length l.fn.text)

abbrev pub decreases-loop-text : goal.decreases-loop-text
decreases-loop-text l = length l.text
