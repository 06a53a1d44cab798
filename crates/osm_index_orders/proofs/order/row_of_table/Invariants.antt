use Rattle.std.proofs.Common.{◌≡◌, drop, find}
use Rattle.osm_index_orders.specs.Orders.{is_table_named}
use Rattle.osm_index_orders.proofs.order.row_of_table.Given as goal

abbrev pub invariant-loop-row : goal.invariant-loop-row
invariant-loop-row l = find (is_table_named l.name) (drop l.row-index l.rows) ≡ find (is_table_named l.name) l.rows
