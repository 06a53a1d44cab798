use Rattle.std.proofs.Common.{◌≡◌}
use Rattle.osm_rows.proofs.load.bodies.BodyRows.check.Given as goal

abbrev pub invariant-loop-row : goal.invariant-loop-row
invariant-loop-row l = l.row-items ≡ l.self.rows.items
