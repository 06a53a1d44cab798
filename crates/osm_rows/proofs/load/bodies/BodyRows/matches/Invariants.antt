use Rattle.std.proofs.Common.{◌≡◌, List, take}
use Rattle.osm_rows.specs.Load.Loading.{AreBodiesOf}
use Rattle.osm_rows.specs.Rows.{Placed}
use Rattle.osm_rows.proofs.load.bodies.BodyRows.matches.Given as goal

abbrev pub invariant-loop-row : goal.invariant-loop-row
invariant-loop-row l = record { rows : l.row-items ≡ l.self.rows.items; so_far : (matches : List Placed) → AreBodiesOf l.self matches → l.matches.items ≡ take l.row-index matches }
