use Rattle.std.proofs.Common.{◌≡◌, ◌++◌, ◌≤◌, List, length, All}
use Rattle.sqlite.specs.Order.{Row}
use Rattle.osm_rows.specs.Load.TableElements.{StandsAt, StandsApart}
use Rattle.osm_rows.proofs.load.tables.elements.split_at_place.Given as goal

abbrev pub invariant-loop-number : goal.invariant-loop-number
invariant-loop-number l = (own others : List Row) → All (StandsAt l.off l.position) own → All (StandsApart l.off l.position) others → l.rows ≡ own ++ others → l.number ≤ length own
