use Rattle.std.proofs.Common.{◌≡◌, drop}
use Rattle.osm_openings.specs.Obstacles as spec
use Rattle.osm_openings.proofs.obstacles.first_that_shows.Given as goal

abbrev pub invariant-loop-row : goal.invariant-loop-row
invariant-loop-row l = spec.first_that_shows l.obstacle (drop l.row-index l.rows) ≡ spec.first_that_shows l.obstacle l.rows
