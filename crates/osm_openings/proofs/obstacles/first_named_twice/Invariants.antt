use Rattle.std.proofs.Common.{◌≡◌, take, drop, []}
use Rattle.osm_openings.specs.Obstacles as spec
use Rattle.osm_openings.proofs.obstacles.first_named_twice.Given as goal

abbrev pub invariant-loop-next : goal.invariant-loop-next
invariant-loop-next l = spec.first_named_twice (take l.next l.rows) (drop l.next l.rows) ≡ spec.first_named_twice [] l.rows
