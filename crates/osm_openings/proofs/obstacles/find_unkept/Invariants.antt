use Rattle.std.proofs.Common.{◌≡◌, drop}
use Rattle.osm_openings.specs.Obstacles as spec
use Rattle.osm_openings.proofs.obstacles.find_unkept.Given as goal

abbrev pub invariant-loop-row : goal.invariant-loop-row
invariant-loop-row l = spec.first_unkept (drop l.row-index l.objects) ≡ spec.first_unkept l.objects
