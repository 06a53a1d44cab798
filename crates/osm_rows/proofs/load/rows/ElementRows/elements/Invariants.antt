use Rattle.std.proofs.Common.{◌≡◌, map}
use Rattle.osm_rows.specs.Rows.{Placed}
use Rattle.osm_rows.proofs.load.rows.ElementRows.elements.Given as goal

abbrev pub invariant-loop-found : goal.invariant-loop-found
invariant-loop-found l = l.elements.items ≡ map (λ (p : Placed). p.2) l.yielded
