use Rattle.std.proofs.Common.{◌≡◌, map, take}
use Rattle.osm_rows.specs.Rows.{body_row, placed}
use Rattle.osm_old_store.proofs.audit.bodies.are_bodies.Given as goal

abbrev pub invariant-loop-at : goal.invariant-loop-at
invariant-loop-at l = take l.at l.rows ≡ map body_row (placed l.off 0 (take l.at l.elements))
