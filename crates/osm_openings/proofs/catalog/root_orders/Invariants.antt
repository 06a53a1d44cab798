use Rattle.std.proofs.Common.{◌≡◌, ◌++◌, drop, length}
use Rattle.osm_openings.specs.Presumed.{told_roots}
use Rattle.osm_openings.proofs.catalog.root_orders.Given as goal

abbrev pub invariant-loop-at : goal.invariant-loop-at
invariant-loop-at l = (l.all.items ++ told_roots l.entries (drop l.at l.rows) (drop l.at l.roots) ≡ told_roots l.entries l.rows l.roots) × (length l.all.items ≡ l.at)
