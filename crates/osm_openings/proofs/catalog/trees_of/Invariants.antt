use Rattle.std.proofs.Common.{◌≡◌, ◌++◌, map, drop}
use Rattle.sqlite_store.specs.Catalog.{wanted_of}
use Rattle.osm_openings.specs.Presumed.{foreign_trees, trees_of}
use Rattle.osm_openings.proofs.catalog.trees_of.Given as goal

abbrev pub invariant-loop-at : goal.invariant-loop-at
invariant-loop-at l = map wanted_of l.all.items ++ foreign_trees (drop l.at l.rows) (drop l.at l.roots) ≡ trees_of l.objects l.rows l.roots
