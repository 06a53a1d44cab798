use Rattle.std.proofs.Common.{◌≡◌, map, take}
use Rattle.sqlite_store.specs.Catalog.{wanted_of}
use Rattle.osm_openings.proofs.catalog.own_trees.Given as goal

abbrev pub invariant-loop-object : goal.invariant-loop-object
invariant-loop-object l = map wanted_of l.all.items ≡ map wanted_of (take l.object-index l.objects)
