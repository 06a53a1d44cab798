-- What a connection holds, its store's trees hold.
use Rattle.std.proofs.Common.{◌≡◌, false, ap}
use Rattle.sqlite_trees.specs.declared.store.Store.{Ghosts}
use Rattle.sqlite.specs.Effect.{Database}
use Rattle.sqlite.specs.Held.{Held, state}
use Rattle.osm_rows.specs.declared.schema.layout.Layout.{Layout}
use Rattle.osm_rows.specs.Held.{HeldMap}
use Rattle.osm_rows.specs.LayoutHolding.{Holds}
use Rattle.osm_tree_writes.proofs.Obeying.{one_map_below, trees_of}
use Rattle.osm_trees.specs.Below.{HoldsBelow}

pub holds_below : {S : Type 0} (g : Ghosts S) (h : Held S) (layout : Layout) (held : HeldMap) → Holds layout (state g h) held → (g.view h.store).is_broken ≡ false → HoldsBelow layout (g.view h.store) held
holds_below g h layout held holds unbroken = record {
  clean = holds.clean;
  unbroken = unbroken;
  settled = ap (λ (db : Database). db.trees) holds.settled;
  kept = holds.kept;
  tables = trees_of layout held (g.view h.store).trees holds.tables;
  only = λ other kept trees. one_map_below layout other held (g.view h.store).trees kept holds.kept trees (trees_of layout held (g.view h.store).trees holds.tables);
}
