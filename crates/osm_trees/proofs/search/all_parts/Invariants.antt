use Rattle.std.proofs.Common.{◌≡◌, List, take}
use Rattle.std.specs.List.{AllByRecursion}
use Rattle.sqlite_trees.specs.View.{IsClean}
use Rattle.osm_rows.specs.declared.schema.layout.Layout.TheVariants.{Tables}
use Rattle.osm_rows.specs.Load.TableParts.{IsAlone}
use Rattle.osm_rows.specs.TableRows.{element_rows, tag_rows, link_rows}
use Rattle.osm_rows.specs.Held.{HeldMap}
use Rattle.osm_rows.specs.Rows.{Placed, placed_in}
use Rattle.osm_tree_audits.specs.Looking.{Looks}
use Rattle.osm_trees.specs.Below.{HoldsBelow}
use Rattle.osm_trees.proofs.search.all_parts.Given as goal

abbrev pub invariant-loop-row : goal.invariant-loop-row
invariant-loop-row g l =
    let old = g.S.Store.view l.fn.store in
    let now = g.S.Store.view l.store in
    record {
      looks : Looks g.S.Store l.fn.store l.store;
      read : IsClean now → (held : HeldMap) (found : List Placed) → HoldsBelow Tables old held → l.elements ≡ element_rows found → AllByRecursion (IsAlone (placed_in held)) found
          → HoldsBelow Tables now held × (l.tags.items ≡ tag_rows (take l.row-index found)) × (l.links.items ≡ link_rows (take l.row-index found));
    }
