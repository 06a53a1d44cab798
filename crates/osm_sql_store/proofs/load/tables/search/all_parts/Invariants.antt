use Rattle.std.proofs.Common.{◌≡◌, List, take}
use Rattle.std.specs.List.{AllByRecursion}
use Rattle.sqlite.specs.State.{HasCleanDisk}
use Rattle.sqlite.specs.Held.{state}
use Rattle.osm_rows.specs.declared.schema.layout.Layout.TheVariants.{Tables}
use Rattle.osm_sql_store.specs.Load.Asking.{JustAsks}
use Rattle.osm_rows.specs.Load.TableParts.{IsAlone}
use Rattle.osm_rows.specs.TableRows.{element_rows, tag_rows, link_rows}
use Rattle.osm_rows.specs.Held.{HeldMap}
use Rattle.osm_rows.specs.LayoutHolding.{Holds}
use Rattle.osm_rows.specs.Rows.{Placed, placed_in}
use Rattle.osm_sql_store.proofs.load.tables.search.all_parts.Given as goal

abbrev pub invariant-loop-row : goal.invariant-loop-row
invariant-loop-row g l =
    let old = state g.S.Store l.fn.connection in
    let now = state g.S.Store l.connection in
    record {
      asks : JustAsks old now;
      read : HasCleanDisk now → (held : HeldMap) (found : List Placed) → Holds Tables old held → l.elements ≡ element_rows found → AllByRecursion (IsAlone (placed_in held)) found
          → Holds Tables now held × (l.tags.items ≡ tag_rows (take l.row-index found)) × (l.links.items ≡ link_rows (take l.row-index found));
    }
