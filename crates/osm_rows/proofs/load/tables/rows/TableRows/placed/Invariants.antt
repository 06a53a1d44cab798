use Rattle.std.proofs.Common.{◌≡◌, List, take, drop}
use Rattle.osm_rows.specs.Load.TableAnswers.{AreRowsOf}
use Rattle.osm_rows.specs.TableRows.{tag_rows, link_rows}
use Rattle.osm_rows.specs.Rows.{Placed}
use Rattle.osm_rows.proofs.load.tables.rows.TableRows.placed.Given as goal

abbrev pub invariant-loop-row : goal.invariant-loop-row
invariant-loop-row l = record {
  rows : l.row-items ≡ l.self.elements.items;
  so_far : (placed : List Placed) → AreRowsOf l.self placed → l.elements.items ≡ take l.row-index placed;
  tags : (placed : List Placed) → AreRowsOf l.self placed → l.tags ≡ tag_rows (drop l.row-index placed);
  links : (placed : List Placed) → AreRowsOf l.self placed → l.links ≡ link_rows (drop l.row-index placed);
}
