use Rattle.std.proofs.Common.{◌≡◌, map, take}
use Rattle.osm_rows.specs.Rows.{placed}
use Rattle.osm_rows.specs.TableRows.{element_rows}
use Rattle.osm_rows.specs.Put.WrittenRows.{element_columns}
use Rattle.osm_rows.proofs.put.tables.element_rows.Given as goal

abbrev pub invariant-loop-index : goal.invariant-loop-index
invariant-loop-index l = map element_columns l.rows.items ≡ element_rows (placed l.off l.first (take l.index l.elements))
