use Rattle.std.proofs.Common.{◌≡◌, map, take}
use Rattle.osm_rows.specs.Rows.{placed}
use Rattle.osm_rows.specs.TableRows.{tag_rows}
use Rattle.osm_rows.specs.Put.WrittenRows.{tag_columns}
use Rattle.osm_rows.proofs.put.tables.tag_rows.Given as goal

abbrev pub invariant-loop-index : goal.invariant-loop-index
invariant-loop-index l = map tag_columns l.rows.items ≡ tag_rows (placed l.off l.first (take l.index l.elements))
