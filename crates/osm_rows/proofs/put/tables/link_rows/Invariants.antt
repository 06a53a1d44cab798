use Rattle.std.proofs.Common.{◌≡◌, map, take}
use Rattle.osm_rows.specs.Rows.{placed}
use Rattle.osm_rows.specs.TableRows.{link_rows}
use Rattle.osm_rows.specs.Put.WrittenRows.{link_columns}
use Rattle.osm_rows.proofs.put.tables.link_rows.Given as goal

abbrev pub invariant-loop-index : goal.invariant-loop-index
invariant-loop-index l = map link_columns l.rows.items ≡ link_rows (placed l.off l.first (take l.index l.elements))
