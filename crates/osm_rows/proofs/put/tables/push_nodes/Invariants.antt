use Rattle.std.proofs.Common.{◌≡◌, ◌++◌, map, take}
use Rattle.osm_rows.specs.TableRows.{node_link, parts, link_row}
use Rattle.osm_rows.specs.Put.WrittenRows.{link_columns}
use Rattle.osm_rows.proofs.put.tables.push_nodes.Given as goal

abbrev pub invariant-loop-number : goal.invariant-loop-number
invariant-loop-number l = map link_columns l.rows.items ≡ map link_columns l.fn.rows.items ++ map link_row (parts l.off l.position 0 (map node_link (take l.number l.refs)))
