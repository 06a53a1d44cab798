use Rattle.std.proofs.Common.{◌≡◌, ◌++◌, map, take}
use Rattle.osm_rows.specs.TableRows.{parts, link_row}
use Rattle.osm_rows.specs.Put.WrittenRows.{link_columns}
use Rattle.osm_rows.proofs.put.tables.push_members.Given as goal

abbrev pub invariant-loop-number : goal.invariant-loop-number
invariant-loop-number l = map link_columns l.rows.items ≡ map link_columns l.fn.rows.items ++ map link_row (parts l.off l.position 0 (take l.number l.members))
