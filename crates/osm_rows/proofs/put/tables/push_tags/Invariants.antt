use Rattle.std.proofs.Common.{◌≡◌, ◌++◌, map, take}
use Rattle.osm_rows.specs.TableRows.{parts, tag_row}
use Rattle.osm_rows.specs.Put.WrittenRows.{tag_columns}
use Rattle.osm_rows.proofs.put.tables.push_tags.Given as goal

abbrev pub invariant-loop-number : goal.invariant-loop-number
invariant-loop-number l = map tag_columns l.rows.items ≡ map tag_columns l.fn.rows.items ++ map tag_row (parts l.off l.position 0 (map (λ t. (t.0.now, t.1.now)) (take l.number l.tags)))
