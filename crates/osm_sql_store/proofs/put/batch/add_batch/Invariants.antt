use Rattle.std.proofs.Common.{◌≡◌, flat_map, take}
use Rattle.sqlite.specs.Values.{bound}
use Rattle.osm_sql_store.proofs.put.batch.add_batch.Given as goal

abbrev pub invariant-loop-row : goal.invariant-loop-row
invariant-loop-row g l = bound l.values.items ≡ flat_map g.R.TableRow.columns (take l.row-index l.rows)
