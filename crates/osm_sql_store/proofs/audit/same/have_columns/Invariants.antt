use Rattle.std.proofs.Common.{◌≡◌, map, take}
use Rattle.osm_sql_store.proofs.audit.same.have_columns.Given as goal

abbrev pub invariant-loop-at : goal.invariant-loop-at
invariant-loop-at g l = take l.at l.rows ≡ map g.R.TableRow.columns (take l.at l.expected)
