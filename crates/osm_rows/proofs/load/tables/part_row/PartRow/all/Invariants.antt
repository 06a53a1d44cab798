use Rattle.std.proofs.Common.{◌≡◌}
use Rattle.osm_rows.proofs.load.tables.part_row.PartRow.all.Given as goal

abbrev pub invariant-loop-row : goal.invariant-loop-row
invariant-loop-row l = l.parts.items ≡ l.yielded
