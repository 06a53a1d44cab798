use Rattle.std.proofs.Common.{◌≡◌, ◌<◌, ℕ, pos, []}
use Rattle.std.specs.Prelude.{slice_index_or}
use Rattle.sqlite.specs.declared.types.Value.TheVariants.{Int}
use Rattle.sqlite.specs.Order.{column}
use Rattle.osm_rows.proofs.load.tables.part_row.are_parts_numbered.Given as goal

abbrev pub invariant-loop-number : goal.invariant-loop-number
invariant-loop-number l = (k : ℕ) → k < l.number → column (slice_index_or l.rows k []) 2 ≡ Int (pos k)
