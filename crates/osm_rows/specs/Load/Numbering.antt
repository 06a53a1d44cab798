-- Rows that are counted by one of their columns.
use Rattle.std.specs.Prelude.{◌≡◌, ℕ, pos, List, [], EachIndex, slice_index_or}
use Rattle.sqlite.specs.declared.types.Value.TheVariants.{Int}
use Rattle.sqlite.specs.Order.{Row, column}

-- the column has 0, 1, 2, .. in the order of the rows
abbrev pub AreNumbered : ℕ → List Row → Type 0
AreNumbered at rows = EachIndex rows (λ k. column (slice_index_or rows k []) at ≡ Int (pos k))
