-- How many rows one statement writes, and which.
use Rattle.std.specs.Prelude.{ℕ, List}
use Rattle.osm_sql_store.specs.declared.put.batch.Batch.{Batch}
use Rattle.osm_sql_store.specs.declared.put.batch.Batch.TheVariants.{One, ThirtyTwo}

abbrev pub rows_of : Batch → ℕ
rows_of One = 1
rows_of ThirtyTwo = 32

-- of two texts, which write one row and 32, the one for so many rows
abbrev pub statement_of : Batch → List ℕ → List ℕ → List ℕ
statement_of One one thirty_two = one
statement_of ThirtyTwo one thirty_two = thirty_two
