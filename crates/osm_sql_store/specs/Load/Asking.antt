-- What a query leaves of a connection.
use Rattle.std.specs.Prelude.{◌≡◌, false, IsTrue, ℕ, ℤ, List, [], ◌∷◌}
use Rattle.sqlite.specs.declared.types.Value.TheVariants.{Int}
use Rattle.sqlite.specs.Order.{Row, column}
use Rattle.sqlite.specs.State.{State, HasCleanDisk, Shown, Survives}
use Rattle.osm_sql_store.specs.declared.schema.sql.TheConstants.{SELECT_VERSION}

-- The connection sees the last commit as before, and, where no transaction had written, the same rows and schema.
pub record Keeps (old new : State) : Type 0 where
  pub was_open : IsTrue new.is_open → IsTrue old.is_open
  pub committed : IsTrue new.is_open → new.committed ≡ old.committed
  pub now : IsTrue new.is_open → old.now ≡ old.committed → new.now ≡ old.now

-- The database is as it was, whatever the call answered, and a crash leaves nothing new.
pub record JustAsks (old new : State) : Type 0 where
  pub keeps : HasCleanDisk new → Keeps old new
  pub mode : old.in_transaction ≡ false → new.in_transaction ≡ false
  pub crash : Survives old new (λ _. ⊥)

-- The connection was open and is, and these rows are the answer.
pub record IsAnswered (sql : List ℕ) (params : Row) (old new : State) (rows : List Row) : Type 0 where
  pub was_open : IsTrue old.is_open
  pub is_open : IsTrue new.is_open
  pub shown : Shown sql params old new rows

-- The table `meta` was asked, and has one row, which names this version.
pub record NamesVersion (old new : State) (version : ℤ) : Type 0 where
  pub row : Row
  pub answered : IsAnswered SELECT_VERSION.now [] old new (row ∷ [])
  pub named : column row 0 ≡ Int version
