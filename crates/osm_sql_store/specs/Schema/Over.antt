-- The schema that an open transaction is over.
use Rattle.std.specs.Prelude.{◌≡◌, IsTrue}
use Rattle.sqlite.specs.State.{State, KeepsCommit}
use Rattle.sqlite.specs.Schema.{Schema}
use Rattle.sqlite_catalog.specs.Listing.{IsSound}
use Rattle.osm_rows.specs.declared.schema.layout.Layout.{Layout}
use Rattle.osm_rows.specs.Schema.Layouts.{schema_of}

-- a transaction is open over this schema
pub record IsOver (schema : Schema) (s : State) : Type 0 where
  pub schema_is : s.now.schema ≡ schema
  pub inside : IsTrue s.in_transaction

-- the transaction goes on over this schema, and nothing is committed
pub record Becomes (old new : State) (schema : Schema) : Type 0 where
  pub over : IsOver schema new
  pub kept : KeepsCommit old new
  pub sound : IsSound schema new.now.trees

-- a transaction is open over the store's schema
abbrev pub IsWriting : Layout → State → Type 0
IsWriting layout = IsOver (schema_of layout)
