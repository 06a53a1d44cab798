-- What cursors over an index and its table have left.
use Rattle.std.specs.Prelude.{◌≡◌, ℕ, ℤ, Bool, true, false, List, [], ◌∷◌, ◌++◌, map, drop, filter, flat_map, Contains, IsSome}
use Rattle.sqlite_value.specs.Order.{Row, column}
use Rattle.sqlite_value.specs.declared.value.Value.TheVariants.{Int}
use Rattle.sqlite_value.specs.Keys.{plain}
use Rattle.sqlite_trees.specs.declared.store.Shape.TheVariants.{Table}
use Rattle.sqlite_trees.specs.Tree.{Trees, IsIndex, from_key}
use Rattle.sqlite_trees.specs.View.{View, IsClean, IsShaped}
use Rattle.sqlite_sql.specs.Catalog.{entry_of}
use Rattle.sqlite_exec.specs.Loops.{left_of}
use Rattle.sqlite_exec.specs.Plan.{resolved}
use Rattle.osm_tree_audits.specs.ElementTables.{index_of, key_of, table_of, width_of}
use Rattle.osm_tree_audits.specs.Finding.{starts}
use Rattle.osm_tree_audits.specs.declared.tables.ElementTable.{ElementTable}
use Rattle.osm_tree_audits.specs.declared.ways.Way.{Way}
use Rattle.osm_tree_audits.specs.declared.ways.Way.TheVariants.{ByIndex, ByTable}

-- the entry that the cursor 1 gives next
abbrev pub IsNext : View → Row → Type 0
IsNext v entry = (left : List Row) × (left_of v 1 ≡ entry ∷ left)

-- each of these is among those
abbrev pub AreAmong : List Row → List Row → Type 0
AreAmong rows some = (e : Row) → Contains some e → Contains rows e

-- a walk may go on: its two cursors can be used, and the store isn't broken
pub record CanWalk (v : View) : Type 0 where
  pub entries : IsSome (v.cursors 0)
  pub rows : IsSome (v.cursors 1)
  pub sound : IsClean v → v.is_broken ≡ false

-- the cursor 0 has entries left, in order, and the cursor 1 rows of the table
pub record IsWalk (v : View) (table : ℕ) : Type 0 where
  pub shaped : IsShaped Table (v.trees table)
  pub entries : IsIndex plain (left_of v 0)
  pub rows : AreAmong (v.trees table) (left_of v 1)

-- the rows, without their rowids, to which the entries that the cursor 0 has left lead, of those that begin with the key
abbrev pub reached : View → ℕ → ℕ → Row → List Row
reached v table width key = map (drop 1) (flat_map (resolved (v.trees table) width) (filter (starts key) (left_of v 0)))

-- a number stands behind the entry's columns, and these are the rows from the one on that has this rowid
abbrev pub IsAtNamed : List Row → Row → ℕ → List Row → Type 0
IsAtNamed rows entry width left = (id : ℤ) × (column entry width ≡ Int id) × (left ≡ from_key plain (Int id ∷ []) rows)

-- the rows that the cursor 1 has left stand in the order of an index on these columns
abbrev pub AreInOrder : View → List ℕ → Type 0
AreInOrder v columns = IsIndex plain (map (entry_of columns) (left_of v 1))

-- those of them, without their rowids, whose entries begin with the key
abbrev pub reached_alone : View → List ℕ → Row → List Row
reached_alone v columns key = map (drop 1) (filter (λ row. starts key (entry_of columns row)) (left_of v 1))

-- the same of a walk over one of the tables of elements, by the index of its primary key or by the table alone
abbrev pub IsWalkBy : Way → View → ElementTable → Type 0
IsWalkBy ByIndex v of = IsWalk v (table_of of)
IsWalkBy ByTable v of = AreInOrder v (key_of of)

abbrev pub reached_by : Way → View → ElementTable → Row → List Row
reached_by ByIndex v of key = reached v (table_of of) (width_of of) key
reached_by ByTable v of key = reached_alone v (key_of of) key

-- the rows of the table, without their rowids, to which the index leads whose entries begin with the key
abbrev pub all_reached : Trees → ElementTable → Row → List Row
all_reached db of key = map (drop 1) (flat_map (resolved (db (table_of of)) (width_of of)) (filter (starts key) (db (index_of of))))

-- the row is the first of these, without its rowid, and those follow it; or there are none
abbrev pub Leads : List Row → Row → List Row → Bool → Type 0
Leads rows row left true = rows ≡ drop 1 row ∷ left
Leads rows row left false = rows ≡ []

-- the rows begin with these, and those follow them; or they don't
abbrev pub Begins : List Row → List Row → List Row → Bool → Type 0
Begins rows first left true = rows ≡ first ++ left
Begins rows first left false = (left : List Row) → ¬ (rows ≡ first ++ left)
