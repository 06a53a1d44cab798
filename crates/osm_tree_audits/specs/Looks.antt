-- What a look at the indexes of a store has found.
use Rattle.std.specs.Prelude.{◌≡◌, ℕ, ◌-◌, ◌^◌, ◌<◌, List, map, length, All, Contains, Option, IsTrue, IfSome, MatchOption}
use Rattle.sqlite_value.specs.Order.{Row}
use Rattle.sqlite_trees.specs.Tree.{Trees}
use Rattle.sqlite_sql.specs.Catalog.{entry_of, IsIndexOf}
use Rattle.osm_tree_audits.specs.ElementTables.{index_of, key_of, table_of}
use Rattle.osm_tree_audits.specs.declared.indexes.StoreIndex.{StoreIndex}
use Rattle.osm_tree_audits.specs.declared.look.Look.{Look}
use Rattle.osm_tree_audits.specs.declared.look.Looked.{Looked}
use Rattle.osm_tree_audits.specs.declared.look.Looked.TheVariants.{Whole, Faulty}
use Rattle.osm_tree_audits.specs.declared.look.TableLook.{TableLook}
use Rattle.osm_tree_audits.specs.declared.tables.ElementTable.{ElementTable}
use Rattle.osm_tree_audits.specs.declared.tables.ElementTable.TheVariants.{Elements, Tags, Links}
use Rattle.osm_rows.specs.declared.trees.TheConstants.{ELEMENTS, ELEMENT_KEY, LINKS, LINK_KEY, TAGS, TAG_KEY}

-- the index on these columns has the entries of the table's rows, in the order of the rows
abbrev pub IsInStep : List ℕ → List Row → List Row → Type 0
IsInStep columns table index = map (entry_of columns) table ≡ index

-- each row of the table has its entry in the index
abbrev pub AreEntered : List ℕ → List Row → List Row → Type 0
AreEntered columns table index = All (Contains index) (map (entry_of columns) table)

-- the rows of the table stand in the order of its primary key
abbrev pub IsInOrder : Trees → ElementTable → Type 0
IsInOrder db of = IsInStep (key_of of) (db (table_of of)) (db (index_of of))

-- the table has so many rows, and the index is in step with it where that is said
pub record IsSeen (columns : List ℕ) (table index : List Row) (seen : TableLook) : Type 0 where
  pub rows : seen.rows ≡ length table
  pub order : IsTrue seen.in_order → IsInStep columns table index

-- This is how many rows the table has, and P holds; or no number is told, and P doesn't hold.
abbrev pub CountsIf : Type 0 → List Row → Option ℕ → Type 0
CountsIf P table counted = MatchOption counted (¬ P) (λ n. (n ≡ length table) × P)

-- This is how many rows the table has, and the index on these columns is in step with it; or no number is told.
abbrev pub CountsInStep : Trees → ℕ → ℕ → List ℕ → Option ℕ → Type 0
CountsInStep db table index columns counted = IfSome counted (λ n. (n ≡ length (db table)) × IsInStep columns (db table) (db index))

-- This was seen of the table, and the index on these columns has one entry for each row of it, and no other; or nothing is told, and
-- the index hasn't.
abbrev pub SeesIndex : Trees → ℕ → ℕ → List ℕ → Option TableLook → Type 0
SeesIndex db table index columns seen =
    MatchOption seen (¬ (IsIndexOf columns (db table) (db index))) (λ look. IsIndexOf columns (db table) (db index) × IsSeen columns (db table) (db index) look)

-- this was seen of each table by the index of its primary key
pub record IsLook (db : Trees) (look : Look) : Type 0 where
  pub elements : IsSeen (key_of Elements) (db ELEMENTS) (db ELEMENT_KEY) look.elements
  pub tags : IsSeen (key_of Tags) (db TAGS) (db TAG_KEY) look.tags
  pub links : IsSeen (key_of Links) (db LINKS) (db LINK_KEY) look.links

-- so many rows are this many, which are fewer than SQL can count
abbrev pub IsCount : ℕ → ℕ → Type 0
IsCount rows n = (rows ≡ n) × (n < 2 ^ 63 - 1)

-- P of what was seen where each index is whole, or Q of one that isn't
abbrev pub MatchLooked : Looked → (Look → Type 0) → (StoreIndex → Type 0) → Type 0
MatchLooked (Whole look) P Q = P look
MatchLooked (Faulty index) P Q = Q index
