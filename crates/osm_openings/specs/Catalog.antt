-- What `sqlite_schema` lists.
use Rattle.std.specs.Prelude.{◌≡◌, ℕ, ◌+◌, pos, Bool, true, not, ◌&&◌, ◌||◌, List, [], ◌∷◌, map, filter, slice_get, Some}
use Rattle.std.specs.List.{list_any, list_all}
use Rattle.sqlite_value.specs.declared.value.Value.TheVariants.{Int}
use Rattle.sqlite_value.specs.Order.{Row, column, bytes}
use Rattle.sqlite_trees.specs.Sound.{is_text_only, is_virtual, same_name, head_at, are_in_order}
use Rattle.sqlite_trees.specs.declared.schema.Object.{Object}
use Rattle.sqlite_trees.specs.Objects.{object_row}
use Rattle.sqlite_store.specs.Catalog.{describes, wanted_of}

-- the row is that of one of these objects
abbrev pub is_own : List Object → Row → Bool
is_own objects row = list_any (λ o. describes (wanted_of o) row) objects

-- each object has its row
abbrev pub AreListed : List Object → List Row → Type 0
AreListed objects rows = list_all (λ o. list_any (λ row. describes (wanted_of o) row) rows) objects ≡ true

-- the row is that of a virtual table
abbrev pub is_left_out : Row → Bool
is_left_out row = is_virtual (column row 1) (column row 5) && not (is_text_only (column row 1))

-- the rows that are neither those of these objects nor of virtual tables
abbrev pub others : List Object → List Row → List Row
others objects rows = filter (λ row. not (is_own objects row || is_left_out row)) rows

-- none of these objects and rows is about this table
unfoldable pub is_free : List Object → List Row → List ℕ → Bool
is_free objects rows table = not (list_any (λ o. same_name table o.table.now) objects || list_any (λ other. same_name table (bytes (column other 3))) rows)

-- that is so of the table of each row that is left out
abbrev pub StandApart : List Object → List Row → List Row → Type 0
StandApart objects others rows = list_all (λ row. not (is_left_out row) || is_free objects others (bytes (column row 3))) rows ≡ true

-- no two rows have one name, and each index stands behind its table
abbrev pub AreInOrder : List Row → Type 0
AreInOrder rows = are_in_order [] (map (head_at 1) rows) ≡ true

-- The row without its root page, as that of the first tree behind those of a store: of the others it doesn't matter which it is.
abbrev pub numbered : Row → Row
numbered row = Int (pos 10) ∷ column row 1 ∷ column row 2 ∷ column row 3 ∷ column row 5 ∷ []

-- each object has its row at its place in the list, so that they are the first
abbrev pub ListsFirst : List Object → List Row → Type 0
ListsFirst objects rows = (tree : ℕ) (o : Object) → slice_get objects tree ≡ Some o → slice_get rows tree ≡ Some (object_row tree o)

-- the rows of these objects, from this tree on
abbrev pub listings : ℕ → List Object → List Row
listings tree [] = []
listings tree (o ∷ os) = object_row tree o ∷ listings (tree + 1) os
