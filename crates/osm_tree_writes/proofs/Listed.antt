-- A row of the list of objects tells of an added index by its first columns.
use Rattle.std.proofs.Common.{◌≡◌, ◌||◌, List, [], ◌∷◌, map, refl, ap₂}
use Rattle.std.specs.Prelude.{take}
use Rattle.std.specs.List.{list_any}
use Rattle.sqlite_value.specs.Order.{Row}
use Rattle.osm_tree_writes.specs.Added.{is_refused, plain_index, plain_indexes, with_index}

one_refused : (row : Row) → is_refused (take 5 row) ≡ is_refused row
one_refused [] = refl
one_refused (a ∷ []) = refl
one_refused (a ∷ b ∷ []) = refl
one_refused (a ∷ b ∷ c ∷ []) = refl
one_refused (a ∷ b ∷ c ∷ d ∷ []) = refl
one_refused (a ∷ b ∷ c ∷ d ∷ e ∷ row) = refl

one_index : (row : Row) → plain_index (take 5 row) ≡ plain_index row
one_index [] = refl
one_index (a ∷ []) = refl
one_index (a ∷ b ∷ []) = refl
one_index (a ∷ b ∷ c ∷ []) = refl
one_index (a ∷ b ∷ c ∷ d ∷ []) = refl
one_index (a ∷ b ∷ c ∷ d ∷ e ∷ row) = refl

pub refused_by_five : (rows : List Row) → list_any is_refused (map (take 5) rows) ≡ list_any is_refused rows
refused_by_five [] = refl
refused_by_five (row ∷ rows) = ap₂ ◌||◌ (one_refused row) (refused_by_five rows)

pub indexes_by_five : (rows : List Row) → plain_indexes (map (take 5) rows) ≡ plain_indexes rows
indexes_by_five [] = refl
indexes_by_five (row ∷ rows) = ap₂ with_index (one_index row) (indexes_by_five rows)
