-- What is told of the rows of a map that the trees hold.
use Rattle.std.specs.Prelude.{◌≡◌, false, List, map, MatchResult, Result}
use Rattle.std.specs.List.{AllByRecursion}
use Rattle.sqlite_value.specs.Order.{Row}
use Rattle.sqlite_trees.specs.View.{View}
use Rattle.osm_rows.specs.declared.fault.StoreFault.{StoreFault}
use Rattle.osm_rows.specs.Held.{HeldMap}
use Rattle.osm_rows.specs.Keeping.{IsForeign}
use Rattle.osm_rows.specs.Load.TableParts.{IsAlone}
use Rattle.osm_rows.specs.Rows.{Placed, placed_in}
use Rattle.osm_rows.specs.TableRows.{tags_at, tag_row, tag_rows, links_at, link_row, link_rows}

-- The answer is as P says, and the store isn't broken; or it is a fault, but not that the tables are another store's.
abbrev pub IsAnswer : {T : Type 0} → View → Result T StoreFault → (T → Type 0) → Type 0
IsAnswer v result P = MatchResult result (λ answer. P answer × (v.is_broken ≡ false)) (λ fault. ¬ (IsForeign fault))

-- of each of these elements, the tags and links that the map has at its place are its own
abbrev pub AreAlone : HeldMap → List Placed → Type 0
AreAlone held elements = AllByRecursion (IsAlone (placed_in held)) elements

-- these are the rows of the tags and of the links of one element
pub record AreItsParts (p : Placed) (tags links : List Row) : Type 0 where
  pub are_tags : tags ≡ map tag_row (tags_at p)
  pub are_links : links ≡ map link_row (links_at p)

-- and these those of several, in their order
pub record ArePartsOf (elements : List Placed) (tags links : List Row) : Type 0 where
  pub are_tags : tags ≡ tag_rows elements
  pub are_links : links ≡ link_rows elements
