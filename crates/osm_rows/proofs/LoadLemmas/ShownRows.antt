-- What the values of rows are that a query can show.
use Rattle.std.proofs.Common.{◌≡◌, ℕ, ◌<◌, List, [], ◌∷◌, map, IsPermutation}
use Rattle.sqlite.specs.Order.{Row, column}
use Rattle.sqlite.specs.Effect.{Database}
use Rattle.sqlite_trees.specs.Tree.{IsAscending}
use Rattle.std.specs.List.{AllByRecursion}
use Rattle.osm_rows.specs.declared.keeper.Extent.{Extent}
use Rattle.osm_rows.specs.declared.schema.layout.Layout.{Layout}
use Rattle.osm_rows.specs.Schema.Layouts.{schema_of}
use Rattle.osm_rows.specs.Schema.Bodies.{body_schema}
use Rattle.osm_rows.specs.Rows.{Placed, body_row, extent_columns as shown_extent}
use Rattle.osm_rows.proofs.MapLemmas.PlacedLaws.{IsBefore}
use Rattle.std.specs.Prelude.{flat_map}
use Rattle.osm_rows.specs.Schema.Tables.{table_schema}
use Rattle.osm_rows.specs.TableRows.{element_row, tags_at, tag_row, links_at, link_row}

-- the values at these places of a stored row, of which the rowid is place 0
abbrev pub columns_at : List ℕ → Row → Row
columns_at places row = map (column row) places

-- the table `blob` has the rows of these extents, which ascend; its key `off` is the rowid
pub record HasExtents (layout : Layout) (db : Database) (held : List Extent) : Type 0 where
  pub schema : db.schema ≡ schema_of layout
  pub rows : IsPermutation (map (columns_at (0 ∷ 2 ∷ 3 ∷ 4 ∷ 5 ∷ [])) (db.trees 1)) (map shown_extent held)
  pub ascending : IsAscending (λ a b. a.off < b.off) held

-- the table `body` has the rows of these elements, which ascend; its rowid means nothing
pub record HasElements (db : Database) (held : List Placed) : Type 0 where
  pub schema : db.schema ≡ body_schema
  pub rows : IsPermutation (map (columns_at (1 ∷ 2 ∷ 3 ∷ 4 ∷ 5 ∷ [])) (db.trees 2)) (map body_row held)
  pub ascending : IsAscending IsBefore held

-- among items of which P holds, a weaker order is enough
pub ascending_among : {X : Type 0} (P : X → Type 0) (R S : X → X → Type 0) → ((a b : X) → P a → P b → R a b → S a b) → (xs : List X) → AllByRecursion P xs → IsAscending R xs → IsAscending S xs
ascending_among P R S f [] all up = tt
ascending_among {X} P R S f (x ∷ xs) all up = (each xs all.1 up.0, ascending_among P R S f xs all.1 up.1)
  where
    each : (ys : List X) → AllByRecursion P ys → AllByRecursion (R x) ys → AllByRecursion (S x) ys
    each [] p r = tt
    each (y ∷ ys) p r = (f x y all.0 p.0 r.0, each ys p.1 r.1)

abbrev pub twelve_places : List ℕ
twelve_places = 1 ∷ 2 ∷ 3 ∷ 4 ∷ 5 ∷ 6 ∷ 7 ∷ 8 ∷ 9 ∷ 10 ∷ 11 ∷ 12 ∷ []

abbrev pub five_places : List ℕ
five_places = 1 ∷ 2 ∷ 3 ∷ 4 ∷ 5 ∷ []

abbrev pub six_places : List ℕ
six_places = 1 ∷ 2 ∷ 3 ∷ 4 ∷ 5 ∷ 6 ∷ []

-- the tables have the rows of these elements, which ascend; the rowids mean nothing
pub record HasTables (db : Database) (held : List Placed) : Type 0 where
  pub schema : db.schema ≡ table_schema
  pub elements : IsPermutation (map (columns_at twelve_places) (db.trees 2)) (map element_row held)
  pub tags : IsPermutation (map (columns_at five_places) (db.trees 4)) (map tag_row (flat_map tags_at held))
  pub links : IsPermutation (map (columns_at six_places) (db.trees 6)) (map link_row (flat_map links_at held))
  pub ascending : IsAscending IsBefore held
