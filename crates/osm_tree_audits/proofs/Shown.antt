-- What queries see of rows that are kept as a put writes them.
use Rattle.std.proofs.Common.{◌≡◌, ℕ, pos, List, [], ◌∷◌, map, flat_map, filter, drop, refl, sym, ap, ap₂, subst, ◌∙◌, IsPermutation}
use Rattle.std.proofs.lemmas.List.Sorted.{IsPermutation-map, IsPermutation-refl}
use Rattle.sqlite_value.specs.Order.{Row, column}
use Rattle.sqlite_trees.specs.Tree.{Trees, has_rowid}
use Rattle.sqlite_trees.proofs.ListLemmas.{filter-map}
use Rattle.osm_rows.specs.Audit.{is_at, seen, HasAt, ShowsBlob}
use Rattle.osm_rows.specs.declared.keeper.Extent.{Extent}
use Rattle.osm_rows.specs.declared.schema.layout.Layout.TheVariants.{Tables}
use Rattle.osm_rows.specs.Held.{Blob}
use Rattle.osm_rows.specs.Keeping.{extent_of}
use Rattle.osm_rows.specs.Rows.{placed, extent_row, extent_columns}
use Rattle.osm_rows.specs.TableRows.{element_row, tags_at, tag_row, links_at, link_row}
use Rattle.osm_rows.proofs.AuditLemmas.HeldRows.{filter_same}
use Rattle.osm_tree_audits.specs.Auditing.{KeepsAt, KeepsBlob}
use Rattle.osm_tree_audits.proofs.AtOffset.{equal_is}

same_map : {A B : Type 0} (f g : A → B) → ((x : A) → f x ≡ g x) → (xs : List A) → map f xs ≡ map g xs
same_map f g same [] = refl
same_map f g same (x ∷ xs) = ap₂ ◌∷◌ (same x) (same_map f g same xs)

map_twice : {A B C : Type 0} (g : B → C) (f : A → B) (xs : List A) → map g (map f xs) ≡ map (λ x. g (f x)) xs
map_twice g f [] = refl
map_twice g f (x ∷ xs) = ap (λ l. g (f x) ∷ l) (map_twice g f xs)

-- with and without the rowid
module _ (places more : List ℕ) (shift : (r : Row) → map (column r) places ≡ map (column (drop 1 r)) (0 ∷ more)) (off : ℕ) {X : Type 0} (row : X → Row) (whole : (x : X) → map (column (row x)) (0 ∷ more) ≡ row x) where
  shown : Row → Row
  shown s = map (column s) (0 ∷ more)

  kept_shown : (xs : List X) (table : List Row) → KeepsAt off (map row xs) table → HasAt off (map row xs) (seen places table)
  unfolding shown
  kept_shown xs table kept =
      let rows : map shown (map row xs) ≡ map row xs = map_twice shown row xs ∙ same_map _ _ whole xs in
      let all : seen places table ≡ map shown (map (drop 1) table) = same_map _ _ shift table ∙ sym (map_twice shown (drop 1) table) in
      let some : filter (is_at off) (seen places table) ≡ map shown (filter (is_at off) (map (drop 1) table)) = ap (filter (is_at off)) all ∙ filter-map (is_at off) shown (map (drop 1) table) in
      subst (λ l. IsPermutation l (filter (is_at off) (seen places table))) rows (subst (IsPermutation (map shown (map row xs))) (sym some) (IsPermutation-map shown _ _ kept))

shift_12 : (r : Row) → map (column r) (1 ∷ 2 ∷ 3 ∷ 4 ∷ 5 ∷ 6 ∷ 7 ∷ 8 ∷ 9 ∷ 10 ∷ 11 ∷ 12 ∷ []) ≡ map (column (drop 1 r)) (0 ∷ 1 ∷ 2 ∷ 3 ∷ 4 ∷ 5 ∷ 6 ∷ 7 ∷ 8 ∷ 9 ∷ 10 ∷ 11 ∷ [])
shift_12 [] = refl
shift_12 (x ∷ r) = refl

shift_5 : (r : Row) → map (column r) (1 ∷ 2 ∷ 3 ∷ 4 ∷ 5 ∷ []) ≡ map (column (drop 1 r)) (0 ∷ 1 ∷ 2 ∷ 3 ∷ 4 ∷ [])
shift_5 [] = refl
shift_5 (x ∷ r) = refl

shift_6 : (r : Row) → map (column r) (1 ∷ 2 ∷ 3 ∷ 4 ∷ 5 ∷ 6 ∷ []) ≡ map (column (drop 1 r)) (0 ∷ 1 ∷ 2 ∷ 3 ∷ 4 ∷ 5 ∷ [])
shift_6 [] = refl
shift_6 (x ∷ r) = refl

extent_seen : Row → Row
extent_seen r = map (column r) (0 ∷ 2 ∷ 3 ∷ 4 ∷ 5 ∷ [])

extent_shown : (db : Trees) (extent : Extent) → filter (has_rowid (pos extent.off)) (db 1) ≡ extent_row extent ∷ [] → HasAt extent.off (extent_columns extent ∷ []) (seen (0 ∷ 2 ∷ 3 ∷ 4 ∷ 5 ∷ []) (db 1))
unfolding extent_seen
extent_shown db extent is =
    let some : filter (is_at extent.off) (map extent_seen (db 1)) ≡ extent_columns extent ∷ [] =
    filter-map (is_at extent.off) extent_seen (db 1) ∙ ap (map extent_seen) (filter_same (λ r. is_at extent.off (extent_seen r)) (has_rowid (pos extent.off)) (λ r. equal_is (column r 0) (pos extent.off)) (db 1) ∙ is) in
    subst (IsPermutation (extent_columns extent ∷ [])) (sym some) (IsPermutation-refl (extent_columns extent ∷ []))

pub blob_shown : (db : Trees) (off : ℕ) (blob : Blob) → KeepsBlob db (extent_of (off, blob)) blob.elements → ShowsBlob Tables db off blob
blob_shown db off blob kept = record {
  extent = extent_shown db (extent_of (off, blob)) kept.extent;
  elements = (
    kept_shown (1 ∷ 2 ∷ 3 ∷ 4 ∷ 5 ∷ 6 ∷ 7 ∷ 8 ∷ 9 ∷ 10 ∷ 11 ∷ 12 ∷ []) (1 ∷ 2 ∷ 3 ∷ 4 ∷ 5 ∷ 6 ∷ 7 ∷ 8 ∷ 9 ∷ 10 ∷ 11 ∷ []) shift_12 off element_row (λ p. refl) (placed off 0 blob.elements) (db 2) kept.elements,
    kept_shown (1 ∷ 2 ∷ 3 ∷ 4 ∷ 5 ∷ []) (1 ∷ 2 ∷ 3 ∷ 4 ∷ []) shift_5 off tag_row (λ x. refl) (flat_map tags_at (placed off 0 blob.elements)) (db 4) kept.tags,
    kept_shown (1 ∷ 2 ∷ 3 ∷ 4 ∷ 5 ∷ 6 ∷ []) (1 ∷ 2 ∷ 3 ∷ 4 ∷ 5 ∷ []) shift_6 off link_row (λ x. refl) (flat_map links_at (placed off 0 blob.elements)) (db 6) kept.links,
  );
}
