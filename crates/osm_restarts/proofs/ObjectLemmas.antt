-- The trees of a store as objects, and what lists of them have no other tree than these.
use Rattle.std.proofs.Common.{◌⊎◌, ◌≡◌, ◌∙◌, ◌+◌, ℕ, zero, suc, pos, Bool, true, false, not, eqb, ◌&&◌, ◌||◌, List, [], ◌∷◌, map, refl, sym, ap, subst, inl, inr, arith, codes}
use Rattle.std.specs.Prelude.{Some, slice_get, filter}
use Rattle.std.specs.List.{AllZip, list_all}
use Rattle.std.specs.Float.Ieee
use Rattle.std.proofs.lemmas.Option.{none-some, same_Some}
use Rattle.std.proofs.lemmas.Bool.{cases_Bool, and_parts, and_from, not-true, false≢true, cond-true, cond-false, or_from, or_cases, eqb-true}
use Rattle.sqlite_value.specs.declared.value.Value.TheVariants.{Int, Text}
use Rattle.sqlite_value.specs.Order.{Row, column, value_cmp}
use Rattle.sqlite_value.specs.Keys.{plain}
use Rattle.sqlite_trees.specs.declared.store.Shape.TheVariants.{Table, Index}
use Rattle.sqlite_trees.specs.declared.schema.Object.{Object}
use Rattle.sqlite_trees.specs.Objects.{description, number_in, shape_code, listing, object_row}
use Rattle.sqlite_trees.specs.Listing.{same_code}
use Rattle.sqlite_trees.specs.Sound.{begins, same_name, is_word, is_virtual, head_at, may_follow, are_in_order}
use Rattle.sqlite_schema.specs.declared.schema.Table.{Table as SqlTable}
use Rattle.sqlite_schema.specs.declared.schema.Index.{Index as SqlIndex}
use Rattle.osm_rows.specs.Schema.Bodies.{meta, blob}
use Rattle.sqlite_catalog.specs.Listing.{Describes, is_table_row, is_view_row, is_index_row, IsTableRow, IsIndexRow, IsViewRow, AreListed}
use Rattle.sqlite_store.specs.declared.catalog.Wanted.{Wanted}
use Rattle.sqlite_store.specs.Catalog.{fits_shape, wanted_of}
use Rattle.sqlite_store.specs.Listing.{listed_from}
use Rattle.osm_rows.specs.Schema.Tables.{element, tag, link, element_key, tag_key, link_key, element_by_id, table_schema}
use Rattle.osm_openings.specs.Catalog.{listings}
use Rattle.osm_tree_writes.specs.Beside.{ListsAlone}
use Rattle.osm_tree_writes.specs.Tables.{table_listings}
use Rattle.osm_openings.proofs.PlaceLemmas.{all_at}
use Rattle.osm_openings.proofs.ListedLemmas.{listed_at, named_once}
use Rattle.osm_restarts.proofs.OneList.{numbered}
use Rattle.osm_restarts.proofs.SchemaLemmas.{Knows, HasPages, HasOnly}

-- ---- the rows of objects
pub at_listings : (from : ℕ) (objects : List Object) (t : ℕ) (row : Row) → slice_get (listings from objects) t ≡ Some row → (o : Object) × (slice_get objects t ≡ Some o) × (row ≡ object_row (from + t) o)
at_listings from [] t row at = absurd (none-some row at)
at_listings from (o ∷ objects) zero row at = let start : from ≡ from + 0 = omega arith in (o, refl, sym (same_Some _ row at) ∙ ap (λ n. object_row n o) start)
at_listings from (o ∷ objects) (suc t) row at =
    let next : from + 1 + t ≡ from + suc t = omega arith in
    let r = at_listings (from + 1) objects t row at in (r.0, r.1, r.2 ∙ ap (λ n. object_row n r.0) next)

pub listings_at : (from : ℕ) (objects : List Object) (t : ℕ) (o : Object) → slice_get objects t ≡ Some o → slice_get (listings from objects) t ≡ Some (object_row (from + t) o)
listings_at from [] t o at = absurd (none-some o at)
listings_at from (p ∷ objects) zero o at = let start : from ≡ from + 0 = omega arith in ap (λ (x : Object). Some (object_row from x)) (same_Some p o at) ∙ ap (λ n. Some (object_row n o)) start
listings_at from (p ∷ objects) (suc t) o at = let next : from + 1 + t ≡ from + suc t = omega arith in listings_at (from + 1) objects t o at ∙ ap (λ n. Some (object_row n o)) next

-- ---- the store's own trees have pages
abbrev fits_row : Row → Bool
fits_row row =
    not (is_virtual (column row 1) (column row 4))
    && ((eqb (number_in (column row 5)) 1 && is_word (codes "table") (column row 1)) || eqb (number_in (column row 5)) 2)

tables_fit : list_all fits_row table_listings ≡ true
unfolding begins same_name value_cmp Ieee.lt Ieee.is_nan
tables_fit = refl

sized_by : (o : Object) (row : Row) (t : ℕ) → row ≡ object_row t o → fits_row row ≡ true → HasPages o
sized_by o row t is fits =
    let both = and_parts (not (is_virtual (column row 1) (column row 4))) _ fits in
    let real = ap (λ (r : Row). is_virtual (column r 1) (column r 4)) (sym is) ∙ not-true _ both.0 in
    let code : number_in (column row 5) ≡ shape_code o.shape = ap (λ (r : Row). number_in (column r 5)) is in
    record {
      real = real;
      fits = elim (or_cases (eqb (number_in (column row 5)) 1 && is_word (codes "table") (column row 1)) (eqb (number_in (column row 5)) 2) both.1) [
        | inl table ↦
            let parts = and_parts (eqb (number_in (column row 5)) 1) (is_word (codes "table") (column row 1)) table in
            table_fits o (same_code o.shape Table (sym code ∙ eqb-true _ _ parts.0)) (ap (λ (r : Row). is_word (codes "table") (column r 1)) (sym is) ∙ parts.1) real
        | inr index ↦ index_fits o (same_code o.shape (Index plain) (sym code ∙ eqb-true _ _ index)) real
      ];
    }
  where
    table_fits : (o : Object) → o.shape ≡ Table → is_word (codes "table") (column (description o) 0) ≡ true → is_virtual (column (description o) 0) (column (description o) 3) ≡ false → fits_shape (wanted_of o) ≡ true
    table_fits o shape word real = rw shape (and_from _ _ word (ap not real))

    index_fits : (o : Object) → o.shape ≡ Index plain → is_virtual (column (description o) 0) (column (description o) 3) ≡ false → fits_shape (wanted_of o) ≡ true
    index_fits o shape real = rw shape (ap not real)

pub have_pages : (objects : List Object) → listings 0 objects ≡ table_listings → (t : ℕ) (o : Object) → slice_get objects t ≡ Some o → HasPages o
have_pages objects are t o at =
    let row = object_row (0 + t) o in
    let there : slice_get table_listings t ≡ Some row = ap (λ (rows : List Row). slice_get rows t) (sym are) ∙ listings_at 0 objects t o at in
    sized_by o row (0 + t) refl (all_at fits_row table_listings t row tables_fit there)

-- ---- no two of them have one name
tables_ordered : are_in_order [] (map (head_at 1) table_listings) ≡ true
unfolding may_follow same_name value_cmp Ieee.lt Ieee.is_nan
tables_ordered = refl

pub names_apart : (objects : List Object) → listings 0 objects ≡ table_listings → (t u : ℕ) (o p : Object) → slice_get objects t ≡ Some o → slice_get objects u ≡ Some p → o.name.now ≡ p.name.now → t ≡ u
names_apart objects are t u o p at there same =
    named_once [] table_listings t u (object_row (0 + t) o) (object_row (0 + u) p) tables_ordered
    (ap (λ (rows : List Row). slice_get rows t) (sym are) ∙ listings_at 0 objects t o at) (ap (λ (rows : List Row). slice_get rows u) (sym are) ∙ listings_at 0 objects u p there) (ap Text same)

-- ---- which trees a list has
zip_at : {A B : Type 0} (R : A → B → Type 0) (p : A → Bool) (xs : List A) (ys : List B) (k : ℕ) (x : A) → AllZip R (filter p xs) ys → slice_get xs k ≡ Some x → p x ≡ true
    → (j : ℕ) × (y : B) × (slice_get ys j ≡ Some y) × R x y
zip_at {B = B} R p [] ys k x zip at h = absurd (none-some x at)
zip_at {B = B} R p (z ∷ xs) ys k x zip at h = elim (cases_Bool (p z)) [
  | inl passes ↦ here passes ys (subst (λ zs. AllZip R zs ys) (cond-true (p z) (z ∷ filter p xs) (filter p xs) passes) zip) k at (λ more rest j later. zip_at R p xs more j x rest later h)
  | inr out ↦ skip out k at (λ j later. zip_at R p xs ys j x (subst (λ zs. AllZip R zs ys) (cond-false (p z) (z ∷ filter p xs) (filter p xs) out) zip) later h)
]
  where
    here : p z ≡ true → (ys : List B) → AllZip R (z ∷ filter p xs) ys → (k : ℕ) → slice_get (z ∷ xs) k ≡ Some x
        → ((more : List B) → AllZip R (filter p xs) more → (j : ℕ) → slice_get xs j ≡ Some x → (i : ℕ) × (y : B) × (slice_get more i ≡ Some y) × R x y)
        → (i : ℕ) × (y : B) × (slice_get ys i ≡ Some y) × R x y
    here passes [] zip k at rest = absurd zip
    here passes (y ∷ ys) zip zero at rest = (0, y, refl, subst (λ v. R v y) (same_Some z x at) zip.0)
    here passes (y ∷ ys) zip (suc k) at rest = let r = rest ys zip.1 k at in (suc r.0, r.1, r.2, r.3)

    skip : p z ≡ false → (k : ℕ) → slice_get (z ∷ xs) k ≡ Some x → ((j : ℕ) → slice_get xs j ≡ Some x → (i : ℕ) × (y : B) × (slice_get ys i ≡ Some y) × R x y)
        → (i : ℕ) × (y : B) × (slice_get ys i ≡ Some y) × R x y
    skip out zero at rest = absurd (false≢true (sym out ∙ ap p (same_Some z x at) ∙ h))
    skip out (suc k) at rest = rest k at

-- the row is that of one of the store's own trees
record IsOwn (row : Row) : Type 0 where
  tree : ℕ
  own : Row
  at : slice_get table_listings tree ≡ Some own
  id : column row 0 ≡ Int (pos (tree + 1))
  name : column row 2 ≡ column own 2
  code : number_in (column row 5) ≡ number_in (column own 5)

own_by : (row own : Row) (tree : ℕ) (kind name owner : List ℕ) (shape reals : ℕ) → slice_get table_listings tree ≡ Some own → Describes row tree kind name owner shape reals
    → Text name ≡ column own 2 → shape ≡ number_in (column own 5) → IsOwn row
own_by row own tree kind name owner shape reals at d named coded =
    record { tree = tree; own = own; at = at; id = d.id; name = d.name_is ∙ named; code = d.shape_is ∙ coded }

own_table : (row : Row) (j : ℕ) (table : SqlTable) → slice_get table_schema.tables j ≡ Some table → IsTableRow row table → IsOwn row
own_table row zero t at is = let same = same_Some meta t at in let d = subst (λ (x : SqlTable). IsTableRow row x) (sym same) is in own_by row _ 0 _ _ _ _ _ refl d.described refl refl
own_table row (suc zero) t at is = let same = same_Some blob t at in let d = subst (λ (x : SqlTable). IsTableRow row x) (sym same) is in own_by row _ 1 _ _ _ _ _ refl d.described refl refl
own_table row (suc (suc zero)) t at is = let same = same_Some element t at in let d = subst (λ (x : SqlTable). IsTableRow row x) (sym same) is in own_by row _ 2 _ _ _ _ _ refl d.described refl refl
own_table row (suc (suc (suc zero))) t at is = let same = same_Some tag t at in let d = subst (λ (x : SqlTable). IsTableRow row x) (sym same) is in own_by row _ 4 _ _ _ _ _ refl d.described refl refl
own_table row (suc (suc (suc (suc zero)))) t at is = let same = same_Some link t at in let d = subst (λ (x : SqlTable). IsTableRow row x) (sym same) is in own_by row _ 6 _ _ _ _ _ refl d.described refl refl
own_table row (suc (suc (suc (suc (suc j))))) t at is = absurd (none-some t at)

own_index : (tables : List SqlTable) (row : Row) (j : ℕ) (index : SqlIndex) → slice_get table_schema.indexes j ≡ Some index → IsIndexRow tables row index → IsOwn row
own_index tables row zero x at is = let d = subst (λ (y : SqlIndex). IsIndexRow tables row y) (sym (same_Some element_key x at)) is in own_by row _ 3 _ _ _ _ _ refl d.described refl refl
own_index tables row (suc zero) x at is = let d = subst (λ (y : SqlIndex). IsIndexRow tables row y) (sym (same_Some tag_key x at)) is in own_by row _ 5 _ _ _ _ _ refl d.described refl refl
own_index tables row (suc (suc zero)) x at is = let d = subst (λ (y : SqlIndex). IsIndexRow tables row y) (sym (same_Some link_key x at)) is in own_by row _ 7 _ _ _ _ _ refl d.described refl refl
own_index tables row (suc (suc (suc zero))) x at is = let d = subst (λ (y : SqlIndex). IsIndexRow tables row y) (sym (same_Some element_by_id x at)) is in own_by row _ 8 _ _ _ _ _ refl d.described refl refl
own_index tables row (suc (suc (suc (suc j)))) x at is = absurd (none-some x at)

own_row : (rows : List Row) → AreListed rows table_schema → (k : ℕ) (row : Row) → slice_get rows k ≡ Some row → IsOwn row
own_row rows listed k row at = elim (cases_Bool (is_table_row row)) [
  | inl table ↦ let r = zip_at IsTableRow is_table_row rows table_schema.tables k row listed.tables at table in own_table row r.0 r.1 r.2 r.3
  | inr no_table ↦ elim (cases_Bool (is_view_row row)) [
    | inl view ↦ let r = zip_at IsViewRow is_view_row rows table_schema.views k row listed.views at view in absurd (none-some r.1 r.2)
    | inr no_view ↦
        let index : is_index_row row ≡ true = ap not (or_from (is_table_row row) (is_view_row row) no_table no_view) in
        let r = zip_at (IsIndexRow table_schema.tables) is_index_row rows table_schema.indexes k row listed.indexes at index in
        own_index table_schema.tables row r.0 r.1 r.2 r.3
  ]
]

own_listing : (k : ℕ) (row : Row) → slice_get table_listings k ≡ Some row → IsOwn row
own_listing k row at = record { tree = k; own = row; at = at; id = numbered k row at; name = refl; code = refl }

-- a list that lists a store of tables, or nothing, has no other tree than these
pub only_own : (objects : List Object) (schema : List Wanted) → listings 0 objects ≡ table_listings → ListsAlone (listed_from 0 schema) ⊎ (listed_from 0 schema ≡ []) → HasOnly objects schema
only_own objects schema are lists t w there present =
    let l = listed_at 0 schema t w there present in
    known (elim lists [
      | inl (inl some) ↦ own_row (listed_from 0 schema) some.listed l.0 _ l.1
      | inl (inr same) ↦ own_listing l.0 _ (ap (λ (rows : List Row). slice_get rows l.0) (sym same) ∙ l.1)
      | inr none ↦ absurd (none-some _ (ap (λ (rows : List Row). slice_get rows l.0) (sym none) ∙ l.1))
    ])
  where
    known : IsOwn (listing (0 + t) w.row w.shape w.reals) → Knows objects t w
    known own =
        let number : 0 + t + 1 ≡ own.tree + 1 = ap number_in own.id in
        let same : own.tree ≡ t = omega arith in
        let r = at_listings 0 objects own.tree own.own (ap (λ (rows : List Row). slice_get rows own.tree) are ∙ own.at) in
        record {
          object = r.0;
          is = ap (slice_get objects) (sym same) ∙ r.1;
          name = own.name ∙ ap (λ (x : Row). column x 2) r.2;
          shape = same_code w.shape r.0.shape (own.code ∙ ap (λ (x : Row). number_in (column x 5)) r.2);
        }
