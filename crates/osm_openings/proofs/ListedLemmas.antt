-- What a list of trees says of each place of a schema, and what the order of `sqlite_schema` says of names.
use Rattle.std.proofs.Common.{◌≡◌, ◌∙◌, ◌+◌, ℕ, zero, suc, true, false, ◌&&◌, List, [], ◌∷◌, ◌++◌, length, refl, sym, ap, ap₂, inl, inr, arith, map}
use Rattle.std.specs.Prelude.{Some, slice_get}
use Rattle.std.specs.Char.{to_ascii_lowercase}
use Rattle.std.proofs.lemmas.Option.{none-some, same_Some}
use Rattle.std.proofs.lemmas.Bool.{cases_Bool, and_parts, not-true, false≢true}
use Rattle.std.proofs.lemmas.Slice.Eq.{bytes_eq-Decides}
use Rattle.sqlite_value.specs.Order.{Row, column, bytes}
use Rattle.sqlite_trees.specs.declared.store.Shape.{Shape}
use Rattle.sqlite_trees.specs.declared.store.Shape.TheVariants.{Absent, Table, Index, Pageless, FrozenTable, FrozenIndex}
use Rattle.sqlite_trees.specs.Objects.{listing}
use Rattle.sqlite_trees.specs.Sound.{Head, head_at, same_name, may_follow, are_in_order}
use Rattle.sqlite_store.specs.declared.catalog.Wanted.{Wanted}
use Rattle.sqlite_store.specs.Catalog.{is_present, same_value, describes, is_about}
use Rattle.sqlite_store.specs.Listing.{listed, listed_from}
use Rattle.osm_openings.proofs.PlaceLemmas.{any_at}

-- ---- a present place has its row in the list, and each row is that of a present place
pub record Listed (from : ℕ) (schema : List Wanted) (row : Row) : Type 0 where
  pub at : ℕ
  pub wanted : Wanted
  pub there : slice_get schema at ≡ Some wanted
  pub present : is_present wanted.shape ≡ true
  pub is : row ≡ listing (from + at) wanted.row wanted.shape wanted.reals

abbrev listing_at : ℕ → Wanted → Row
listing_at tree w = listing tree w.row w.shape w.reals

pub first_row : (from : ℕ) (w : Wanted) (rest : List Row) → is_present w.shape ≡ true → listed from w w.shape ++ rest ≡ listing_at from w ∷ rest
first_row from w rest present = go w.shape refl present
  where
    go : (s : Shape) → w.shape ≡ s → is_present s ≡ true → listed from w s ++ rest ≡ listing_at from w ∷ rest
    go Absent is h = absurd (cc)
    go Table is h = rw is refl
    go (Index o) is h = rw is refl
    go Pageless is h = rw is refl
    go FrozenTable is h = rw is refl
    go (FrozenIndex o) is h = rw is refl

no_row : (from : ℕ) (w : Wanted) (rest : List Row) → is_present w.shape ≡ false → listed from w w.shape ++ rest ≡ rest
no_row from w rest absent = go w.shape absent
  where
    go : (s : Shape) → is_present s ≡ false → listed from w s ++ rest ≡ rest
    go Absent h = refl
    go Table h = absurd (cc)
    go (Index o) h = absurd (cc)
    go Pageless h = absurd (cc)
    go FrozenTable h = absurd (cc)
    go (FrozenIndex o) h = absurd (cc)

pub listed_at : (from : ℕ) (schema : List Wanted) (t : ℕ) (w : Wanted) → slice_get schema t ≡ Some w → is_present w.shape ≡ true
    → (k : ℕ) × (slice_get (listed_from from schema) k ≡ Some (listing_at (from + t) w))
listed_at from [] t w there present = absurd (none-some w there)
listed_at from (v ∷ schema) zero w there present =
    let same = same_Some v w there in
    let start : from ≡ from + 0 = omega arith in (
      0,
      ap (λ rows. slice_get rows 0) (first_row from v (listed_from (from + 1) schema) (ap (λ (x : Wanted). is_present x.shape) same ∙ present))
          ∙ ap₂ (λ n (x : Wanted). Some (listing_at n x)) start same,
    )
listed_at from (v ∷ schema) (suc t) w there present =
    let r = listed_at (from + 1) schema t w there present in
    let next : from + 1 + t ≡ from + suc t = omega arith in
    elim (cases_Bool (is_present v.shape)) [
      | inl here ↦ (suc r.0, ap (λ rows. slice_get rows (suc r.0)) (first_row from v (listed_from (from + 1) schema) here) ∙ r.1 ∙ ap (λ n. Some (listing_at n w)) next)
      | inr gap ↦ (r.0, ap (λ rows. slice_get rows r.0) (no_row from v (listed_from (from + 1) schema) gap) ∙ r.1 ∙ ap (λ n. Some (listing_at n w)) next)
    ]

later : (from : ℕ) (v : Wanted) (schema : List Wanted) (row : Row) → Listed (from + 1) schema row → Listed from (v ∷ schema) row
later from v schema row r =
    let next : from + 1 + r.at ≡ from + suc r.at = omega arith in
    record { at = suc r.at; wanted = r.wanted; there = r.there; present = r.present; is = r.is ∙ ap (λ n. listing_at n r.wanted) next }

pub at_listed : (from : ℕ) (schema : List Wanted) (k : ℕ) (row : Row) → slice_get (listed_from from schema) k ≡ Some row → Listed from schema row
at_listed from [] k row at = absurd (none-some row at)
at_listed from (v ∷ schema) k row at = elim (cases_Bool (is_present v.shape)) [
  | inl here ↦ by_place here k (sym (ap (λ rows. slice_get rows k) (first_row from v (listed_from (from + 1) schema) here)) ∙ at) (λ j. at_listed (from + 1) schema j row)
  | inr gap ↦ later from v schema row (at_listed (from + 1) schema k row (sym (ap (λ rows. slice_get rows k) (no_row from v (listed_from (from + 1) schema) gap)) ∙ at))
]
  where
    by_place : is_present v.shape ≡ true → (k : ℕ) → slice_get (listing_at from v ∷ listed_from (from + 1) schema) k ≡ Some row
        → ((j : ℕ) → slice_get (listed_from (from + 1) schema) j ≡ Some row → Listed (from + 1) schema row) → Listed from (v ∷ schema) row
    by_place here zero is rest =
        let start : from ≡ from + 0 = omega arith in
        record { at = 0; wanted = v; there = refl; present = here; is = sym (same_Some _ row is) ∙ ap (λ n. listing_at n v) start }
    by_place here (suc j) is rest = later from v schema row (rest j is)

-- ---- no two rows of an ordered list have one name
same_itself : (name : List ℕ) → same_name name name ≡ true
unfolding same_name
same_itself name = let low = map to_ascii_lowercase name in (bytes_eq-Decides low low).1 refl

pub names_turned : (a b : List ℕ) → same_name a b ≡ true → same_name b a ≡ true
unfolding same_name
names_turned a b h = (bytes_eq-Decides (map to_ascii_lowercase b) (map to_ascii_lowercase a)).1 (sym ((bytes_eq-Decides (map to_ascii_lowercase a) (map to_ascii_lowercase b)).0 h))

pub names_through : (a b c : List ℕ) → same_name a b ≡ true → same_name b c ≡ true → same_name a c ≡ true
unfolding same_name
names_through a b c h i =
    (bytes_eq-Decides (map to_ascii_lowercase a) (map to_ascii_lowercase c)).1
    ((bytes_eq-Decides (map to_ascii_lowercase a) (map to_ascii_lowercase b)).0 h ∙ (bytes_eq-Decides (map to_ascii_lowercase b) (map to_ascii_lowercase c)).0 i)

not_after : (earlier : List Head) (rows : List Row) (i k : ℕ) (h : Head) (row : Row) → are_in_order earlier (map (head_at 1) rows) ≡ true
    → slice_get earlier i ≡ Some h → slice_get rows k ≡ Some row → same_name (bytes h.1) (bytes (column row 2)) ≡ true → ⊥
unfolding may_follow
not_after earlier [] i k h row ordered was at same = none-some row at
not_after earlier (r ∷ rows) i zero h row ordered was at same =
    let step = and_parts _ (are_in_order (earlier ++ head_at 1 r ∷ []) (map (head_at 1) rows)) ordered in
    let free = not-true _ (and_parts _ _ step.0).0 in
    let is = same_Some r row at in
    let met = any_at (λ e. same_name (bytes e.1) (bytes (column r 2))) earlier i h was (ap (λ (x : Row). same_name (bytes h.1) (bytes (column x 2))) is ∙ same) in
    false≢true (sym free ∙ met)
not_after earlier (r ∷ rows) i (suc k) h row ordered was at same =
    let step = and_parts _ (are_in_order (earlier ++ head_at 1 r ∷ []) (map (head_at 1) rows)) ordered in
    not_after (earlier ++ head_at 1 r ∷ []) rows i k h row step.1 (stays earlier i was) at same
  where
    stays : (xs : List Head) (i : ℕ) → slice_get xs i ≡ Some h → slice_get (xs ++ head_at 1 r ∷ []) i ≡ Some h
    stays [] i e = absurd (none-some h e)
    stays (x ∷ xs) zero e = e
    stays (x ∷ xs) (suc i) e = stays xs i e

last_at : (xs : List Head) (h : Head) → slice_get (xs ++ h ∷ []) (length xs) ≡ Some h
last_at [] h = refl
last_at (x ∷ xs) h = last_at xs h

-- nor one name but for the case of its letters
pub alike_once : (earlier : List Head) (rows : List Row) (k j : ℕ) (a b : Row) → are_in_order earlier (map (head_at 1) rows) ≡ true
    → slice_get rows k ≡ Some a → slice_get rows j ≡ Some b → same_name (bytes (column a 2)) (bytes (column b 2)) ≡ true → k ≡ j
alike_once earlier [] k j a b ordered at there same = absurd (none-some a at)
alike_once earlier (r ∷ rows) zero zero a b ordered at there same = refl
alike_once earlier (r ∷ rows) zero (suc j) a b ordered at there same =
    let step = and_parts _ (are_in_order (earlier ++ head_at 1 r ∷ []) (map (head_at 1) rows)) ordered in
    absurd (not_after (earlier ++ head_at 1 r ∷ []) rows (length earlier) j (head_at 1 r) b step.1 (last_at earlier (head_at 1 r)) there
    (ap (λ (x : Row). same_name (bytes (column x 2)) (bytes (column b 2))) (same_Some r a at) ∙ same))
alike_once earlier (r ∷ rows) (suc k) zero a b ordered at there same =
    let step = and_parts _ (are_in_order (earlier ++ head_at 1 r ∷ []) (map (head_at 1) rows)) ordered in
    absurd (not_after (earlier ++ head_at 1 r ∷ []) rows (length earlier) k (head_at 1 r) a step.1 (last_at earlier (head_at 1 r)) at
    (ap (λ (x : Row). same_name (bytes (column x 2)) (bytes (column a 2))) (same_Some r b there) ∙ names_turned (bytes (column a 2)) (bytes (column b 2)) same))
alike_once earlier (r ∷ rows) (suc k) (suc j) a b ordered at there same =
    let step = and_parts _ (are_in_order (earlier ++ head_at 1 r ∷ []) (map (head_at 1) rows)) ordered in
    ap suc (alike_once (earlier ++ head_at 1 r ∷ []) rows k j a b step.1 at there same)

pub named_once : (earlier : List Head) (rows : List Row) (k j : ℕ) (a b : Row) → are_in_order earlier (map (head_at 1) rows) ≡ true
    → slice_get rows k ≡ Some a → slice_get rows j ≡ Some b → column a 2 ≡ column b 2 → k ≡ j
named_once earlier rows k j a b ordered at there same =
    alike_once earlier rows k j a b ordered at there (ap (λ v. same_name (bytes v) (bytes (column b 2))) same ∙ same_itself (bytes (column b 2)))

-- ---- what it means that a row describes a place
pub record Described (w : Wanted) (row : Row) : Type 0 where
  pub present : is_present w.shape ≡ true
  pub kind : same_value (column row 1) (column w.row 0) ≡ true
  pub name : same_value (column row 2) (column w.row 1) ≡ true
  pub owner : same_value (column row 3) (column w.row 2) ≡ true
  pub sql : same_value (column row 5) (column w.row 3) ≡ true

pub described : (w : Wanted) (row : Row) → describes w row ≡ true → Described w row
unfolding describes is_about
described w row h =
    let a = and_parts (is_present w.shape && same_value (column row 1) (column w.row 0) && same_value (column row 2) (column w.row 1) && same_value (column row 3) (column w.row 2)) (same_value (column row 5) (column w.row 3)) h in
    let b = and_parts (is_present w.shape && same_value (column row 1) (column w.row 0) && same_value (column row 2) (column w.row 1)) (same_value (column row 3) (column w.row 2)) a.0 in
    let c = and_parts (is_present w.shape && same_value (column row 1) (column w.row 0)) (same_value (column row 2) (column w.row 1)) b.0 in
    let d = and_parts (is_present w.shape) (same_value (column row 1) (column w.row 0)) c.0 in
    record { present = d.0; kind = d.1; name = c.1; owner = b.1; sql = a.1 }
