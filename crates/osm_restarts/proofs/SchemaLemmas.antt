-- A file of one schema is a file of the list of trees that is made of what its `sqlite_schema` says.
use Rattle.std.proofs.Common.{◌⊎◌, ◌≡◌, ◌∙◌, ◌+◌, ◌≤◌, ℕ, zero, suc, Bool, true, false, not, ◌&&◌, ◌||◌, List, [], ◌∷◌, length, filter, refl, sym, ap, ap₂, subst, inl, inr, arith, count_by, le-leb, map}
use Rattle.std.specs.Prelude.{Option, Some, None, slice_get}
use Rattle.std.specs.Borrow.{Bor}
use Rattle.std.specs.List.{list_any}
use Rattle.std.proofs.lemmas.Option.{none-some, same_Some}
use Rattle.std.proofs.lemmas.Bool.{cases_Bool, and_from, not-true, false≢true, cond-true, cond-false, or_from}
use Rattle.sqlite_value.specs.declared.value.Value.{Value}
use Rattle.sqlite_value.specs.declared.value.Value.TheVariants.{Text}
use Rattle.sqlite_value.specs.declared.keys.Order.{Order}
use Rattle.sqlite_value.specs.Order.{Row, column, bytes}
use Rattle.sqlite_trees.specs.declared.store.Shape.{Shape}
use Rattle.sqlite_trees.specs.declared.store.Shape.TheVariants.{Pageless}
use Rattle.sqlite_trees.specs.declared.schema.Object.{Object}
use Rattle.sqlite_trees.specs.Objects.{description, text_or_null}
use Rattle.sqlite_trees.specs.Sound.{is_text_only, is_virtual, same_name}
use Rattle.sqlite_store.specs.declared.catalog.Wanted.{Wanted}
use Rattle.sqlite_store.specs.Catalog.{is_present, same_value, describes, is_near, has_no_pages, may_stand, shape_fits, pages_fit, fits_shape, is_listed_once, MayAllStand, wanted_of}
use Rattle.sqlite_store.specs.Catalog.{text_or_null as wanted_text}
use Rattle.osm_openings.specs.Catalog.{is_own, is_left_out, is_free, others, AreListed, StandApart}
use Rattle.osm_openings.specs.Presumed.{foreign_tree, foreign_trees, trees_of}
use Rattle.osm_openings.proofs.PlaceLemmas.{any_at, any_place, all_at, all_from, mapped_at, at_mapped, counted_once, is_text_of, is_null_of}
use Rattle.osm_openings.proofs.ListedLemmas.{described}
use Rattle.osm_openings.proofs.ForeignLemmas.{append_first, append_second, appended, from_filter, to_filter, foreign_at, at_foreign, describes_itself}
use Rattle.osm_openings.proofs.KnownLemmas.{KnownParts, Once, described_or_pageless, stands, stands_unlisted, formed, stood, once, exact_at, fit_at, one_row, old_text}

-- the place of a schema that has this object
pub record Knows (objects : List Object) (at : ℕ) (w : Wanted) : Type 0 where
  pub object : Object
  pub is : slice_get objects at ≡ Some object
  pub name : column w.row 1 ≡ Text object.name.now
  pub shape : w.shape ≡ object.shape

-- each tree that the schema has is one of these objects
abbrev pub HasOnly : List Object → List Wanted → Type 0
HasOnly objects schema = (at : ℕ) (w : Wanted) → slice_get schema at ≡ Some w → is_present w.shape ≡ true → Knows objects at w

-- an object that has pages, in a shape that fits it
pub record HasPages (o : Object) : Type 0 where
  pub real : is_virtual (column (description o) 0) (column (description o) 3) ≡ false
  pub fits : fits_shape (wanted_of o) ≡ true

listed_once_from : (rows : List Row) (w : Wanted) → count_by (describes w) rows ≤ 1 → is_listed_once rows w ≡ true
unfolding is_listed_once
listed_once_from rows w h = le-leb _ 1 h

text_fits : (w : Wanted) → w.shape ≡ Pageless → is_text_only (column w.row 0) ≡ true → fits_shape w ≡ true
text_fits w shape text = rw shape text

or_false : (a b : Bool) → (a || b) ≡ false → (a ≡ false) × (b ≡ false)
or_false true b h = absurd (cc)
or_false false b h = (refl, h)

apart_if : (out apart : Bool) → out ≡ true → (not out || apart) ≡ true → apart ≡ true
apart_if true apart e h = h
apart_if false apart e h = absurd (cc)

free_parts : (objects : List Object) (rows : List Row) (table : List ℕ) → is_free objects rows table ≡ true
    → (list_any (λ (o : Object). same_name table o.table.now) objects ≡ false) × (list_any (λ (other : Row). same_name table (bytes (column other 3))) rows ≡ false)
unfolding is_free
free_parts objects rows table h = or_false _ _ (not-true _ h)

-- ---- what a row says that an object describes
sql_is : (sql : Option (Bor (List ℕ))) (v : Value) → same_value v (wanted_text sql) ≡ true → v ≡ text_or_null sql
sql_is None v same = is_null_of v same
sql_is (Some text) v same = is_text_of v text.now same

-- a row that is neither left out nor a text alone isn't virtual
kept_real : (v t : Bool) → t ≡ false → (v && not t) ≡ false → v ≡ false
kept_real false t e h = refl
kept_real true false e h = absurd (cc)
kept_real true true e h = absurd (cc)

left_out_parts : (v t : Bool) → (v && not t) ≡ true → (v ≡ true) × (t ≡ false)
left_out_parts true false h = (refl, refl)
left_out_parts true true h = absurd (cc)
left_out_parts false t h = absurd (cc)

abbrev fits_as : Shape → Value → Value → Bool
fits_as s kind sql = shape_fits s kind && pages_fit s kind sql

same_fits : (v w : Wanted) → v.shape ≡ w.shape → column v.row 0 ≡ column w.row 0 → column v.row 3 ≡ column w.row 3 → fits_shape v ≡ fits_shape w
same_fits v w shape kind sql =
    ap (λ s. fits_as s (column v.row 0) (column v.row 3)) shape ∙ ap (λ k. fits_as w.shape k (column v.row 3)) kind ∙ ap (λ q. fits_as w.shape (column w.row 0) q) sql

fewer_once : (y : Row) (xs : List Row) → Once (y ∷ xs) → Once xs
fewer_once y xs all k j a b at there same = let e : suc k ≡ suc j = all (suc k) (suc j) a b at there same in omega (arith, e)

filter_once : (p : Row → Bool) (xs : List Row) → Once xs → Once (filter p xs)
filter_once p [] all k j a b at there same = absurd (none-some a at)
filter_once p (y ∷ xs) all k j a b at there same = elim (cases_Bool (p y)) [
  | inl passes ↦
      let kept : filter p (y ∷ xs) ≡ y ∷ filter p xs = cond-true (p y) (y ∷ filter p xs) (filter p xs) passes in
      more k j (ap (λ (zs : List Row). slice_get zs k) (sym kept) ∙ at) (ap (λ (zs : List Row). slice_get zs j) (sym kept) ∙ there) (λ m n. filter_once p xs (fewer_once y xs all) m n a b)
  | inr out ↦
      let fewer : filter p (y ∷ xs) ≡ filter p xs = cond-false (p y) (y ∷ filter p xs) (filter p xs) out in
      filter_once p xs (fewer_once y xs all) k j a b (ap (λ (zs : List Row). slice_get zs k) (sym fewer) ∙ at) (ap (λ (zs : List Row). slice_get zs j) (sym fewer) ∙ there) same
]
  where
    first : (i : ℕ) (c : Row) → slice_get (filter p xs) i ≡ Some c → column y 2 ≡ column c 2 → ⊥
    first i c is tied = let r = from_filter p xs i c is in let e : 0 ≡ suc r.0 = all 0 (suc r.0) y c refl r.1 tied in let f : suc r.0 ≡ 0 = sym e in omega (arith, f)

    more : (k j : ℕ) → slice_get (y ∷ filter p xs) k ≡ Some a → slice_get (y ∷ filter p xs) j ≡ Some b
        → ((m n : ℕ) → slice_get (filter p xs) m ≡ Some a → slice_get (filter p xs) n ≡ Some b → column a 2 ≡ column b 2 → m ≡ n) → k ≡ j
    more zero zero here also rest = refl
    more zero (suc j) here also rest = absurd (first j b also (ap (λ (r : Row). column r 2) (same_Some y a here) ∙ same))
    more (suc k) zero here also rest = absurd (first k a here (ap (λ (r : Row). column r 2) (same_Some y b also) ∙ sym same))
    more (suc k) (suc j) here also rest = ap suc (rest k j here also same)

-- a row of an object with pages is not that of a text alone or of a virtual table
pub object_real : (o : Object) (row : Row) → HasPages o → describes (wanted_of o) row ≡ true → is_virtual (column row 1) (column row 5) ≡ false
object_real o row has h =
    let d = described (wanted_of o) row h in
    ap₂ is_virtual (is_text_of (column row 1) o.kind.now d.kind) (sql_is o.sql (column row 5) d.sql) ∙ has.real

-- an old place that describes the row, with its shape
pub record Told (old : List Wanted) (row : Row) (shape : Shape) : Type 0 where
  pub place : ℕ
  pub wanted : Wanted
  pub there : slice_get old place ≡ Some wanted
  pub describes_it : describes wanted row ≡ true
  pub shape_is : wanted.shape ≡ shape

-- What is known of the rows of `sqlite_schema`, and of the list of trees whose they are known to be: it has each tree in the shape of the object, or
-- in that of the new list.
pub record Relisting (kinds : Row → Option Order) (objects : List Object) (rows : List Row) (old : List Wanted) : Type 0 where
  pub listed : AreListed objects rows
  pub apart : StandApart objects (others objects rows) rows
  pub sized : (t : ℕ) (o : Object) → slice_get objects t ≡ Some o → HasPages o
  pub named : (t u : ℕ) (o p : Object) → slice_get objects t ≡ Some o → slice_get objects u ≡ Some p → o.name.now ≡ p.name.now → t ≡ u
  pub known : KnownParts old rows
  pub told_own : (t k : ℕ) (o : Object) (row : Row) → slice_get objects t ≡ Some o → slice_get rows k ≡ Some row → describes (wanted_of o) row ≡ true → Told old row o.shape
  pub told_other : (k : ℕ) (row : Row) → slice_get rows k ≡ Some row → is_own objects row ≡ false → is_virtual (column row 1) (column row 5) ≡ false → Told old row (foreign_tree row (kinds row)).shape

module _ {kinds : Row → Option Order} {objects : List Object} {rows : List Row} {old : List Wanted} (given : Relisting kinds objects rows old) where
  abbrev rest : List Row
  rest = others objects rows

  abbrev pub new : List Wanted
  new = trees_of objects rest (map kinds rest)

  record RowOf (o : Object) : Type 0 where
    at : ℕ
    row : Row
    there : slice_get rows at ≡ Some row
    is : describes (wanted_of o) row ≡ true

  row_of : (t : ℕ) (o : Object) → slice_get objects t ≡ Some o → RowOf o
  row_of t o is =
      let r = any_place (λ (row : Row). describes (wanted_of o) row) rows (all_at (λ (p : Object). list_any (λ row. describes (wanted_of p) row) rows) objects t o given.listed is) in
      record { at = r.0; row = r.1; there = r.2; is = r.3 }

  named_by : (o : Object) (row : Row) → describes (wanted_of o) row ≡ true → column row 2 ≡ Text o.name.now
  named_by o row h = is_text_of (column row 2) o.name.now (described (wanted_of o) row h).name

  own : (t : ℕ) (o : Object) (row : Row) → slice_get objects t ≡ Some o → describes (wanted_of o) row ≡ true → is_own objects row ≡ true
  own t o row at h = any_at (λ (p : Object). describes (wanted_of p) row) objects t o at h

  real : (t : ℕ) (o : Object) (row : Row) → slice_get objects t ≡ Some o → describes (wanted_of o) row ≡ true → is_virtual (column row 1) (column row 5) ≡ false
  real t o row at h = object_real o row (given.sized t o at) h

  -- ---- the places of the new list
  record OtherRow (row : Row) : Type 0 where
    at : ℕ
    there : slice_get rows at ≡ Some row
    foreign : is_own objects row ≡ false
    within : is_left_out row ≡ false

  other_row : (j : ℕ) (row : Row) → slice_get rest j ≡ Some row → OtherRow row
  other_row j row at =
      let r = from_filter (λ (x : Row). not (is_own objects x || is_left_out x)) rows j row at in
      let neither = or_false (is_own objects row) (is_left_out row) (not-true _ r.2) in
      record { at = r.0; there = r.1; foreign = neither.0; within = neither.1 }

  -- the row that a new place describes: that of a text alone, or of a tree that the old list has in the same shape
  pub record NewRow (w : Wanted) : Type 0 where
    pub at : ℕ
    pub row : Row
    pub there : slice_get rows at ≡ Some row
    pub describes_it : describes w row ≡ true
    pub kind : ((w.shape ≡ Pageless) × (is_text_only (column row 1) ≡ true)) ⊎ ((is_virtual (column row 1) (column row 5) ≡ false) × Told old row w.shape)

  new_other : (row : Row) → OtherRow row → NewRow (foreign_tree row (kinds row))
  new_other row o = elim (cases_Bool (is_text_only (column row 1))) [
    | inl text ↦ record { at = o.at; row = row; there = o.there; describes_it = describes_itself kinds row; kind = inl (cond-true _ Pageless _ text, text) }
    | inr tree ↦
        let virtual = kept_real (is_virtual (column row 1) (column row 5)) (is_text_only (column row 1)) tree o.within in
        record { at = o.at; row = row; there = o.there; describes_it = describes_itself kinds row; kind = inr (virtual, given.told_other o.at row o.there o.foreign virtual) }
  ]

  new_own : (t : ℕ) (o : Object) → slice_get objects t ≡ Some o → NewRow (wanted_of o)
  new_own t o is =
      let r = row_of t o is in
      record { at = r.at; row = r.row; there = r.there; describes_it = r.is; kind = inr (real t o r.row is r.is, given.told_own t r.at o r.row is r.there r.is) }

  record Foreign (t : ℕ) (w : Wanted) : Type 0 where
    row : Row
    place : ℕ
    listed : slice_get rest place ≡ Some row
    is : foreign_tree row (kinds row) ≡ w
    behind : t ≡ length (map wanted_of objects) + place

  new_place : (t : ℕ) (w : Wanted) → slice_get new t ≡ Some w → ((o : Object) × (slice_get objects t ≡ Some o) × (wanted_of o ≡ w)) ⊎ Foreign t w
  new_place t w at = elim (appended (map wanted_of objects) (foreign_trees rest (map kinds rest)) t w at) [
    | inl first ↦ inl (at_mapped wanted_of objects t w first)
    | inr second ↦ let r = at_foreign kinds rest second.0 w second.1 in inr (record { row = r.0; place = second.0; listed = r.1; is = r.2; behind = second.2 })
  ]

  pub new_row : (t : ℕ) (w : Wanted) → slice_get new t ≡ Some w → NewRow w
  new_row t w at = elim (new_place t w at) [
    | inl o ↦ subst NewRow o.2 (new_own t o.0 o.1)
    | inr f ↦ subst NewRow f.is (new_other f.row (other_row f.place f.row f.listed))
  ]

  -- the place of a row that is listed
  pub record NewPlace (row : Row) : Type 0 where
    pub place : ℕ
    pub wanted : Wanted
    pub there : slice_get new place ≡ Some wanted
    pub is : describes wanted row ≡ true

  own_place : (row : Row) → is_own objects row ≡ true → NewPlace row
  own_place row some =
      let (t, o, is, h) = any_place (λ (o : Object). describes (wanted_of o) row) objects some in
      record { place = t; wanted = wanted_of o; there = append_first (map wanted_of objects) (foreign_trees rest (map kinds rest)) t (wanted_of o) (mapped_at wanted_of objects t o is); is = h }

  other_place : (k : ℕ) (row : Row) → slice_get rows k ≡ Some row → is_own objects row ≡ false → is_left_out row ≡ false → NewPlace row
  other_place k row at foreign within =
      let j = to_filter (λ (x : Row). not (is_own objects x || is_left_out x)) rows k row at (ap not (or_from (is_own objects row) (is_left_out row) foreign within)) in
      record {
        place = length (map wanted_of objects) + j.0;
        wanted = foreign_tree row (kinds row);
        there = append_second (map wanted_of objects) (foreign_trees rest (map kinds rest)) j.0 (foreign_tree row (kinds row)) (foreign_at kinds rest j.0 row j.1);
        is = describes_itself kinds row;
      }

  pub place_of : (k : ℕ) (row : Row) → slice_get rows k ≡ Some row → is_virtual (column row 1) (column row 5) ≡ false → NewPlace row
  place_of k row at virtual = elim (cases_Bool (is_own objects row)) [
    | inl some ↦ own_place row some
    | inr foreign ↦ other_place k row at foreign (ap (λ v. v && not (is_text_only (column row 1))) virtual)
  ]

  -- a row has one place
  pub one_place : (t u k : ℕ) (w x : Wanted) (row : Row) → slice_get new t ≡ Some w → slice_get new u ≡ Some x → slice_get rows k ≡ Some row → describes w row ≡ true → describes x row ≡ true → t ≡ u
  one_place t u k w x row at there is h i = elim (new_place t w at) [
    | inl o ↦
        let a = subst (λ (v : Wanted). describes v row ≡ true) (sym o.2) h in
        elim (new_place u x there) [
          | inl p ↦ given.named t u o.0 p.0 o.1 p.1 (ap bytes (sym (named_by o.0 row a) ∙ named_by p.0 row (subst (λ (v : Wanted). describes v row ≡ true) (sym p.2) i)))
          | inr g ↦ absurd (apart_from t o.0 row k u x o.1 is a g i)
        ]
    | inr f ↦ elim (new_place u x there) [
      | inl p ↦ absurd (apart_from u p.0 row k t w p.1 is (subst (λ (v : Wanted). describes v row ≡ true) (sym p.2) i) f h)
      | inr g ↦
          let name = is_name t w f h ∙ sym (is_name u x g i) in
          let same = filter_once (λ (r : Row). not (is_own objects r || is_left_out r)) rows (once given.known) f.place g.place f.row g.row f.listed g.listed name in
          f.behind ∙ ap (λ n. length (map wanted_of objects) + n) same ∙ sym g.behind
    ]
  ]
    where
      is_name : (t : ℕ) (w : Wanted) (f : Foreign t w) → describes w row ≡ true → column f.row 2 ≡ column row 2
      is_name t w f h = ap (λ (v : Wanted). column v.row 1) f.is ∙ (exact_at given.known k row w is h).name

      apart_from : (t : ℕ) (o : Object) (row : Row) (k u : ℕ) (x : Wanted) → slice_get objects t ≡ Some o → slice_get rows k ≡ Some row → describes (wanted_of o) row ≡ true → Foreign u x → describes x row ≡ true → ⊥
      apart_from t o row k u x at is h g i =
          let r = other_row g.place g.row g.listed in
          let place = once given.known k r.at row g.row is r.there (sym (exact_at given.known k row x is i).name ∙ sym (ap (λ (v : Wanted). column v.row 1) g.is)) in
          let same : row ≡ g.row = same_Some row g.row (sym is ∙ ap (slice_get rows) place ∙ r.there) in
          false≢true (sym r.foreign ∙ ap (is_own objects) (sym same) ∙ own t o row at h)

  -- ---- the rows may stand under the new list
  stands_again : (k : ℕ) (row : Row) → slice_get rows k ≡ Some row → may_stand new row ≡ true
  stands_again k row at = elim (cases_Bool (list_any (λ w. describes w row) new)) [
    | inl some ↦ stands new row (formed given.known k row at) some
    | inr none ↦ let out = left (no_object none) none in stands_unlisted new row (formed given.known k row at) none (pageless out) (far out)
  ]
    where
      unlisted : list_any (λ w. describes w row) new ≡ false → NewPlace row → ⊥
      unlisted none p = false≢true (sym none ∙ any_at (λ (w : Wanted). describes w row) new p.place p.wanted p.there p.is)

      no_object : list_any (λ w. describes w row) new ≡ false → is_own objects row ≡ false
      no_object none = elim (cases_Bool (is_own objects row)) [ inr foreign ↦ foreign | inl some ↦ absurd (unlisted none (own_place row some)) ]

      left : is_own objects row ≡ false → list_any (λ w. describes w row) new ≡ false → is_left_out row ≡ true
      left foreign none = elim (cases_Bool (is_left_out row)) [ inl out ↦ out | inr within ↦ absurd (unlisted none (other_place k row at foreign within)) ]

      -- no old place has what is left out
      pageless : is_left_out row ≡ true → has_no_pages row ≡ true
      pageless out =
          let p = left_out_parts (is_virtual (column row 1) (column row 5)) (is_text_only (column row 1)) out in
          elim (cases_Bool (list_any (λ w. describes w row) old)) [
            | inr none ↦ described_or_pageless old row (stood given.known k row at) none
            | inl some ↦
                let (u, w, there, h) = any_place (λ (x : Wanted). describes x row) old some in
                absurd (false≢true (sym p.1 ∙ (old_text given.known k u row w at there h p.0).1))
          ]

      far : is_left_out row ≡ true → list_any (λ w. is_near w row) new ≡ false
      far out = elim (cases_Bool (list_any (λ w. is_near w row) new)) [
        | inr none ↦ none
        | inl some ↦
            let (t, w, is, near) = any_place (λ (x : Wanted). is_near x row) new some in
            let alone = all_at (λ (x : Row). not (is_left_out x) || is_free objects rest (bytes (column x 3))) rows k row given.apart at in
            let neither = free_parts objects rest (bytes (column row 3)) (apart_if (is_left_out row) (is_free objects rest (bytes (column row 3))) out alone) in
            elim (new_place t w is) [
              | inl o ↦ absurd (false≢true (sym neither.0 ∙ any_at (λ (p : Object). same_name (bytes (column row 3)) p.table.now) objects t o.0 o.1 (ap (λ (x : Wanted). is_near x row) o.2 ∙ near)))
              | inr f ↦
                  absurd (false≢true (sym neither.1 ∙ any_at (λ (r : Row). same_name (bytes (column row 3)) (bytes (column r 3))) rest f.place f.row f.listed (ap (λ (x : Wanted). is_near x row) f.is ∙ near)))
            ]
      ]

  described_once : (w : Wanted) → is_listed_once rows w ≡ true
  described_once w = listed_once_from rows w (counted_once (describes w) rows (λ k j a b at there h i. one_row given.known w k j a b at there h i))

  fits_again : (t : ℕ) (w : Wanted) → slice_get new t ≡ Some w → fits_shape w ≡ true
  fits_again t w there =
      let r = new_row t w there in
      let e = exact_at given.known r.at r.row w r.there r.describes_it in
      elim r.kind [
        | inl text ↦ text_fits w text.0 (ap is_text_only e.kind ∙ text.1)
        | inr tree ↦
            let was = exact_at given.known r.at r.row tree.1.wanted r.there tree.1.describes_it in
            sym (same_fits tree.1.wanted w tree.1.shape_is (was.kind ∙ sym e.kind) (was.sql ∙ sym e.sql)) ∙ fit_at given.known tree.1.place tree.1.wanted tree.1.there
      ]

  pub known_again : MayAllStand new rows
  known_again =
      and_from _ _ (and_from _ _ (and_from _ _
      (all_from (may_stand new) rows stands_again)
      (all_from (is_listed_once rows) new (λ t w there. described_once w)))
      (all_from fits_shape new fits_again))
      given.known.ordered
