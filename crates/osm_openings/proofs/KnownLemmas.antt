-- What is known of the rows of `sqlite_schema` in a file of a list of trees, and of the pages of their trees.
use Rattle.std.proofs.Common.{◌≡◌, ◌≢◌, ◌∙◌, ◌≤◌, ℕ, suc, Bool, true, false, ◌&&◌, ◌||◌, List, [], ◌∷◌, refl, sym, ap, ap₂, subst, subst₂, inl, inr, arith, map, codes, eqb, IsSome}
use Rattle.std.specs.Prelude.{Option, Some, None, slice_get, not, if◌then◌else◌}
use Rattle.std.specs.List.{list_any, list_all}
use Rattle.std.proofs.lemmas.Option.{same_Some}
use Rattle.std.proofs.lemmas.Bool.{cases_Bool, cases_eq, and_parts, and_from, not-true, false≢true, cond-true, cond-false, or_left, or_cases, eqb-true}
use Rattle.sqlite_value.specs.declared.value.Value.{Value}
use Rattle.sqlite_value.specs.Order.{Row, column}
use Rattle.sqlite_trees.specs.declared.store.Shape.{Shape}
use Rattle.sqlite_trees.specs.declared.store.Shape.TheVariants.{Absent, Table, Index, Pageless, FrozenTable, FrozenIndex}
use Rattle.sqlite_trees.specs.Sound.{is_text_only, is_virtual, is_word, head_at, are_in_order}
use Rattle.sqlite_pages.specs.PageMap.{PageMap}
use Rattle.sqlite_pool.specs.File.{in_use, unlocked, IsSoundFile}
use Rattle.sqlite_pool.specs.FreeList.{live}
use Rattle.sqlite_btree.specs.Chain.{Layout}
use Rattle.sqlite_btree.specs.Stored.{Owns}
use Rattle.sqlite_btree.proofs.StoredLemmas.{stored_root_live}
use Rattle.sqlite_store.specs.declared.catalog.Wanted.{Wanted}
use Rattle.sqlite_store.specs.Catalog.{is_present, describes, is_near, page_number, root_in, roots_in, shape_fits, pages_fit, fits_shape, is_well_formed, has_no_pages, may_stand, is_listed_once, MayAllStand}
use Rattle.sqlite_store.specs.Db.{IsKept, AreTrees, slot_shape, slot_root}
use Rattle.osm_openings.proofs.PlaceLemmas.{any_at, all_at, index_at}
use Rattle.osm_openings.proofs.ListedLemmas.{named_once, described}
use Rattle.osm_openings.proofs.ExactLemmas.{Exact, exact}

pub record KnownParts (schema : List Wanted) (rows : List Row) : Type 0 where
  pub stand : list_all (may_stand schema) rows ≡ true
  pub once : list_all (is_listed_once rows) schema ≡ true
  pub fit : list_all fits_shape schema ≡ true
  pub ordered : are_in_order [] (map (head_at 1) rows) ≡ true

pub known_parts : (schema : List Wanted) (rows : List Row) → MayAllStand schema rows → KnownParts schema rows
known_parts schema rows known =
    let a = and_parts (list_all (may_stand schema) rows && list_all (is_listed_once rows) schema && list_all fits_shape schema) (are_in_order [] (map (head_at 1) rows)) known in
    let b = and_parts (list_all (may_stand schema) rows && list_all (is_listed_once rows) schema) (list_all fits_shape schema) a.0 in
    let c = and_parts (list_all (may_stand schema) rows) (list_all (is_listed_once rows) schema) b.0 in
    record { stand = c.0; once = c.1; fit = b.1; ordered = a.1 }

pub well_formed : (schema : List Wanted) (row : Row) → may_stand schema row ≡ true → is_well_formed row ≡ true
unfolding may_stand
well_formed schema row h = (and_parts (is_well_formed row) _ h).0

-- a row that stands is described by a place, or has no pages
pub described_or_pageless : (schema : List Wanted) (row : Row) → may_stand schema row ≡ true → list_any (λ w. describes w row) schema ≡ false → has_no_pages row ≡ true
unfolding may_stand
described_or_pageless schema row h undescribed =
    let rest = (and_parts (is_well_formed row) _ h).1 in
    (and_parts (has_no_pages row) _ (sym (cond-false _ true _ undescribed) ∙ rest)).0

pub stands : (schema : List Wanted) (row : Row) → is_well_formed row ≡ true → list_any (λ w. describes w row) schema ≡ true → may_stand schema row ≡ true
unfolding may_stand
stands schema row formed is = and_from _ _ formed (cond-true _ true _ is)

pub stands_unlisted : (schema : List Wanted) (row : Row) → is_well_formed row ≡ true → list_any (λ w. describes w row) schema ≡ false → has_no_pages row ≡ true
    → list_any (λ w. is_near w row) schema ≡ false → may_stand schema row ≡ true
unfolding may_stand
stands_unlisted schema row formed none pageless far = and_from _ _ formed (cond-false _ true _ none ∙ and_from _ _ pageless (ap not far))

pub pageless_parts : (row : Row) → has_no_pages row ≡ true → (page_number (column row 4) ≡ 0) × (is_virtual (column row 1) (column row 5) ≡ true)
unfolding has_no_pages
pageless_parts row h = let a = and_parts (eqb (page_number (column row 4)) 0 && is_virtual (column row 1) (column row 5)) _ h in let b = and_parts (eqb (page_number (column row 4)) 0) _ a.0 in (eqb-true _ _ b.0, b.1)

-- only a view or a trigger has a place with no pages
pub virtual_shape : (s : Shape) (kind sql : Value) → is_present s ≡ true → (shape_fits s kind && pages_fit s kind sql) ≡ true → is_virtual kind sql ≡ true → (s ≡ Pageless) × (is_text_only kind ≡ true)
virtual_shape Absent kind sql present fits virtual = absurd (cc)
virtual_shape Table kind sql present fits virtual = absurd (false≢true (sym (not-true _ (and_parts (is_word (codes "table") kind) (not (is_virtual kind sql)) fits).1) ∙ virtual))
virtual_shape (Index o) kind sql present fits virtual = absurd (false≢true (sym (not-true _ fits) ∙ virtual))
virtual_shape Pageless kind sql present fits virtual = (refl, fits)
virtual_shape FrozenTable kind sql present fits virtual = absurd (false≢true (sym (not-true _ (and_parts (is_word (codes "table") kind) (not (is_virtual kind sql)) fits).1) ∙ virtual))
virtual_shape (FrozenIndex o) kind sql present fits virtual = absurd (false≢true (sym (not-true _ fits) ∙ virtual))

-- rows with names of their own
abbrev pub Once : List Row → Type 0
Once xs = (k j : ℕ) (a b : Row) → slice_get xs k ≡ Some a → slice_get xs j ≡ Some b → column a 2 ≡ column b 2 → k ≡ j

-- ---- page 0 is none
some_then : {X : Type 0} (b : Bool) (o : Option X) → IsSome (if b then o else None) → IsSome o
some_then true o some = some
some_then false o some = absurd (cc)

some_else : {X : Type 0} (b : Bool) (o : Option X) → IsSome (if b then None else o) → IsSome o
some_else true o some = absurd (cc)
some_else false o some = some

pub none_at_zero : (size : ℕ) (pages : PageMap) → IsSoundFile size pages → IsSome (in_use size pages 0) → ⊥
unfolding in_use live unlocked
none_at_zero size pages sound some = let first : 1 ≤ 0 = ((sound.counted 0).0 (some_else _ (pages 0) (some_then _ (unlocked size pages 0) some))).0 in omega (arith, first)

if_not : (o : Option (List ℕ)) → ¬ (IsSome o) → o ≡ None
if_not None never = refl
if_not (Some bytes) never = absurd (never refl)

pub no_page_0 : (size : ℕ) (pages : PageMap) → IsSoundFile size pages → in_use size pages 0 ≡ None
no_page_0 size pages sound = if_not (in_use size pages 0) (none_at_zero size pages sound)

-- ---- roots
found_root : (w : Wanted) (rs : List Row) → list_any (λ row. describes w row) rs ≡ true → (k : ℕ) × (row : Row) × (slice_get rs k ≡ Some row) × (describes w row ≡ true) × (root_in rs w ≡ page_number (column row 4))
found_root w [] some = absurd (cc)
found_root w (r ∷ rs) some = elim (cases_Bool (describes w r)) [
  | inl holds ↦ (0, r, refl, holds, cond-true _ _ (root_in rs w) holds)
  | inr fails ↦
      let later : list_any (λ row. describes w row) rs ≡ true = elim (or_cases (describes w r) (list_any (λ row. describes w row) rs) some) [ inl here ↦ absurd (false≢true (sym fails ∙ here)) | inr later ↦ later ] in
      let f = found_root w rs later in (suc f.0, f.1, f.2, f.3, cond-false _ (page_number (column r 4)) _ fails ∙ f.4)
]

pub no_root : (w : Wanted) (rs : List Row) → list_any (λ row. describes w row) rs ≡ false → root_in rs w ≡ 0
no_root w [] none = refl
no_root w (r ∷ rs) none = elim (cases_Bool (describes w r)) [
  | inl holds ↦ absurd (false≢true (sym none ∙ or_left _ _ holds))
  | inr fails ↦ cond-false _ (page_number (column r 4)) _ fails ∙ no_root w rs (neither (describes w r) (list_any (λ row. describes w row) rs) none)
]
  where
    neither : (a b : Bool) → (a || b) ≡ false → b ≡ false
    neither true b h = absurd (cc)
    neither false b h = h

-- ---- what a shape says of pages
pub live_root : (s : Shape) (kind sql : Value) → is_present s ≡ true → (shape_fits s kind && pages_fit s kind sql) ≡ true → is_virtual kind sql ≡ false → (size root : ℕ) (layout : Layout) → IsKept size layout s root → layout.nodes root ≢ []
live_root Absent kind sql present fits virtual size root layout kept = absurd (cc)
live_root Table kind sql present fits virtual size root layout kept = stored_root_live kept.1.stored
live_root (Index o) kind sql present fits virtual size root layout kept = stored_root_live kept.1.stored
live_root Pageless kind sql present fits virtual size root layout kept = absurd (false≢true (sym virtual ∙ or_left _ _ fits))
live_root FrozenTable kind sql present fits virtual size root layout kept = stored_root_live kept.1.stored
live_root (FrozenIndex o) kind sql present fits virtual size root layout kept = stored_root_live kept.1.stored

pub owner_real : (s : Shape) (kind sql : Value) → (shape_fits s kind && pages_fit s kind sql) ≡ true → (size root n : ℕ) (layout : Layout) → IsKept size layout s root → Owns layout n
    → (is_present s ≡ true) × (is_virtual kind sql ≡ false)
owner_real Absent kind sql fits size root n layout kept owns = absurd (kept n owns)
owner_real Table kind sql fits size root n layout kept owns = (refl, not-true _ (and_parts (is_word (codes "table") kind) (not (is_virtual kind sql)) fits).1)
owner_real (Index o) kind sql fits size root n layout kept owns = (refl, not-true _ fits)
owner_real Pageless kind sql fits size root n layout kept owns = absurd (kept.0 n owns)
owner_real FrozenTable kind sql fits size root n layout kept owns = (refl, not-true _ (and_parts (is_word (codes "table") kind) (not (is_virtual kind sql)) fits).1)
owner_real (FrozenIndex o) kind sql fits size root n layout kept owns = (refl, not-true _ fits)

module _ {rows : List Row} {old : List Wanted} (known : KnownParts old rows) where
  pub stood : (k : ℕ) (row : Row) → slice_get rows k ≡ Some row → may_stand old row ≡ true
  stood k row at = all_at (may_stand old) rows k row known.stand at

  pub formed : (k : ℕ) (row : Row) → slice_get rows k ≡ Some row → is_well_formed row ≡ true
  formed k row at = well_formed old row (stood k row at)

  pub once : Once rows
  once k j a b at there same = named_once [] rows k j a b known.ordered at there same

  pub exact_at : (k : ℕ) (row : Row) (w : Wanted) → slice_get rows k ≡ Some row → describes w row ≡ true → Exact w row
  exact_at k row w at h = exact w row (formed k row at) h

  pub fit_at : (u : ℕ) (w : Wanted) → slice_get old u ≡ Some w → fits_shape w ≡ true
  fit_at u w there = all_at fits_shape old u w known.fit there

  -- one place describes one row
  pub one_row : (w : Wanted) (k j : ℕ) (a b : Row) → slice_get rows k ≡ Some a → slice_get rows j ≡ Some b → describes w a ≡ true → describes w b ≡ true → k ≡ j
  one_row w k j a b at there h i = once k j a b at there (sym (exact_at k a w at h).name ∙ (exact_at j b w there i).name)

  -- a row that an old place describes is that of a text alone if it has no pages
  pub old_text : (k u : ℕ) (row : Row) (w : Wanted) → slice_get rows k ≡ Some row → slice_get old u ≡ Some w → describes w row ≡ true → is_virtual (column row 1) (column row 5) ≡ true
      → (w.shape ≡ Pageless) × (is_text_only (column row 1) ≡ true)
  old_text k u row w at there h virtual =
      let e = exact_at k row w at h in
      let r = virtual_shape w.shape (column w.row 0) (column w.row 3) (described w row h).present (fit_at u w there) (ap₂ is_virtual e.kind e.sql ∙ virtual) in
      (r.0, sym (ap is_text_only e.kind) ∙ r.1)

  -- a row of a text alone has no page, if the old list's place of it has none
  pub text_page : (k : ℕ) (row : Row) → slice_get rows k ≡ Some row → list_any (λ w. describes w row) old ≡ false → page_number (column row 4) ≡ 0
  text_page k row at none = (pageless_parts row (described_or_pageless old row (stood k row at) none)).0

module _ {rows : List Row} {old : List Wanted} (known : KnownParts old rows) (size : ℕ) (pages : PageMap) (layouts : ℕ → Layout)
    (trees : AreTrees size (slot_shape old) (slot_root (roots_in rows old)) pages layouts) where
  pub root_is : (w : Wanted) (k : ℕ) (row : Row) → slice_get rows k ≡ Some row → describes w row ≡ true → root_in rows w ≡ page_number (column row 4)
  root_is w k row at h =
      let f = found_root w rows (any_at (λ row. describes w row) rows k row at h) in
      let place = one_row known w f.0 k f.1 row f.2 at f.3 h in
      let same : f.1 ≡ row = same_Some f.1 row (sym f.2 ∙ ap (slice_get rows) place ∙ at) in
      f.4 ∙ ap (λ (r : Row). page_number (column r 4)) same

  pub kept_old : (u : ℕ) (w : Wanted) → slice_get old u ≡ Some w → IsKept size (layouts (suc u)) w.shape (root_in rows w)
  kept_old u w there = subst₂ (IsKept size (layouts (suc u))) (index_at (λ (w : Wanted). w.shape) old u w Absent there) (index_at (root_in rows) old u w 0 there) (trees.kept (suc u))

  pub live_old : (u k : ℕ) (w : Wanted) (row : Row) → slice_get old u ≡ Some w → slice_get rows k ≡ Some row → describes w row ≡ true → is_virtual (column row 1) (column row 5) ≡ false
      → (layouts (suc u)).nodes (page_number (column row 4)) ≢ []
  live_old u k w row there at h virtual =
      let e = exact_at known k row w at h in
      live_root w.shape (column w.row 0) (column w.row 3) (described w row h).present (fit_at known u w there) (ap₂ is_virtual e.kind e.sql ∙ virtual) size (page_number (column row 4)) (layouts (suc u))
      (subst (IsKept size (layouts (suc u)) w.shape) (root_is w k row at h) (kept_old u w there))

  -- a row with pages has one old place
  pub one_old : (u v k : ℕ) (w x : Wanted) (row : Row) → slice_get old u ≡ Some w → slice_get old v ≡ Some x → slice_get rows k ≡ Some row → describes w row ≡ true → describes x row ≡ true
      → is_virtual (column row 1) (column row 5) ≡ false → u ≡ v
  one_old u v k w x row at there is h i virtual = elim (cases_eq (suc u) (suc v)) [
    | inl same ↦ omega (arith, same)
    | inr apart ↦ absurd (trees.apart (suc u) (suc v) (page_number (column row 4)) apart (inl (live_old u k w row at is h virtual)) (inl (live_old v k x row there is i virtual)))
  ]
