-- Which old place a row of `sqlite_schema` has, in which shape: where the old list has the trees of a store alone, and where it has others as their rows ask.
use Rattle.std.proofs.Common.{◌⊎◌, ◌≡◌, ◌≢◌, ◌∙◌, ◌+◌, ◌<◌, ℕ, zero, suc, true, false, List, [], ◌∷◌, refl, sym, ap, subst, inl, inr, arith, map, IsSome, pos, take, drop}
use Rattle.std.specs.Prelude.{Option, Some, None, slice_get}
use Rattle.std.specs.Borrow.{Bor}
use Rattle.std.specs.List.{list_any}
use Rattle.std.proofs.lemmas.Option.{none-some, same_Some}
use Rattle.std.proofs.lemmas.Bool.{cases_Bool, cases_eq, false≢true, cond-true, cond-false, or_left}
use Rattle.sqlite_value.specs.declared.value.Value.TheVariants.{Int, Text}
use Rattle.sqlite_value.specs.declared.keys.Order.{Order}
use Rattle.sqlite_value.specs.Order.{Row, column, bytes}
use Rattle.sqlite_trees.specs.declared.store.Shape.{Shape}
use Rattle.sqlite_trees.specs.declared.store.Shape.TheVariants.{Index, Pageless, FrozenIndex}
use Rattle.sqlite_trees.specs.declared.schema.Object.{Object}
use Rattle.sqlite_trees.specs.Objects.{listing, number_in, object_row, shape_code, text_or_null}
use Rattle.sqlite_trees.specs.Listing.{same_code}
use Rattle.sqlite_trees.specs.Sound.{is_text_only, is_virtual}
use Rattle.sqlite_pages.specs.PageMap.{PageMap}
use Rattle.sqlite_btree.specs.Chain.{Layout}
use Rattle.sqlite_btree.proofs.StoredLemmas.{stored_root_live}
use Rattle.sqlite_schema.specs.declared.schema.Index.{Index as Added}
use Rattle.sqlite_store.specs.declared.catalog.Wanted.{Wanted}
use Rattle.sqlite_store.specs.Catalog.{is_present, same_value, describes, page_number, roots_in, wanted_of}
use Rattle.sqlite_store.specs.Catalog.{text_or_null as wanted_text}
use Rattle.sqlite_store.specs.Db.{IsKept, AreTrees, slot_shape, slot_root}
use Rattle.sqlite_store.specs.Listing.{listed_from}
use Rattle.sqlite_store.specs.Roots.{is_index_page}
use Rattle.sqlite_store.proofs.RootLemmas.{table_root, index_root}
use Rattle.osm_tree_writes.specs.Added.{plain_index}
use Rattle.osm_openings.specs.Asked.{entry_of, IsAsAsked, ListsAsAsked}
use Rattle.osm_openings.specs.Catalog.{is_own, numbered, listings, AreListed}
use Rattle.osm_index_orders.specs.Orders.{index_order}
use Rattle.osm_openings.specs.Presumed.{foreign_tree, foreign_shape, root_order, tree_shape}
use Rattle.osm_tree_writes.specs.Tables.{table_listings}
use Rattle.osm_openings.proofs.PlaceLemmas.{any_at, any_place, all_at, All-at, is_text_of}
use Rattle.osm_openings.proofs.ListedLemmas.{listed_at, at_listed, described}
use Rattle.osm_openings.proofs.KnownLemmas.{KnownParts, pageless_parts, described_or_pageless, stood, once, exact_at, root_is, kept_old, live_old}
use Rattle.osm_openings.proofs.OrderLemmas.{order_again}
use Rattle.osm_restarts.proofs.ObjectLemmas.{at_listings, listings_at}
use Rattle.osm_restarts.proofs.SchemaLemmas.{HasOnly, Told}
use Rattle.osm_openings.proofs.ForeignLemmas.{describes_again}

-- a row with pages has an old place
old_place : {rows : List Row} {old : List Wanted} → KnownParts old rows → (k : ℕ) (row : Row) → slice_get rows k ≡ Some row → is_virtual (column row 1) (column row 5) ≡ false
    → (u : ℕ) × (w : Wanted) × (slice_get old u ≡ Some w) × (describes w row ≡ true)
old_place {old = old} known k row at real = elim (cases_Bool (list_any (λ w. describes w row) old)) [
  | inl some ↦ any_place (λ (w : Wanted). describes w row) old some
  | inr none ↦ absurd (false≢true (sym real ∙ (pageless_parts row (described_or_pageless old row (stood known k row at) none)).1))
]

-- ---- where the old list has nothing else
module _ {objects : List Object} {rows : List Row} {old : List Wanted} (known : KnownParts old rows) (only : HasOnly objects old)
    (named : (t u : ℕ) (o p : Object) → slice_get objects t ≡ Some o → slice_get objects u ≡ Some p → o.name.now ≡ p.name.now → t ≡ u) where
  named_by : (o : Object) (row : Row) → describes (wanted_of o) row ≡ true → column row 2 ≡ Text o.name.now
  named_by o row h = is_text_of (column row 2) o.name.now (described (wanted_of o) row h).name

  pub only_told_own : (real : (t : ℕ) (o : Object) (row : Row) → slice_get objects t ≡ Some o → describes (wanted_of o) row ≡ true → is_virtual (column row 1) (column row 5) ≡ false)
      → (t k : ℕ) (o : Object) (row : Row) → slice_get objects t ≡ Some o → slice_get rows k ≡ Some row → describes (wanted_of o) row ≡ true → Told old row o.shape
  only_told_own real t k o row is at h =
      let (u, w, there, i) = old_place known k row at (real t o row is h) in
      let p = only u w there (described w row i).present in
      let name : p.object.name.now ≡ o.name.now = ap bytes (sym p.name ∙ (exact_at known k row w at i).name ∙ named_by o row h) in
      let place : u ≡ t = named u t p.object o p.is is name in
      let object : p.object ≡ o = same_Some p.object o (sym p.is ∙ ap (slice_get objects) place ∙ is) in
      record { place = u; wanted = w; there = there; describes_it = i; shape_is = p.shape ∙ ap (λ (x : Object). x.shape) object }

  pub only_told_other : AreListed objects rows → (k : ℕ) (row : Row) → slice_get rows k ≡ Some row → is_own objects row ≡ false → is_virtual (column row 1) (column row 5) ≡ false → (s : Shape) → Told old row s
  only_told_other listed k row at foreign real s =
      let (u, w, there, i) = old_place known k row at real in
      let p = only u w there (described w row i).present in
      let r = any_place (λ (x : Row). describes (wanted_of p.object) x) rows (all_at (λ (o : Object). list_any (λ x. describes (wanted_of o) x) rows) objects u p.object listed p.is) in
      let place = once known r.0 k r.1 row r.2 at (named_by p.object r.1 r.3 ∙ sym p.name ∙ (exact_at known k row w at i).name) in
      let same : r.1 ≡ row = same_Some r.1 row (sym r.2 ∙ ap (slice_get rows) place ∙ at) in
      absurd (false≢true (sym foreign ∙ any_at (λ (o : Object). describes (wanted_of o) row) objects u p.object p.is (subst (λ x. describes (wanted_of p.object) x ≡ true) same r.3)))

-- ---- where it has others as their rows ask
same_text : (sql : Option (Bor (List ℕ))) → wanted_text sql ≡ text_or_null sql
same_text None = refl
same_text (Some text) = refl

taken : {X : Type 0} (n : ℕ) (xs : List X) (t : ℕ) (x : X) → slice_get (take n xs) t ≡ Some x → slice_get xs t ≡ Some x
taken zero [] t x at = absurd (none-some x at)
taken (suc n) [] t x at = absurd (none-some x at)
taken zero (y ∷ xs) t x at = absurd (none-some x at)
taken (suc n) (y ∷ xs) zero x at = at
taken (suc n) (y ∷ xs) (suc t) x at = taken n xs t x at

-- an element is among the first so many, or behind them
parted : {X : Type 0} (n : ℕ) (xs : List X) (t : ℕ) (x : X) → slice_get xs t ≡ Some x → (slice_get (take n xs) t ≡ Some x) ⊎ ((j : ℕ) × (slice_get (drop n xs) j ≡ Some x))
parted zero xs t x at = inr (t, at)
parted (suc n) [] t x at = absurd (none-some x at)
parted (suc n) (y ∷ xs) zero x at = inl at
parted (suc n) (y ∷ xs) (suc t) x at = parted n xs t x at

-- a table's tree isn't an index's
index_only : (added : Option Added) (o : Order) (s : Shape) → s ≡ tree_shape added (Some o) → (order : Order) × ((s ≡ Index order) ⊎ (s ≡ FrozenIndex order))
index_only None o s is = (o, inr is)
index_only (Some index) o s is = (index.order, inl is)

same_trees : (a b : Row) (order : Option Order) → numbered a ≡ numbered b → (foreign_tree a order).shape ≡ (foreign_tree b order).shape
same_trees a b order same = ap (λ (x : Row). foreign_shape x order) same

-- the columns of a row of a list, as those of `sqlite_schema`
abbrev entry_at : ℕ → Wanted → Row
entry_at u w = listing (0 + u) w.row w.shape w.reals

module _ (objects : List Object) {rows : List Row} {old : List Wanted} (known : KnownParts old rows) (are : listings 0 objects ≡ table_listings) (asked : ListsAsAsked (listed_from 0 old)) where
  pub asked_told_own : (t k : ℕ) (o : Object) (row : Row) → slice_get objects t ≡ Some o → slice_get rows k ≡ Some row → describes (wanted_of o) row ≡ true → Told old row o.shape
  asked_told_own t k o row is at h =
      let here = taken 9 (listed_from 0 old) t (object_row (0 + t) o) (ap (λ (rows : List Row). slice_get rows t) (asked.own ∙ sym are) ∙ listings_at 0 objects t o is) in
      let l = at_listed 0 old t (object_row (0 + t) o) here in
      let d = described (wanted_of o) row h in
      let kind : Text o.kind.now ≡ column l.wanted.row 0 = ap (λ (x : Row). column x 1) l.is in
      let name : Text o.name.now ≡ column l.wanted.row 1 = ap (λ (x : Row). column x 2) l.is in
      let owner : Text o.table.now ≡ column l.wanted.row 2 = ap (λ (x : Row). column x 3) l.is in
      let sql : text_or_null o.sql ≡ column l.wanted.row 3 = ap (λ (x : Row). column x 4) l.is in
      let code : shape_code o.shape ≡ shape_code l.wanted.shape = ap (λ (x : Row). number_in (column x 5)) l.is in
      record {
        place = l.at;
        wanted = l.wanted;
        there = l.there;
        describes_it = describes_again l.wanted row l.present
            (subst (λ v. same_value (column row 1) v ≡ true) kind d.kind) (subst (λ v. same_value (column row 2) v ≡ true) name d.name)
            (subst (λ v. same_value (column row 3) v ≡ true) owner d.owner) (subst (λ v. same_value (column row 5) v ≡ true) (same_text o.sql ∙ sql) d.sql);
        shape_is = sym (same_code o.shape l.wanted.shape code);
      }

  module _ (size : ℕ) (pages : PageMap) (layouts : ℕ → Layout) (trees : AreTrees size (slot_shape old) (slot_root (roots_in rows old)) pages layouts) (none : ¬ (IsSome (pages 0))) where
    -- the root page of a tree is behind the first
    above_first : (u k : ℕ) (w : Wanted) (row : Row) → slice_get old u ≡ Some w → slice_get rows k ≡ Some row → describes w row ≡ true → is_virtual (column row 1) (column row 5) ≡ false
        → 1 < page_number (column row 4)
    above_first u k w row there at h real = elim (cases_eq (page_number (column row 4)) 0) [
      | inl zero_page ↦ absurd (none (subst (λ n. IsSome (pages n)) zero_page (subst (λ o. IsSome o) (sym ((trees.laid (suc u)).nodes (page_number (column row 4)) live)) refl)))
      | inr some ↦ elim (cases_eq (page_number (column row 4)) 1) [
        | inl first ↦
            let own : (layouts 0).nodes 1 ≢ [] = stored_root_live (trees.kept 0).1.stored in
            absurd (trees.apart 0 (suc u) 1 (λ same. let e : 0 ≡ suc u = same in omega (arith, e)) (inl own) (inl (subst (λ n. (layouts (suc u)).nodes n ≢ []) first live)))
        | inr other ↦ omega (arith, some, other)
      ]
    ]
      where
        live : (layouts (suc u)).nodes (page_number (column row 4)) ≢ []
        live = live_old known size pages layouts trees u k w row there at h real

    -- what is listed as its row asks has the shape that its row asks now
    module _ (k u : ℕ) (row : Row) (w : Wanted) (at : slice_get rows k ≡ Some row) (there : slice_get old u ≡ Some w) (h : describes w row ≡ true) (real : is_virtual (column row 1) (column row 5) ≡ false) where
      abbrev root : ℕ
      root = page_number (column row 4)

      kept : IsKept size (layouts (suc u)) w.shape root
      kept = subst (IsKept size (layouts (suc u)) w.shape) (root_is known size pages layouts trees w k row at h) (kept_old known size pages layouts trees u w there)

      above : 1 < root
      above = above_first u k w row there at h real

      same_numbered : numbered (entry_of (entry_at u w)) ≡ numbered row
      same_numbered =
          let e = exact_at known k row w at h in
          ap (λ v. Int (pos 10) ∷ v ∷ column w.row 1 ∷ column w.row 2 ∷ column w.row 3 ∷ []) e.kind ∙ ap (λ v. Int (pos 10) ∷ column row 1 ∷ v ∷ column w.row 2 ∷ column w.row 3 ∷ []) e.name
          ∙ ap (λ v. Int (pos 10) ∷ column row 1 ∷ column row 2 ∷ v ∷ column w.row 3 ∷ []) e.owner ∙ ap (λ v. Int (pos 10) ∷ column row 1 ∷ column row 2 ∷ column row 3 ∷ v ∷ []) e.sql

      no_text : is_text_only (column row 1) ≡ false
      no_text = elim (cases_Bool (is_text_only (column row 1))) [ inr other ↦ other | inl text ↦ absurd (false≢true (sym real ∙ or_left _ _ text)) ]

      tree_in : (order : Option Order) → (foreign_tree row order).shape ≡ tree_shape (plain_index (numbered row)) order
      tree_in order = cond-false _ Pageless _ no_text

      asked_shape : IsAsAsked (listed_from 0 old) (entry_at u w) → w.shape ≡ (foreign_tree row (root_order rows pages row)).shape
      asked_shape (inl table) =
          let is : w.shape ≡ (foreign_tree row None).shape = same_code w.shape (foreign_tree (entry_of (entry_at u w)) None).shape table ∙ same_trees (entry_of (entry_at u w)) row None same_numbered in
          let frozen = is ∙ tree_in None in
          let flat = table_root size pages (layouts (suc u)) root above (trees.laid (suc u), subst (λ s. IsKept size (layouts (suc u)) s root) frozen kept) in
          is ∙ ap (λ o. (foreign_tree row o).shape) (sym (cond-false (is_index_page pages root) (Some (index_order rows row)) None flat))
      asked_shape (inr index) =
          let told = index_order (map entry_of (listed_from 0 old)) (entry_of (entry_at u w)) in
          let e = exact_at known k row w at h in
          let order = order_again known size pages layouts trees none k u row (entry_of (entry_at u w)) w at there h (record { kind = sym e.kind; name = sym e.name; owner = sym e.owner; sql = sym e.sql }) in
          let is : w.shape ≡ (foreign_tree row (Some told)).shape = same_code w.shape (foreign_tree (entry_of (entry_at u w)) (Some told)).shape index ∙ same_trees (entry_of (entry_at u w)) row (Some told) same_numbered in
          let kind = index_only (plain_index (numbered row)) told w.shape (is ∙ tree_in (Some told)) in
          let deep = index_root kind.0 size pages (layouts (suc u)) root above (trees.laid (suc u), index_kept kind.0 kind.1) in
          is ∙ ap (λ o. (foreign_tree row (Some o)).shape) (sym order) ∙ ap (λ o. (foreign_tree row o).shape) (sym (cond-true (is_index_page pages root) (Some (index_order rows row)) None deep))
        where
          index_kept : (o : Order) → (w.shape ≡ Index o) ⊎ (w.shape ≡ FrozenIndex o) → IsKept size (layouts (suc u)) (FrozenIndex o) root
          index_kept o (inl is) = let k : IsKept size (layouts (suc u)) (Index o) root = subst (λ s. IsKept size (layouts (suc u)) s root) is kept in k
          index_kept o (inr is) = subst (λ s. IsKept size (layouts (suc u)) s root) is kept

      -- a place that is an object's describes the object's row
      own_row : (t : ℕ) → slice_get (listings 0 objects) t ≡ Some (entry_at u w) → is_own objects row ≡ true
      own_row t here =
          let r = at_listings 0 objects t (entry_at u w) here in
          let d = described w row h in
          let o = r.0 in
          let kind : column w.row 0 ≡ Text o.kind.now = ap (λ (x : Row). column x 1) r.2 in
          let name : column w.row 1 ≡ Text o.name.now = ap (λ (x : Row). column x 2) r.2 in
          let owner : column w.row 2 ≡ Text o.table.now = ap (λ (x : Row). column x 3) r.2 in
          let sql : column w.row 3 ≡ text_or_null o.sql = ap (λ (x : Row). column x 4) r.2 in
          let code : shape_code w.shape ≡ shape_code o.shape = ap (λ (x : Row). number_in (column x 5)) r.2 in
          any_at (λ (o : Object). describes (wanted_of o) row) objects t o r.1
          (describes_again (wanted_of o) row (ap is_present (sym (same_code w.shape o.shape code)) ∙ d.present)
          (subst (λ v. same_value (column row 1) v ≡ true) kind d.kind) (subst (λ v. same_value (column row 2) v ≡ true) name d.name)
          (subst (λ v. same_value (column row 3) v ≡ true) owner d.owner) (subst (λ v. same_value (column row 5) v ≡ true) (sql ∙ sym (same_text o.sql)) d.sql))

    pub asked_told_other : (k : ℕ) (row : Row) → slice_get rows k ≡ Some row → is_own objects row ≡ false → is_virtual (column row 1) (column row 5) ≡ false
        → Told old row (foreign_tree row (root_order rows pages row)).shape
    asked_told_other k row at foreign real =
        let (u, w, there, h) = old_place known k row at real in
        let l = listed_at 0 old u w there (described w row h).present in
        record {
          place = u;
          wanted = w;
          there = there;
          describes_it = h;
          shape_is = elim (parted 9 (listed_from 0 old) l.0 (entry_at u w) l.1) [
            | inl first ↦ absurd (false≢true (sym foreign ∙ own_row k u row w at there h real l.0 (ap (λ (rows : List Row). slice_get rows l.0) (are ∙ sym asked.own) ∙ first)))
            | inr behind ↦ asked_shape k u row w at there h real (All-at (IsAsAsked (listed_from 0 old)) (drop 9 (listed_from 0 old)) behind.0 (entry_at u w) asked.asked behind.1)
          ];
        }
