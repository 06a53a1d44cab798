-- A file of one schema is a file of the list of trees that is made of what its `sqlite_schema` says: each tree keeps its pages, at the place that it has in the new list.
use Rattle.std.proofs.Common.{◌≡◌, ◌≢◌, ◌∙◌, ℕ, zero, suc, true, false, List, refl, sym, ap, ap₂, subst, subst₂, inl, inr, arith, IsSome}
use Rattle.std.specs.Prelude.{Option, Some, slice_get, slice_index}
use Rattle.std.specs.List.{list_any}
use Rattle.std.proofs.lemmas.Option.{none-some, same_Some}
use Rattle.std.proofs.lemmas.Bool.{cases_Bool, cases_eq, false≢true, or_left}
use Rattle.sqlite_value.specs.declared.keys.Order.{Order}
use Rattle.sqlite_value.specs.Order.{Row, column}
use Rattle.sqlite_trees.specs.declared.store.Shape.{Shape}
use Rattle.sqlite_trees.specs.declared.store.Shape.TheVariants.{Absent, Pageless}
use Rattle.sqlite_trees.specs.declared.schema.Object.{Object}
use Rattle.sqlite_trees.specs.Sound.{is_text_only, is_virtual}
use Rattle.sqlite_pages.specs.PageMap.{PageMap}
use Rattle.sqlite_pool.specs.File.{in_use}
use Rattle.sqlite_btree.specs.Chain.{Layout}
use Rattle.sqlite_btree.specs.Stored.{Owns, IsLaidIn, no_layout}
use Rattle.sqlite_store.specs.declared.catalog.Wanted.{Wanted}
use Rattle.sqlite_store.specs.Catalog.{describes, page_number, root_in, roots_in, shape_at}
use Rattle.sqlite_store.specs.Db.{roots_of, IsKept, AreTrees, IsFile, slot_shape, slot_root}
use Rattle.osm_openings.specs.Presumed.{root_order, trees_in, schema_rows}
use Rattle.osm_openings.proofs.PlaceLemmas.{any_place, index_at, index_past, cases_get}
use Rattle.osm_openings.proofs.KnownLemmas.{none_at_zero, no_root, live_root, owner_real, one_row, exact_at, fit_at, old_text, text_page, root_is, kept_old, one_old}
use Rattle.osm_restarts.proofs.SchemaLemmas.{Relisting, Told, NewRow, new, new_row, place_of, one_place, known_again}

none_owned : (n : ℕ) → ¬ (Owns no_layout n)
none_owned n (inl some) = some refl
none_owned n (inr some) = some refl

none_laid : (pages : PageMap) → IsLaidIn no_layout pages
none_laid pages = record { nodes = λ n some. absurd (some refl); spill = λ n some. absurd (some refl) }

module _ {kinds : Row → Option Order} {objects : List Object} {rows : List Row} {old : List Wanted} (given : Relisting kinds objects rows old) (size : ℕ) (pages : PageMap) (layouts : ℕ → Layout)
    (trees : AreTrees size (slot_shape old) (slot_root (roots_in rows old)) pages layouts) (none : ¬ (IsSome (pages 0))) where
  -- a new place and an old one of the same row
  record Both (t u : ℕ) : Type 0 where
    fresh : Wanted
    was : Wanted
    at : ℕ
    row : Row
    listed : slice_get (new given) t ≡ Some fresh
    there : slice_get old u ≡ Some was
    is : slice_get rows at ≡ Some row
    describes_it : describes fresh row ≡ true
    described_it : describes was row ≡ true
    virtual : is_virtual (column row 1) (column row 5) ≡ false

  record From (t n : ℕ) : Type 0 where
    place : ℕ
    owns : Owns (layouts (suc place)) n
    both : Both t place

  -- the pages of a tree, at its new place
  record Moved (t : ℕ) : Type 0 where
    layout : Layout
    laid : IsLaidIn layout pages
    kept : IsKept size layout (shape_at (new given) t) (slice_index (roots_in rows (new given)) t)
    from : (n : ℕ) → Owns layout n → From t n
    all : (u n : ℕ) → Owns (layouts (suc u)) n → Both t u → Owns layout n

  -- the row of a text alone has no page
  no_page : (k : ℕ) (row : Row) → slice_get rows k ≡ Some row → is_text_only (column row 1) ≡ true → page_number (column row 4) ≡ 0
  no_page k row at text = elim (cases_Bool (list_any (λ w. describes w row) old)) [
    | inr unlisted ↦ text_page given.known k row at unlisted
    | inl some ↦
        let (u, w, there, h) = any_place (λ (w : Wanted). describes w row) old some in
        let shape = (old_text given.known k u row w at there h (or_left _ _ text)).0 in
        let kept : ((n : ℕ) → ¬ (Owns (layouts (suc u)) n)) × (root_in rows w ≡ 0) = subst (λ s. IsKept size (layouts (suc u)) s (root_in rows w)) shape (kept_old given.known size pages layouts trees u w there) in
        sym (root_is given.known size pages layouts trees w k row at h) ∙ kept.1
  ]

  kept_at : (t : ℕ) (w : Wanted) (layout : Layout) (s : Shape) (root : ℕ) → slice_get (new given) t ≡ Some w → s ≡ w.shape → root ≡ root_in rows w → IsKept size layout s root
      → IsKept size layout (shape_at (new given) t) (slice_index (roots_in rows (new given)) t)
  kept_at t w layout s root here shape same kept =
      subst₂ (IsKept size layout) (shape ∙ sym (index_at (λ (w : Wanted). w.shape) (new given) t w Absent here)) (same ∙ sym (index_at (root_in rows) (new given) t w 0 here)) kept

  moved_tree : (t : ℕ) (w : Wanted) → slice_get (new given) t ≡ Some w → (r : NewRow given w) → is_virtual (column r.row 1) (column r.row 5) ≡ false → Told old r.row w.shape → Moved t
  moved_tree t w here r virtual told = record {
    layout = layouts (suc told.place);
    laid = trees.laid (suc told.place);
    kept = kept_at t w (layouts (suc told.place)) told.wanted.shape (root_in rows told.wanted) here told.shape_is
        (root_is given.known size pages layouts trees told.wanted r.at r.row r.there told.describes_it ∙ sym (root_is given.known size pages layouts trees w r.at r.row r.there r.describes_it)) (kept_old given.known size pages layouts trees told.place told.wanted told.there);
    from = λ n owns. record {
      place = told.place;
      owns = owns;
      both = record { fresh = w; was = told.wanted; at = r.at; row = r.row; listed = here; there = told.there; is = r.there; describes_it = r.describes_it; described_it = told.describes_it; virtual = virtual };
    };
    all = λ u n owns b.
        let same : b.fresh ≡ w = same_Some b.fresh w (sym b.listed ∙ here) in
        let place = one_row given.known w b.at r.at b.row r.row b.is r.there (subst (λ (v : Wanted). describes v b.row ≡ true) same b.describes_it) r.describes_it in
        let row : b.row ≡ r.row = same_Some b.row r.row (sym b.is ∙ ap (slice_get rows) place ∙ r.there) in
        let one = one_old given.known size pages layouts trees u told.place r.at b.was told.wanted r.row b.there told.there r.there (subst (λ (x : Row). describes b.was x ≡ true) row b.described_it) told.describes_it virtual in
        subst (λ v. Owns (layouts (suc v)) n) one owns;
  }

  moved_text : (t : ℕ) (w : Wanted) → slice_get (new given) t ≡ Some w → (r : NewRow given w) → w.shape ≡ Pageless → is_text_only (column r.row 1) ≡ true → Moved t
  moved_text t w here r shape text = record {
    layout = no_layout;
    laid = none_laid pages;
    kept = kept_at t w no_layout Pageless 0 here (sym shape) (sym (root_is given.known size pages layouts trees w r.at r.row r.there r.describes_it ∙ no_page r.at r.row r.there text)) (none_owned, refl);
    from = λ n owns. absurd (none_owned n owns);
    all = λ u n owns b.
        let same : b.fresh ≡ w = same_Some b.fresh w (sym b.listed ∙ here) in
        let place = one_row given.known w b.at r.at b.row r.row b.is r.there (subst (λ (v : Wanted). describes v b.row ≡ true) same b.describes_it) r.describes_it in
        let row : b.row ≡ r.row = same_Some b.row r.row (sym b.is ∙ ap (slice_get rows) place ∙ r.there) in
        absurd (false≢true (sym b.virtual ∙ ap (λ (x : Row). is_virtual (column x 1) (column x 5)) row ∙ or_left _ _ text));
  }

  moved : (t : ℕ) → Moved t
  moved t = elim (cases_get (slice_get (new given) t)) [
    | inl past ↦ record {
      layout = no_layout;
      laid = none_laid pages;
      kept = subst (λ s. IsKept size no_layout s (slice_index (roots_in rows (new given)) t)) (sym (index_past (λ (w : Wanted). w.shape) (new given) t Absent past)) none_owned;
      from = λ n owns. absurd (none_owned n owns);
      all = λ u n owns b. absurd (none-some b.fresh (sym past ∙ b.listed));
    }
    | inr here ↦ let r = new_row given t here.0 here.1 in elim r.kind [ inl text ↦ moved_text t here.0 here.1 r text.0 text.1 | inr tree ↦ moved_tree t here.0 here.1 r tree.0 tree.1 ]
  ]

  abbrev new_layouts : ℕ → Layout
  new_layouts zero = layouts 0
  new_layouts (suc t) = (moved t).layout

  -- a page has one new owner
  one_owner : (t u n : ℕ) → From t n → From u n → t ≡ u
  one_owner t u n f g = elim (cases_eq (suc f.place) (suc g.place)) [
    | inr apart ↦ absurd (trees.apart (suc f.place) (suc g.place) n apart f.owns g.owns)
    | inl same ↦
        let places : f.place ≡ g.place = omega (arith, same) in
        let one : f.both.was ≡ g.both.was = same_Some f.both.was g.both.was (sym f.both.there ∙ ap (slice_get old) places ∙ g.both.there) in
        let h : describes g.both.was f.both.row ≡ true = subst (λ (w : Wanted). describes w f.both.row ≡ true) one f.both.described_it in
        let at = one_row given.known g.both.was f.both.at g.both.at f.both.row g.both.row f.both.is g.both.is h g.both.described_it in
        let row : g.both.row ≡ f.both.row = same_Some g.both.row f.both.row (sym g.both.is ∙ ap (slice_get rows) (sym at) ∙ f.both.is) in
        one_place given t u f.both.at f.both.fresh g.both.fresh f.both.row f.both.listed g.both.listed f.both.is f.both.describes_it (subst (λ (x : Row). describes g.both.fresh x ≡ true) row g.both.describes_it)
  ]

  -- each owner has a new place
  new_owner : (u n : ℕ) → Owns (layouts (suc u)) n → (t : ℕ) × Both t u
  new_owner u n owns = elim (cases_get (slice_get old u)) [
    | inl past ↦
        let kept : (m : ℕ) → ¬ (Owns (layouts (suc u)) m) = subst (λ s. IsKept size (layouts (suc u)) s (slice_index (roots_in rows old) u)) (index_past (λ (w : Wanted). w.shape) old u Absent past) (trees.kept (suc u)) in
        absurd (kept n owns)
    | inr here ↦
        let w = here.0 in
        let kept = kept_old given.known size pages layouts trees u w here.1 in
        let fits = fit_at given.known u w here.1 in
        let has = owner_real w.shape (column w.row 0) (column w.row 3) fits size (root_in rows w) n (layouts (suc u)) kept owns in
        elim (cases_Bool (list_any (λ row. describes w row) rows)) [
          | inr none_here ↦
              let root = live_root w.shape (column w.row 0) (column w.row 3) has.0 fits has.1 size 0 (layouts (suc u)) (subst (IsKept size (layouts (suc u)) w.shape) (no_root w rows none_here) kept) in
              absurd (none (subst (λ o. IsSome o) (sym ((trees.laid (suc u)).nodes 0 root)) refl))
          | inl some ↦
              let (k, row, at, h) = any_place (λ (row : Row). describes w row) rows some in
              let e = exact_at given.known k row w at h in
              let virtual : is_virtual (column row 1) (column row 5) ≡ false = sym (ap₂ is_virtual e.kind e.sql) ∙ has.1 in
              let p = place_of given k row at virtual in
              (p.place, record { fresh = p.wanted; was = w; at = k; row = row; listed = p.there; there = here.1; is = at; describes_it = p.is; described_it = h; virtual = virtual })
        ]
  ]

  pub trees_again : (layouts : ℕ → Layout) × AreTrees size (slot_shape (new given)) (slot_root (roots_in rows (new given))) pages layouts
  trees_again = (new_layouts, record { laid = laid; kept = kept; apart = apart; covered = λ n some. covered n (trees.covered n some) })
    where
      laid : (slot : ℕ) → IsLaidIn (new_layouts slot) pages
      laid zero = trees.laid 0
      laid (suc t) = (moved t).laid

      kept : (slot : ℕ) → IsKept size (new_layouts slot) (slot_shape (new given) slot) (slot_root (roots_in rows (new given)) slot)
      kept zero = trees.kept 0
      kept (suc t) = (moved t).kept

      apart : (slot other n : ℕ) → slot ≢ other → Owns (new_layouts slot) n → ¬ (Owns (new_layouts other) n)
      apart zero zero n differ own also = differ refl
      apart zero (suc u) n differ own also = let f = (moved u).from n also in trees.apart 0 (suc f.place) n (λ same. let e : 0 ≡ suc f.place = same in omega (arith, e)) own f.owns
      apart (suc t) zero n differ own also = let f = (moved t).from n own in trees.apart (suc f.place) 0 n (λ same. let e : suc f.place ≡ 0 = same in omega (arith, e)) f.owns also
      apart (suc t) (suc u) n differ own also = differ (ap suc (one_owner t u n ((moved t).from n own) ((moved u).from n also)))

      covered : (n : ℕ) → (slot : ℕ) × Owns (layouts slot) n → (slot : ℕ) × Owns (new_layouts slot) n
      covered n (zero, owns) = (0, owns)
      covered n (suc u, owns) = let o = new_owner u n owns in (suc o.0, (moved o.0).all u n owns o.1)

-- the pages are a file of the new list
pub relisted : (objects : List Object) (size : ℕ) (pages : PageMap) (old : List Wanted) → Relisting (root_order (schema_rows size pages) (in_use size pages)) objects (schema_rows size pages) old → IsFile size old pages
    → IsFile size (trees_in objects size pages) pages
unfolding roots_of
relisted objects size pages old given file =
    let again = trees_again given size (in_use size pages) file.db.layouts file.db.trees (none_at_zero size pages file.sound) in
    record { whole = file.whole; sound = file.sound; db = record { layouts = again.0; trees = again.1; known = known_again given } }
