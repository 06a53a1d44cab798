-- The order of an index that the rows of `sqlite_schema` ask is the one that the list of trees asks: each of its trees has its row, and the table of a tree is one of them.
use Rattle.std.proofs.Common.{◌≡◌, ◌∙◌, ◌+◌, ℕ, suc, Bool, true, false, ◌&&◌, ◌||◌, List, [], ◌∷◌, refl, sym, ap, ap₂, subst, inl, inr, map, codes, IsSome, find}
use Rattle.std.specs.Prelude.{Option, Some, None, slice_get, option_map, unwrap_or}
use Rattle.std.specs.List.{list_any}
use Rattle.std.proofs.lemmas.Option.{same_Some}
use Rattle.std.proofs.lemmas.Bool.{cases_Bool, and_parts, not-true, false≢true, cond-true, cond-false, or_left, or_cases}
use Rattle.sqlite_value.specs.declared.value.Value.{Value}
use Rattle.sqlite_value.specs.declared.value.Value.TheVariants.{Null, Int, Real, Text, Blob}
use Rattle.sqlite_value.specs.Keys.{plain}
use Rattle.sqlite_value.specs.Order.{Row, column, bytes}
use Rattle.sqlite_trees.specs.Sound.{is_virtual, is_word, same_name}
use Rattle.sqlite_trees.specs.Objects.{listing}
use Rattle.sqlite_pages.specs.PageMap.{PageMap}
use Rattle.sqlite_btree.specs.Chain.{Layout}
use Rattle.sqlite_store.specs.declared.catalog.Wanted.{Wanted}
use Rattle.sqlite_store.specs.Catalog.{is_present, describes, is_near, is_well_formed, may_stand, has_no_pages, roots_in}
use Rattle.sqlite_store.specs.Db.{IsKept, AreTrees, slot_shape, slot_root}
use Rattle.sqlite_store.specs.Listing.{listed_from}
use Rattle.osm_index_orders.specs.Orders.{is_table_named, text_of_table, order_in, index_order}
use Rattle.osm_openings.specs.Asked.{entry_of}
use Rattle.osm_openings.proofs.PlaceLemmas.{any_at, any_place, mapped_at, at_mapped}
use Rattle.osm_openings.proofs.ListedLemmas.{listed_at, at_listed, names_turned, names_through, alike_once, described}
use Rattle.osm_openings.proofs.ExactLemmas.{own_table, no_text}
use Rattle.osm_openings.proofs.KnownLemmas.{KnownParts, virtual_shape, live_root, no_root, stood, formed, exact_at, fit_at, kept_old}

-- ---- the first that passes
found_first : {X : Type 0} (p : X → Bool) (xs : List X) → list_any p xs ≡ true → (k : ℕ) × (x : X) × (slice_get xs k ≡ Some x) × (p x ≡ true) × (find p xs ≡ Some x)
found_first p [] some = absurd (cc)
found_first p (y ∷ xs) some = elim (cases_Bool (p y)) [
  | inl passes ↦ (0, y, refl, passes, cond-true (p y) (Some y) (find p xs) passes)
  | inr out ↦
      let later : list_any p xs ≡ true = elim (or_cases (p y) (list_any p xs) some) [ inl here ↦ absurd (false≢true (sym out ∙ here)) | inr later ↦ later ] in
      let f = found_first p xs later in (suc f.0, f.1, f.2, f.3, cond-false (p y) (Some y) (find p xs) out ∙ f.4)
]

found_none : {X : Type 0} (p : X → Bool) (xs : List X) → list_any p xs ≡ false → find p xs ≡ None
found_none p [] none = refl
found_none p (y ∷ xs) none = elim (cases_Bool (p y)) [
  | inl passes ↦ absurd (false≢true (sym none ∙ or_left _ _ passes))
  | inr out ↦ cond-false (p y) (Some y) (find p xs) out ∙ found_none p xs (later (p y) (list_any p xs) none)
]
  where
    later : (a b : Bool) → (a || b) ≡ false → b ≡ false
    later true b h = absurd (cc)
    later false b h = h

-- ---- what an order reads of a row
pub record Alike (a b : Row) : Type 0 where
  pub kind : column a 1 ≡ column b 1
  pub name : column a 2 ≡ column b 2
  pub owner : column a 3 ≡ column b 3
  pub sql : column a 5 ≡ column b 5

abbrev read_of : Value → Value → Value → Row
read_of kind name sql = Null ∷ kind ∷ name ∷ Null ∷ Null ∷ sql ∷ []

order_read : (v : Option Value) (row : Row) → order_in v row ≡ order_in v (read_of (column row 1) (column row 2) (column row 5))
order_read None row = refl
order_read (Some Null) row = refl
order_read (Some (Int n)) row = refl
order_read (Some (Real x)) row = refl
order_read (Some (Text t)) row = refl
order_read (Some (Blob b)) row = refl

order_alike : (v : Option Value) (a b : Row) → Alike a b → order_in v a ≡ order_in v b
order_alike v a b same =
    order_read v a
    ∙ ap (λ k. order_in v (read_of k (column a 2) (column a 5))) same.kind ∙ ap (λ n. order_in v (read_of (column b 1) n (column a 5))) same.name ∙ ap (λ s. order_in v (read_of (column b 1) (column b 2) s)) same.sql
    ∙ sym (order_read v b)

stands_far : (schema : List Wanted) (row : Row) → may_stand schema row ≡ true → list_any (λ w. describes w row) schema ≡ false → list_any (λ w. is_near w row) schema ≡ false
unfolding may_stand
stands_far schema row h undescribed =
    let rest = (and_parts (is_well_formed row) _ h).1 in
    not-true _ (and_parts (has_no_pages row) _ (sym (cond-false _ true _ undescribed) ∙ rest)).1

same_found : (p : Row → Bool) (rows others : List Row) (x y z : Row) → find p rows ≡ Some x → x ≡ y → column y 5 ≡ column z 5 → find p others ≡ Some z
    → option_map (λ (found : Row). column found 5) (find p rows) ≡ option_map (λ (found : Row). column found 5) (find p others)
same_found p rows others x y z first same text second =
    ap (option_map (λ (found : Row). column found 5)) first ∙ ap (λ (r : Row). Some (column r 5)) same ∙ ap Some text ∙ sym (ap (option_map (λ (found : Row). column found 5)) second)

abbrev named : List ℕ → Value → Value → Bool
named name kind called = is_word (codes "table") kind && same_name (bytes called) name

module _ {rows : List Row} {old : List Wanted} (known : KnownParts old rows) (size : ℕ) (pages : PageMap) (layouts : ℕ → Layout)
    (trees : AreTrees size (slot_shape old) (slot_root (roots_in rows old)) pages layouts) (none : ¬ (IsSome (pages 0))) where
  abbrev entries : List Row
  entries = map entry_of (listed_from 0 old)

  abbrev entry_at : ℕ → Wanted → Row
  entry_at u w = entry_of (listing (0 + u) w.row w.shape w.reals)

  -- a tree has a row
  pub row_of_tree : (u : ℕ) (w : Wanted) → slice_get old u ≡ Some w → is_present w.shape ≡ true → is_virtual (column w.row 0) (column w.row 3) ≡ false
      → (k : ℕ) × (row : Row) × (slice_get rows k ≡ Some row) × (describes w row ≡ true)
  row_of_tree u w there present real = elim (cases_Bool (list_any (λ row. describes w row) rows)) [
    | inl some ↦ any_place (λ (row : Row). describes w row) rows some
    | inr unlisted ↦
        let root = live_root w.shape (column w.row 0) (column w.row 3) present (fit_at known u w there) real size 0 (layouts (suc u))
        (subst (IsKept size (layouts (suc u)) w.shape) (no_root w rows unlisted) (kept_old known size pages layouts trees u w there)) in
        absurd (none (subst (λ o. IsSome o) (sym ((trees.laid (suc u)).nodes 0 root)) refl))
  ]

  table_real : (u : ℕ) (w : Wanted) → slice_get old u ≡ Some w → is_present w.shape ≡ true → is_word (codes "table") (column w.row 0) ≡ true → is_virtual (column w.row 0) (column w.row 3) ≡ false
  table_real u w there present table = elim (cases_Bool (is_virtual (column w.row 0) (column w.row 3))) [
    | inr real ↦ real
    | inl virtual ↦ absurd (false≢true (sym (no_text (column w.row 0) table) ∙ (virtual_shape w.shape (column w.row 0) (column w.row 3) present (fit_at known u w there) virtual).1))
  ]

  -- the table of a row that has a place has one
  table_place : (k j u : ℕ) (row x : Row) (w : Wanted) → slice_get rows k ≡ Some row → slice_get old u ≡ Some w → describes w row ≡ true → slice_get rows j ≡ Some x
      → is_table_named (bytes (column row 3)) x ≡ true → (v : ℕ) × (y : Wanted) × (slice_get old v ≡ Some y) × (describes y x ≡ true)
  table_place k j u row x w at there h is named_so = elim (cases_Bool (list_any (λ y. describes y x) old)) [
    | inl some ↦ any_place (λ (y : Wanted). describes y x) old some
    | inr unlisted ↦
        let two = and_parts (is_word (codes "table") (column x 1)) (same_name (bytes (column x 2)) (bytes (column row 3))) named_so in
        let near = ap₂ (λ a b. same_name (bytes a) (bytes b)) (own_table x (formed known j x is) two.0) (exact_at known k row w at h).owner ∙ two.1 in
        absurd (false≢true (sym (stands_far old x (stood known j x is) unlisted) ∙ any_at (λ (y : Wanted). is_near y x) old u w there near))
  ]

  -- one table has a name
  one_table : (name : List ℕ) (k j : ℕ) (a b : Row) → slice_get rows k ≡ Some a → slice_get rows j ≡ Some b → is_table_named name a ≡ true → is_table_named name b ≡ true → a ≡ b
  one_table name k j a b at there first second =
      let called : same_name (bytes (column a 2)) name ≡ true = (and_parts (is_word (codes "table") (column a 1)) _ first).1 in
      let also : same_name (bytes (column b 2)) name ≡ true = (and_parts (is_word (codes "table") (column b 1)) _ second).1 in
      let one = alike_once [] rows k j a b known.ordered at there (names_through (bytes (column a 2)) name (bytes (column b 2)) called (names_turned (bytes (column b 2)) name also)) in
      same_Some a b (sym at ∙ ap (slice_get rows) one ∙ there)

  -- the table that is found among the list has a row
  entry_row : (name : List ℕ) (i : ℕ) (z : Row) → slice_get entries i ≡ Some z → is_table_named name z ≡ true
      → (k : ℕ) × (x : Row) × (slice_get rows k ≡ Some x) × (is_table_named name x ≡ true) × (column x 5 ≡ column z 5)
  entry_row name i z at named_so =
      let m = at_mapped entry_of (listed_from 0 old) i z at in
      let l = at_listed 0 old i m.0 m.1 in
      let is : entry_at l.at l.wanted ≡ z = ap entry_of (sym l.is) ∙ m.2 in
      let here : named name (column l.wanted.row 0) (column l.wanted.row 1) ≡ true = ap (is_table_named name) is ∙ named_so in
      let table = (and_parts (is_word (codes "table") (column l.wanted.row 0)) _ here).0 in
      let r = row_of_tree l.at l.wanted l.there l.present (table_real l.at l.wanted l.there l.present table) in
      let e = exact_at known r.0 r.1 l.wanted r.2 r.3 in
      (r.0, r.1, r.2, ap₂ (named name) (sym e.kind) (sym e.name) ∙ here, sym e.sql ∙ ap (λ (x : Row). column x 5) is)

  abbrev table_of : Row → Row → Bool
  table_of row = is_table_named (bytes (column row 3))

  pub text_again : (k u : ℕ) (row : Row) (w : Wanted) → slice_get rows k ≡ Some row → slice_get old u ≡ Some w → describes w row ≡ true → text_of_table rows row ≡ text_of_table entries row
  text_again k u row w at there h = elim (cases_Bool (list_any (table_of row) rows)) [
    | inl some ↦
        let f = found_first (table_of row) rows some in
        let v = table_place k f.0 u row f.1 w at there h f.2 f.3 in
        let e = exact_at known f.0 f.1 v.1 f.2 v.3 in
        let l = listed_at 0 old v.0 v.1 v.2 (described v.1 f.1 v.3).present in
        let again : named (bytes (column row 3)) (column v.1.row 0) (column v.1.row 1) ≡ true = ap₂ (named (bytes (column row 3))) e.kind e.name ∙ f.3 in
        let g = found_first (table_of row) entries (any_at (table_of row) entries l.0 (entry_at v.0 v.1) (mapped_at entry_of (listed_from 0 old) l.0 (listing (0 + v.0) v.1.row v.1.shape v.1.reals) l.1) again) in
        let r = entry_row (bytes (column row 3)) g.0 g.1 g.2 g.3 in
        same_found (table_of row) rows entries f.1 r.1 g.1 f.4 (one_table (bytes (column row 3)) f.0 r.0 f.1 r.1 f.2 r.2 f.3 r.3) r.4 g.4
    | inr absent ↦ elim (cases_Bool (list_any (table_of row) entries)) [
      | inr too ↦ ap (option_map (λ (x : Row). column x 5)) (found_none (table_of row) rows absent) ∙ sym (ap (option_map (λ (x : Row). column x 5)) (found_none (table_of row) entries too))
      | inl some ↦
          let g = found_first (table_of row) entries some in
          let r = entry_row (bytes (column row 3)) g.0 g.1 g.2 g.3 in
          absurd (false≢true (sym absent ∙ any_at (table_of row) rows r.0 r.1 r.2 r.3))
    ]
  ]

  -- what the rows ask of a row is what the list asks of its entry
  pub order_again : (k u : ℕ) (row entry : Row) (w : Wanted) → slice_get rows k ≡ Some row → slice_get old u ≡ Some w → describes w row ≡ true → Alike row entry
      → index_order rows row ≡ index_order entries entry
  order_again k u row entry w at there h same =
      ap (λ o. unwrap_or o plain)
      (order_alike (text_of_table rows row) row entry same
      ∙ ap (λ v. order_in v entry) (text_again k u row w at there h ∙ ap (λ v. option_map (λ (found : Row). column found 5) (find (is_table_named (bytes v)) entries)) same.owner))
