-- Which row of sqlite_schema a tree with pages has.
use Rattle.std.proofs.Common.{◌≡◌, ◌≢◌, ℕ, suc, true, not, ◌&&◌, List, [], ◌∷◌, ◌++◌, map, get_or, refl, sym, ap, ◌∙◌, inl, inr, arith, is_eq, Ordering, Less, Equal, Greater}
use Rattle.std.specs.Prelude.{slice_get, Some, None}
use Rattle.std.specs.List.{list_any}
use Rattle.std.proofs.lemmas.Bool.{cases_Bool, and_parts}
use Rattle.std.proofs.lemmas.Option.{none-some}
use Rattle.std.specs.Char.{to_ascii_lowercase}
use Rattle.std.proofs.lemmas.Map.Lookups.{exact_bytes}
use Rattle.std.proofs.lemmas.Slice.Eq.{bytes_eq-Decides}
use Rattle.sqlite_value.specs.declared.value.Value.{Value}
use Rattle.sqlite_value.specs.declared.value.Value.TheVariants.{Null, Int, Real, Text, Blob}
use Rattle.sqlite_value.specs.Order.{Row, column, bytes}
use Rattle.sqlite_value.proofs.OrderLemmas.{value_cmp-apart, value_cmp-Text}
use Rattle.sqlite_trees.specs.declared.store.Shape.{Shape}
use Rattle.sqlite_trees.specs.declared.store.Shape.TheVariants.{Absent, Table, Index, Pageless, FrozenTable, FrozenIndex}
use Rattle.sqlite_trees.specs.Sound.{Head, head_at, same_name, may_follow, are_in_order}
use Rattle.sqlite_rules.specs.Lists.{Has}
use Rattle.sqlite_rules.proofs.ListLemmas.{some_from, has_right, has_left}
use Rattle.sqlite_btree.specs.Chain.{Layout}
use Rattle.sqlite_btree.specs.Stored.{IsLaidIn}
use Rattle.sqlite_btree.proofs.StoredLemmas.{stored_root_live}
use Rattle.sqlite_pages.specs.PageMap.{PageMap}
use Rattle.sqlite_store.specs.declared.catalog.Wanted.{Wanted}
use Rattle.sqlite_store.specs.Catalog.{same_value, is_present, is_about, describes, page_number, root_in, is_plain, shape_at}
use Rattle.sqlite_store.specs.Db.{rows_at, roots_of, IsKept, IsDb}
use Rattle.osm_restarts.proofs.Places.{shape_there, root_there}

pub equal_is : (o : Ordering) → is_eq o ≡ true → o ≡ Equal
equal_is Less h = absurd (cc)
equal_is Equal h = refl
equal_is Greater h = absurd (cc)

-- a text or NULL
abbrev pub IsWords : Value → Type 0
IsWords Null = Unit {0}
IsWords (Int n) = ⊥
IsWords (Real x) = ⊥
IsWords (Text t) = Unit {0}
IsWords (Blob b) = ⊥

pub same_words : (a b : Value) → IsWords b → same_value a b ≡ true → a ≡ b
same_words Null Null words same = refl
same_words (Int n) Null words same = absurd (let o = value_cmp-apart (Int n) Null (λ e. omega arith) in let p = rw o at same in cc)
same_words (Real x) Null words same = absurd (let o = value_cmp-apart (Real x) Null (λ e. omega arith) in let p = rw o at same in cc)
same_words (Text s) Null words same = absurd (let o = value_cmp-apart (Text s) Null (λ e. omega arith) in let p = rw o at same in cc)
same_words (Blob s) Null words same = absurd (let o = value_cmp-apart (Blob s) Null (λ e. omega arith) in let p = rw o at same in cc)
same_words Null (Text t) words same = absurd (let o = value_cmp-apart Null (Text t) (λ e. omega arith) in let p = rw o at same in cc)
same_words (Int n) (Text t) words same = absurd (let o = value_cmp-apart (Int n) (Text t) (λ e. omega arith) in let p = rw o at same in cc)
same_words (Real x) (Text t) words same = absurd (let o = value_cmp-apart (Real x) (Text t) (λ e. omega arith) in let p = rw o at same in cc)
same_words (Text s) (Text t) words same = ap Text (exact_bytes s t (sym (value_cmp-Text s t) ∙ equal_is _ same))
same_words (Blob s) (Text t) words same = absurd (let o = value_cmp-apart (Blob s) (Text t) (λ e. omega arith) in let p = rw o at same in cc)
same_words a (Int n) words same = absurd words
same_words a (Real x) words same = absurd words
same_words a (Blob s) words same = absurd words

-- the entry has the name of the tree and its text, as values compare
pub entry_parts : (w : Wanted) (e : Row) → describes w e ≡ true → (same_value (column e 2) (column w.row 1) ≡ true) × (same_value (column e 5) (column w.row 3) ≡ true)
unfolding describes
entry_parts w e is =
    let all = and_parts (is_present w.shape && same_value (column e 1) (column w.row 0) && same_value (column e 2) (column w.row 1) && is_about w e) _ is in
    let front = and_parts (is_present w.shape && same_value (column e 1) (column w.row 0) && same_value (column e 2) (column w.row 1)) _ all.0 in
    ((and_parts (is_present w.shape && same_value (column e 1) (column w.row 0)) _ front.0).1, all.1)

found_root : (entries : List Row) (w : Wanted) → root_in entries w ≢ 0 → (e : Row) × Has entries e × (describes w e ≡ true) × (page_number (column e 4) ≢ 0)
found_root [] w some = absurd (some refl)
found_root (e ∷ entries) w some = elim (cases_Bool (describes w e)) [
  | inl here ↦ (e, inl refl, here, λ none. some (rw here none))
  | inr other ↦ let r = found_root entries w (λ none. some (rw (other, none))) in (r.0, inr r.1, r.2, r.3)
]

same_itself : (name : List ℕ) → same_name name name ≡ true
unfolding same_name
same_itself name = (bytes_eq-Decides (map to_ascii_lowercase name) (map to_ascii_lowercase name)).1 refl

-- a later row has no name of an earlier one
later_name : (earlier : List Head) (rows : List Row) (h : Head) (f : Row) → are_in_order earlier (map (head_at 1) rows) ≡ true → Has earlier h → Has rows f
    → same_name (bytes h.1) (bytes (column f 2)) ≡ true → ⊥
unfolding may_follow
later_name earlier [] h f up old here same = here
later_name earlier (r ∷ rows) h f up old (inl is) same =
    let first = and_parts (may_follow earlier (head_at 1 r)) _ up in
    let fresh = and_parts (not (list_any (λ (e : Head). same_name (bytes e.1) (bytes (column r 2))) earlier)) _ first.0 in
    let again = some_from (λ (e : Head). same_name (bytes e.1) (bytes (column r 2))) earlier h old (ap (λ (x : Row). same_name (bytes h.1) (bytes (column x 2))) (sym is) ∙ same) in
    let wrong = rw again at fresh.0 in cc
later_name earlier (r ∷ rows) h f up old (inr later) same =
    later_name (earlier ++ head_at 1 r ∷ []) rows h f (and_parts (may_follow earlier (head_at 1 r)) _ up).1 (has_left earlier (head_at 1 r ∷ []) h old) later same

-- rows in order that have one name are one row
pub one_named : (earlier : List Head) (rows : List Row) (e f : Row) → are_in_order earlier (map (head_at 1) rows) ≡ true → Has rows e → Has rows f → column e 2 ≡ column f 2 → e ≡ f
one_named earlier [] e f up here there same = absurd here
one_named earlier (r ∷ rows) e f up (inl is) (inl too) same = is ∙ sym too
one_named earlier (r ∷ rows) e f up (inl is) (inr later) same =
    absurd (later_name _ rows (head_at 1 r) f (and_parts (may_follow earlier (head_at 1 r)) _ up).1 (has_right earlier (head_at 1 r ∷ []) _ (inl refl)) later
    (ap (λ (v : Value). same_name (bytes v) (bytes (column f 2))) (ap (λ (x : Row). column x 2) (sym is) ∙ same) ∙ same_itself (bytes (column f 2))))
one_named earlier (r ∷ rows) e f up (inr later) (inl is) same =
    absurd (later_name _ rows (head_at 1 r) e (and_parts (may_follow earlier (head_at 1 r)) _ up).1 (has_right earlier (head_at 1 r ∷ []) _ (inl refl)) later
    (ap (λ (v : Value). same_name (bytes v) (bytes (column e 2))) (ap (λ (x : Row). column x 2) (sym is) ∙ sym same) ∙ same_itself (bytes (column e 2))))
one_named earlier (r ∷ rows) e f up (inr later) (inr too) same = one_named _ rows e f (and_parts (may_follow earlier (head_at 1 r)) _ up).1 later too same

module _ {size : ℕ} {schema : List Wanted} {pages : PageMap} (none : pages 0 ≡ None) (db : IsDb size schema pages) where
  live_root : (layout : Layout) (shape : Shape) (root : ℕ) → is_plain shape ≡ true → IsLaidIn layout pages → IsKept size layout shape root → root ≢ 0
  live_root layout Absent root plain laid kept = absurd (cc)
  live_root layout Pageless root plain laid kept = absurd (cc)
  live_root layout FrozenTable root plain laid kept = absurd (cc)
  live_root layout (FrozenIndex o) root plain laid kept = absurd (cc)
  live_root layout Table root plain laid kept = λ zero. none-some _ (sym none ∙ ap pages (sym zero) ∙ laid.nodes root (stored_root_live kept.1.stored))
  live_root layout (Index o) root plain laid kept = λ zero. none-some _ (sym none ∙ ap pages (sym zero) ∙ laid.nodes root (stored_root_live kept.1.stored))

  pub has_entry : (t : ℕ) (w : Wanted) → slice_get schema t ≡ Some w → is_plain w.shape ≡ true → (e : Row) × Has (rows_at size pages Table 1) e × (describes w e ≡ true) × (page_number (column e 4) ≢ 0)
  unfolding roots_of
  has_entry t w at plain =
      found_root (rows_at size pages Table 1) w (λ none.
      live_root (db.layouts (suc t)) (shape_at schema t) (get_or (roots_of size schema pages) t 0) (ap is_plain (shape_there schema t w at) ∙ plain) (db.trees.laid (suc t)) (db.trees.kept (suc t))
      (root_there (rows_at size pages Table 1) schema t w at ∙ none))

  pub in_order : are_in_order [] (map (head_at 1) (rows_at size pages Table 1)) ≡ true
  in_order = (and_parts _ _ db.known).1
