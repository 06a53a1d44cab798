-- Rows of two lists of the trees of one file that agree but for their SQL texts are one row.
use Rattle.std.proofs.Common.{◌≡◌, ◌⊎◌, ℕ, ◌+◌, ◌*◌, List, [], pos, true, sym, subst, ap, ◌∙◌, inl, inr, arith, is_eq}
use Rattle.std.specs.Prelude.{None}
use Rattle.std.proofs.lemmas.Cmp.{tied_back}
use Rattle.sqlite_value.specs.declared.keys.Order.{Order}
use Rattle.sqlite_value.specs.declared.value.Value.{Value}
use Rattle.sqlite_value.specs.declared.value.Value.TheVariants.{Int, Text}
use Rattle.sqlite_value.specs.Order.{Row, column}
use Rattle.sqlite_value.proofs.OrderLemmas.{value_cmp_total}
use Rattle.sqlite_trees.specs.declared.store.Shape.{Shape}
use Rattle.sqlite_trees.specs.declared.store.Shape.TheVariants.{Table, Index}
use Rattle.sqlite_trees.specs.Listing.{same_code}
use Rattle.sqlite_trees.specs.Objects.{listing, shape_code, number_in}
use Rattle.sqlite_rules.specs.Lists.{Has}
use Rattle.sqlite_catalog.specs.Listing.{Describes}
use Rattle.sqlite_pages.specs.PageMap.{PageMap}
use Rattle.sqlite_store.specs.declared.catalog.Wanted.{Wanted}
use Rattle.sqlite_store.specs.Catalog.{same_value, is_plain}
use Rattle.sqlite_store.specs.Db.{rows_at, IsDb}
use Rattle.sqlite_store.specs.Listing.{listed_from}
use Rattle.osm_restarts.proofs.Places.{placed}
use Rattle.osm_restarts.proofs.Entries.{equal_is, IsWords, same_words, entry_parts, one_named, has_entry, in_order}

-- the code of the shape of a table or of an index
abbrev pub IsCode : ℕ → Type 0
IsCode code = (code ≡ 1) ⊎ ((o : Order) × (code ≡ 2 + 8 * o.digits))

-- both rows describe this tree, and the second has a text or none
pub record AreTwins (r q : Row) : Type 0 where
  pub tree : ℕ
  pub kind : List ℕ
  pub name : List ℕ
  pub owner : List ℕ
  pub code : ℕ
  pub bits : ℕ
  pub one : Describes r tree kind name owner code bits
  pub other : Describes q tree kind name owner code bits
  pub coded : IsCode code
  pub words : IsWords (column q 4)

has_pages : (shape : Shape) (code : ℕ) → IsCode code → shape_code shape ≡ code → is_plain shape ≡ true
has_pages shape code (inl table) is = ap is_plain (same_code shape Table (is ∙ table))
has_pages shape code (inr index) is = ap is_plain (same_code shape (Index index.0) (is ∙ index.1))

alike : (k l : ℕ) (a b : Row) (s t : Shape) (x y : ℕ) → k ≡ l → column a 0 ≡ column b 0 → column a 1 ≡ column b 1 → column a 2 ≡ column b 2 → column a 3 ≡ column b 3 → s ≡ t → x ≡ y
    → listing k a s x ≡ listing l b t y
alike k l a b s t x y place kind name owner sql shape reals = rw (place, kind, name, owner, sql, shape, reals)

module _ {size : ℕ} {a b : List Wanted} {pages : PageMap} (none : pages 0 ≡ None) (mine : IsDb size a pages) (theirs : IsDb size b pages) where
  pub same_row : (r q : Row) → Has (listed_from 0 a) r → Has (listed_from 0 b) q → AreTwins r q → r ≡ q
  same_row r q here there twins =
      let entries = rows_at size pages Table 1 in
      let p = placed 0 a r here in
      let s = placed 0 b q there in
      let w = p.wanted in
      let v = s.wanted in
      let of_one = λ (n : ℕ). ap (λ (x : Row). column x n) p.is in
      let of_other = λ (n : ℕ). ap (λ (x : Row). column x n) s.is in
      let first : Int (pos (0 + p.place + 1)) ≡ Int (pos (twins.tree + 1)) = sym (of_one 0) ∙ twins.one.id in
      let second : Int (pos (0 + s.place + 1)) ≡ Int (pos (twins.tree + 1)) = sym (of_other 0) ∙ twins.other.id in
      let place : 0 + p.place ≡ 0 + s.place = (let x : 0 + p.place + 1 ≡ twins.tree + 1 = cc in let y : 0 + s.place + 1 ≡ twins.tree + 1 = cc in omega arith) in
      let code : shape_code w.shape ≡ twins.code = sym (ap number_in (of_one 5)) ∙ twins.one.shape_is in
      let code' : shape_code v.shape ≡ twins.code = sym (ap number_in (of_other 5)) ∙ twins.other.shape_is in
      let e = has_entry none mine p.place w p.at (has_pages w.shape twins.code twins.coded code) in
      let f = has_entry none theirs s.place v s.at (has_pages v.shape twins.code twins.coded code') in
      let name : column w.row 1 ≡ Text twins.name = sym (of_one 2) ∙ twins.one.name_is in
      let name' : column v.row 1 ≡ Text twins.name = sym (of_other 2) ∙ twins.other.name_is in
      let named : column e.0 2 ≡ Text twins.name = same_words (column e.0 2) (Text twins.name) tt (subst (λ x. same_value (column e.0 2) x ≡ true) name (entry_parts w e.0 e.2).0) in
      let named' : column f.0 2 ≡ Text twins.name = same_words (column f.0 2) (Text twins.name) tt (subst (λ x. same_value (column f.0 2) x ≡ true) name' (entry_parts v f.0 f.2).0) in
      let same : e.0 ≡ f.0 = one_named [] entries e.0 f.0 (in_order none mine) e.1 f.1 (named ∙ sym named') in
      let words : IsWords (column v.row 3) = subst IsWords (of_other 4) twins.words in
      let text : column f.0 5 ≡ column v.row 3 = same_words (column f.0 5) (column v.row 3) words (entry_parts v f.0 f.2).1 in
      let tied : same_value (column v.row 3) (column w.row 3) ≡ true = subst (λ x. same_value x (column w.row 3) ≡ true) (ap (λ (x : Row). column x 5) same ∙ text) (entry_parts w e.0 e.2).1 in
      let sql : column w.row 3 ≡ column v.row 3 = same_words (column w.row 3) (column v.row 3) words (turned (column v.row 3) (column w.row 3) tied) in
      p.is
      ∙ alike _ _ w.row v.row w.shape v.shape w.reals v.reals place (sym (of_one 1) ∙ twins.one.kind_is ∙ sym twins.other.kind_is ∙ of_other 1) (name ∙ sym name')
      (sym (of_one 3) ∙ twins.one.owner_is ∙ sym twins.other.owner_is ∙ of_other 3) sql (same_code w.shape v.shape (code ∙ sym code'))
      (sym (ap number_in (of_one 6)) ∙ twins.one.reals_are ∙ sym twins.other.reals_are ∙ ap number_in (of_other 6))
      ∙ sym s.is
    where
      turned : (x y : Value) → same_value x y ≡ true → same_value y x ≡ true
      turned x y same = ap is_eq (tied_back value_cmp_total x y (equal_is _ same))
