-- The rows of one element and those of the elements after it.
use Rattle.std.proofs.Common.{◌≡◌, ℕ, zero, suc, ◌+◌, ◌≤◌, List, [], ◌∷◌, ◌++◌, length, map, drop, All, refl, sym, ap, subst, ◌∙◌, arith}
use Rattle.std.specs.Prelude.{flat_map}
use Rattle.std.specs.List.{AllByRecursion}
use Rattle.std.proofs.lemmas.List.{map-append, length-map, drop_all}
use Rattle.std.proofs.lemmas.List.Elements.{All-from_recursion}
use Rattle.sqlite.specs.Order.{Row}
use Rattle.sqlite_trees.specs.Tree.{IsAscending}
use Rattle.sqlite_trees.proofs.ListLemmas.{all_weaker, all-map}
use Rattle.osm_value.specs.Elements.{tags_of_element}
use Rattle.osm_value.specs.Value.{Text, MemberValue}
use Rattle.osm_rows.specs.Rows.{Placed, IsBefore}
use Rattle.osm_rows.specs.TableRows.{Part, tags_at, tag_row, tag_rows, links_of, links_at, link_row, link_rows}
use Rattle.osm_rows.specs.Load.TableElements.{StandsAt, StandsApart}
use Rattle.osm_rows.proofs.MapLemmas.PartLaws.{IsAt, none_of, parts_own, parts_apart, parts_in}

-- these rows, in front, are of the element at this place, and the others aren't
pub record AreSplit (off position : ℕ) (own others rows : List Row) : Type 0 where
  pub here : All (StandsAt off position) own
  pub elsewhere : All (StandsApart off position) others
  pub both : rows ≡ own ++ others

pub own_split : (off position : ℕ) (p : Placed) → off ≡ p.0 → position ≡ p.1 → {own others rows : List Row} → AreSplit p.0 p.1 own others rows → AreSplit off position own others rows
own_split off position p same_off same_position {own} {others} {rows} is =
    subst (λ n. AreSplit off n own others rows) (sym same_position) (subst (λ n. AreSplit n p.1 own others rows) (sym same_off) is)

-- ---- rows of parts

module _ {A : Type 0} (row : Part A → Row) (stands : (x : Part A) → StandsAt x.off x.position (row x)) (items : Placed → List A) where
  own_row : (p : Placed) (x : Part A) → IsAt p x → StandsAt p.0 p.1 (row x)
  own_row p x at = subst (λ n. StandsAt p.0 n (row x)) at.1 (subst (λ n. StandsAt n x.position (row x)) at.0 (stands x))

  other_row : (p : Placed) (x : Part A) → (IsAt p x → ⊥) → StandsApart p.0 p.1 (row x)
  other_row p x apart = record { at = (x.off, x.position); stands = stands x; apart = λ off position. apart (off, position) }

  -- the rows of the first element's parts, and those of the others
  split : (p : Placed) (ps : List Placed) (rows : List Row) → AllByRecursion (IsBefore p) ps → rows ≡ map row (flat_map (parts_in items) (p ∷ ps))
      → AreSplit p.0 p.1 (map row (parts_in items p)) (map row (flat_map (parts_in items) ps)) rows
  split p ps rows after is =
      let none = none_of IsBefore IsAt (parts_in items) (λ p. parts_own p 0 (items p)) p (λ e y. parts_apart p e y) ps after in
      record {
        here = All-from_recursion _ _ (all-map (StandsAt p.0 p.1) row (parts_in items p) (all_weaker _ _ (own_row p) (parts_in items p) (parts_own p 0 (items p))));
        elsewhere = All-from_recursion _ _ (all-map (StandsApart p.0 p.1) row (flat_map (parts_in items) ps) (all_weaker _ _ (other_row p) (flat_map (parts_in items) ps) none));
        both = is ∙ map-append row (parts_in items p) (flat_map (parts_in items) ps);
      }

tag_stands : (x : Part (Text × Text)) → StandsAt x.off x.position (tag_row x)
tag_stands x = record { long = omega arith; its_off = refl; its_position = refl }

link_stands : (x : Part MemberValue) → StandsAt x.off x.position (link_row x)
link_stands x = record { long = omega arith; its_off = refl; its_position = refl }

-- ---- the elements from one on

ascending-drop : {X : Type 0} (R : X → X → Type 0) (n : ℕ) (xs : List X) → IsAscending R xs → IsAscending R (drop n xs)
ascending-drop R zero xs up = up
ascending-drop R (suc n) [] up = tt
ascending-drop R (suc n) (x ∷ xs) up = ascending-drop R n xs up.1

after : (held : List Placed) (at : ℕ) (p : Placed) → IsAscending IsBefore held → drop at held ≡ p ∷ drop (at + 1) held → AllByRecursion (IsBefore p) (drop (at + 1) held)
after held at p up rest = (subst (IsAscending IsBefore) rest (ascending-drop IsBefore at held up)).0

-- the rows of tags that are left, where an element's come next
pub tags_next : (held : List Placed) (at : ℕ) (p : Placed) (rows : List Row) → IsAscending IsBefore held → drop at held ≡ p ∷ drop (at + 1) held → rows ≡ tag_rows (drop at held)
    → AreSplit p.0 p.1 (map tag_row (tags_at p)) (tag_rows (drop (at + 1) held)) rows
tags_next held at p rows up rest is = split tag_row tag_stands (λ (p : Placed). tags_of_element p.2) p (drop (at + 1) held) rows (after held at p up rest) (is ∙ ap tag_rows rest)

-- the same of links
pub links_next : (held : List Placed) (at : ℕ) (p : Placed) (rows : List Row) → IsAscending IsBefore held → drop at held ≡ p ∷ drop (at + 1) held → rows ≡ link_rows (drop at held)
    → AreSplit p.0 p.1 (map link_row (links_at p)) (link_rows (drop (at + 1) held)) rows
links_next held at p rows up rest is = split link_row link_stands (λ (p : Placed). links_of p.2) p (drop (at + 1) held) rows (after held at p up rest) (is ∙ ap link_rows rest)

-- no rows are left where all elements are read
pub none_left : {R : Type 0} (row : Placed → R) (rows_of : List Placed → List Row) → rows_of [] ≡ [] → (held : List Placed) (elements : List R) (at : ℕ) (rows : List Row)
    → elements ≡ map row held → length elements ≤ at → rows ≡ rows_of (drop at held) → rows ≡ []
none_left row rows_of none held elements at rows is past left =
    left ∙ ap rows_of (drop_all at held (omega (arith, ap length is, length-map held row))) ∙ none

-- ---- places

pub same_place : (off position : ℕ) (p : Placed) → ◌≡◌ {A = ℕ × ℕ} (off, position) (p.0, p.1) → (off ≡ p.0) × (position ≡ p.1)
same_place off position p is = (ap (λ (q : ℕ × ℕ). q.0) is, ap (λ (q : ℕ × ℕ). q.1) is)
