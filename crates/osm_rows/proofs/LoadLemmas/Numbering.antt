-- The rows of a blob's elements, and those of an element's tags and links, are numbered from 0.
use Rattle.std.proofs.Common.{◌≡◌, ℕ, ℤ, zero, suc, ◌+◌, ◌<◌, pos, List, [], ◌∷◌, map, length, true, eqb, inl, inr, refl, sym, ap, subst, ◌∙◌, arith}
use Rattle.std.specs.Prelude.{filter, slice_index_or}
use Rattle.std.proofs.lemmas.Bool.Decides.{eqb_tells}
use Rattle.sqlite.specs.declared.types.Value.TheVariants.{Int}
use Rattle.sqlite.specs.Order.{Row, column}
use Rattle.osm_value.specs.declared.element.Element.{Element}
use Rattle.osm_value.specs.Elements.{tags_of_element}
use Rattle.osm_rows.specs.Held.{HeldMap}
use Rattle.osm_rows.specs.Load.Numbering.{AreNumbered}
use Rattle.osm_rows.specs.Rows.{Placed, placed, placed_in, is_in}
use Rattle.osm_rows.specs.TableRows.{Part, parts, tags_at, tag_row, links_of, links_at, link_row}
use Rattle.osm_rows.proofs.MapLemmas.HeldLemmas.{counted_at}

-- ---- a number in a column

pub has_column : (row : Row) (at : ℕ) (z : ℤ) → column row at ≡ Int z → at < length row
has_column [] at z is = absurd (cc)
has_column (v ∷ row) zero z is = omega arith
has_column (v ∷ row) (suc at) z is = let there = has_column row at z is in omega (arith, there)

-- a row that is there doesn't depend on the default
pub read_at : (rows : List Row) (i : ℕ) (d e : Row) → i < length rows → slice_index_or rows i d ≡ slice_index_or rows i e
read_at [] i d e within = absurd (omega (arith, within))
read_at (r ∷ rows) zero d e within = refl
read_at (r ∷ rows) (suc i) d e within = read_at rows i d e (omega (arith, within))

pub same_number : (n : ℕ) → eqb n n ≡ true
same_number n = elim (eqb_tells n n) [ inl (test, same) ↦ test | inr (test, apart) ↦ absurd (apart refl) ]

-- ---- the numbers of rows

-- the next number, and that of the item at a place behind it
first : (n : ℕ) → n ≡ n + 0
first n = omega arith

next : (n k : ℕ) → n + 1 + k ≡ n + suc k
next n k = omega arith

from_0 : (k : ℕ) → 0 + k ≡ k
from_0 k = omega arith

module _ {A : Type 0} (row : Part A → Row) (shows : (x : Part A) → column (row x) 2 ≡ Int (pos x.number)) where
  part_numbers : (off position n : ℕ) (xs : List A) (k : ℕ) → k < length (map row (parts off position n xs)) → column (slice_index_or (map row (parts off position n xs)) k []) 2 ≡ Int (pos (n + k))
  part_numbers off position n [] k low = absurd (omega (arith, low))
  part_numbers off position n (x ∷ xs) zero low = shows _ ∙ ap (λ m. Int (pos m)) (first n)
  part_numbers off position n (x ∷ xs) (suc k) low = part_numbers off position (n + 1) xs k (omega (arith, low)) ∙ ap (λ m. Int (pos m)) (next n k)

  parts_numbered : (off position : ℕ) (xs : List A) (rows : List Row) → rows ≡ map row (parts off position 0 xs) → AreNumbered 2 rows
  parts_numbered off position xs rows is = subst (AreNumbered 2) (sym is) (λ k low. part_numbers off position 0 xs k low ∙ ap (λ m. Int (pos m)) (from_0 k))

pub tags_numbered : (p : Placed) (rows : List Row) → rows ≡ map tag_row (tags_at p) → AreNumbered 2 rows
tags_numbered p rows is = parts_numbered tag_row (λ x. refl) p.0 p.1 (tags_of_element p.2) rows is

pub links_numbered : (p : Placed) (rows : List Row) → rows ≡ map link_row (links_at p) → AreNumbered 2 rows
links_numbered p rows is = parts_numbered link_row (λ x. refl) p.0 p.1 (links_of p.2) rows is

module _ (row : Placed → Row) (shows : (p : Placed) → column (row p) 1 ≡ Int (pos p.1)) where
  positions : (off n : ℕ) (es : List Element) (k : ℕ) → k < length (map row (placed off n es)) → column (slice_index_or (map row (placed off n es)) k []) 1 ≡ Int (pos (n + k))
  positions off n [] k low = absurd (omega (arith, low))
  positions off n (e ∷ es) zero low = shows _ ∙ ap (λ m. Int (pos m)) (first n)
  positions off n (e ∷ es) (suc k) low = positions off (n + 1) es k (omega (arith, low)) ∙ ap (λ m. Int (pos m)) (next n k)

  -- the rows of one blob
  pub placed_numbered : (off : ℕ) (es : List Element) (rows : List Row) → rows ≡ map row (placed off 0 es) → AreNumbered 1 rows
  placed_numbered off es rows is = subst (AreNumbered 1) (sym is) (λ k low. positions off 0 es k low ∙ ap (λ m. Int (pos m)) (from_0 k))

  -- the rows of what is held at an offset
  pub held_numbered : (held : HeldMap) (off : ℕ) (rows : List Row) → rows ≡ map row (filter (is_in off) (placed_in held)) → AreNumbered 1 rows
  held_numbered held off rows is =
      let it = counted_at held off in
      placed_numbered off it.0 rows (is ∙ ap (map row) it.1)
