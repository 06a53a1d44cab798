-- What follows for the entries and the elements of a held map: they ascend.
use Rattle.std.proofs.Common.{◌≡◌, inl, inr, ℕ, ◌+◌, ◌<◌, ◌≤◌, ◌&&◌, Bool, true, false, T, List, [], ◌∷◌, Some, cond, eqb, refl, sym, ap, subst, ◌∙◌, arith}
use Rattle.std.specs.List.{AllByRecursion}
use Rattle.std.specs.Ordering.{nat_cmp, is_lt}
use Rattle.std.specs.Cmp.{unsigned_tied}
use Rattle.std.specs.FinMap.Entries.{below_all}
use Rattle.std.specs.FinMap.{entries, get, find, is_sorted, entries_sorted, get-entries}
use Rattle.std.proofs.lemmas.Bool.Decides.{eqb_tells, nat_tests}
use Rattle.sqlite_trees.specs.Tree.{IsAscending}
use Rattle.sqlite_trees.proofs.ListLemmas.{all_weaker}
use Rattle.osm_value.specs.declared.element.Element.{Element}
use Rattle.osm_rows.specs.Held.{Blob, HeldMap}
pub use Rattle.osm_rows.specs.Rows.{IsBefore}
use Rattle.osm_rows.specs.Rows.{Placed, placed, placed_in}
use Rattle.osm_rows.proofs.ListLemmas.NestedLists.{nested_rise}

abbrev pub Entry : Type 0
Entry = ℕ × Blob

-- ---- the entries of a map

first : (a b : Bool) → T (a && b) → T a
first true b p = tt
first false b p = absurd p

second : (a b : Bool) → T (a && b) → T b
second true b p = p
second false b p = absurd p

less : (x y : ℕ) → T (is_lt (nat_cmp x y)) → x < y
less x y p = grind (arith, nat_tests, p)

below : (off : ℕ) (es : List Entry) → T (below_all nat_cmp off es) → AllByRecursion (λ (e : Entry). off < e.0) es
below off [] p = tt
below off (e ∷ es) p = (less off e.0 (first _ _ p), below off es (second _ _ p))

rising : (es : List Entry) → T (is_sorted nat_cmp es) → IsAscending (λ (a b : Entry). a.0 < b.0) es
rising [] p = tt
rising (e ∷ es) p = (below e.0 es (first _ _ p), rising es (second _ _ p))

pub entries_rise : (held : HeldMap) → IsAscending (λ (a b : Entry). a.0 < b.0) (entries held)
entries_rise held = rising (entries held) (entries_sorted held)

all_find : (P : Entry → Type 0) (es : List Entry) (off : ℕ) (blob : Blob) → AllByRecursion P es → find nat_cmp off es ≡ Some blob → P (off, blob)
all_find P [] off blob all is = absurd (cc)
all_find P (e ∷ es) off blob all is =
    let known : cond (eqb off e.0) (Some e.1) (find nat_cmp off es) ≡ Some blob = ap (λ b. cond b (Some e.1) (find nat_cmp off es)) (sym (unsigned_tied off e.0)) ∙ is in
    elim (eqb_tells off e.0) [
      | inl (test, same) ↦
          let there : Some e.1 ≡ Some blob = ap (λ b. cond b (Some e.1) (find nat_cmp off es)) (sym test) ∙ known in
          let one : e.1 ≡ blob = cc in
          subst (λ (b : Blob). P (off, b)) one (subst (λ n. P (n, e.1)) (sym same) all.0)
      | inr (test, apart) ↦ all_find P es off blob all.1 (ap (λ b. cond b (Some e.1) (find nat_cmp off es)) (sym test) ∙ known)
    ]

-- what holds of each entry holds of the blob at an offset
pub all_held : (P : Entry → Type 0) (held : HeldMap) (off : ℕ) (blob : Blob) → AllByRecursion P (entries held) → get held off ≡ Some blob → P (off, blob)
all_held P held off blob all is = all_find P (entries held) off blob all (sym (get-entries held off) ∙ is)

-- ---- the elements of a map, by offset and position

placed_at : (off position : ℕ) (es : List Element) → AllByRecursion (λ (p : Placed). (p.0 ≡ off) × (position ≤ p.1)) (placed off position es)
placed_at off position [] = tt
placed_at off position (e ∷ es) = ((refl, omega arith), all_weaker _ _ (λ s h. (h.0, omega (arith, h.1))) _ (placed_at off (position + 1) es))

placed_rise : (off position : ℕ) (es : List Element) → IsAscending (λ (a b : Placed). a.1 < b.1) (placed off position es)
placed_rise off position [] = tt
placed_rise off position (e ∷ es) = (all_weaker _ _ (λ s h. omega (arith, h.1)) _ (placed_at off (position + 1) es), placed_rise off (position + 1) es)

abbrev pub within : Entry → List Placed
within entry = placed entry.0 0 entry.1.elements

pub here : (entry : Entry) → AllByRecursion (λ (p : Placed). p.0 ≡ entry.0) (within entry)
here entry = all_weaker _ _ (λ s p. p.0) _ (placed_at entry.0 0 entry.1.elements)

pub by_position : (entry : Entry) → IsAscending (λ (a b : Placed). a.1 < b.1) (within entry)
by_position entry = placed_rise entry.0 0 entry.1.elements

pub placed_in_rise : (held : HeldMap) → IsAscending IsBefore (placed_in held)
placed_in_rise held = nested_rise (λ (e : Entry). e.0) (λ (p : Placed). p.0) (λ (a b : Placed). a.1 < b.1) within here by_position (entries held) (entries_rise held)
