-- No two rows of a table have one key, where its rows ascend by the columns of the key.
use Rattle.std.proofs.Common.{◌≡◌, inl, inr, ℕ, suc, Bool, true, false, ◌&&◌, ◌||◌, cond, List, [], ◌∷◌, map, drop, Ordering, Less, Equal, Greater, is_eq, IsTrue, refl, sym, ap, ap₂, ◌∙◌, arith}
use Rattle.std.specs.Ordering.{ordering_reverse}
use Rattle.std.specs.Prelude.{Some}
use Rattle.std.specs.List.{AllByRecursion, IsDistinct}
use Rattle.std.proofs.lemmas.Bool.{cases_Bool}
use Rattle.std.proofs.lemmas.Bool.Decides.{nat_tests}
use Rattle.std.proofs.lemmas.List.Elements.{All-from_recursion}
use Rattle.std.proofs.lemmas.List.Folds.{list_any_none}
use Rattle.std.proofs.lemmas.Map.Keys.{IsDistinct-IsPermutation}
use Rattle.sqlite_value.specs.declared.value.Value.{Value}
use Rattle.sqlite_value.specs.declared.value.Value.TheVariants.{Null, Int, Real, Text, Blob}
use Rattle.sqlite_value.specs.declared.keys.Collation.TheVariants.{Binary}
use Rattle.sqlite_value.specs.Keys.{plain, first_key}
use Rattle.sqlite_value.specs.Order.{Row, column, value_cmp}
use Rattle.sqlite_value.proofs.OrderLemmas.{value_cmp_total}
use Rattle.sqlite_sql.specs.declared.ops.CompareOp.TheVariants.{Ne}
use Rattle.sqlite_sql.specs.Ops.{binary, is_null, is_true, from_truth}
use Rattle.sqlite_schema.specs.Rules.{equal, differ, agree, clashes}
use Rattle.sqlite_trees.specs.Tree.{IsAscending, rowid}
use Rattle.sqlite_trees.specs.View.{is_int}
use Rattle.sqlite_trees.proofs.ListLemmas.{all_weaker, all_both, ascending_weaker, ascending_from_map}
use Rattle.osm_rows.specs.LayoutHolding.{HasRows}
use Rattle.osm_rows.proofs.ListLemmas.CompareLemmas as compare
use Rattle.osm_rows.proofs.MapLemmas.OneMap.{Precedes}

first_false : (a b : Bool) → a ≡ false → (a && b) ≡ false
first_false a b unlike = ap (λ t. t && b) unlike

second_false : (a b : Bool) → b ≡ false → (a && b) ≡ false
second_false true b unlike = unlike
second_false false b unlike = refl

-- ---- the same key

-- the rows have the same values in these columns
abbrev same_key : List ℕ → Row → Row → Bool
same_key [] r s = true
same_key (at ∷ ats) r s = is_eq (value_cmp (column r at) (column s at)) && same_key ats r s

apart : (ats : List ℕ) (r s : Row) → Precedes ats r s → same_key ats r s ≡ false
apart [] r s below = absurd below
apart (at ∷ ats) r s (inl less) = ap (λ o. is_eq o && same_key ats r s) less
apart (at ∷ ats) r s (inr tied) = ap (λ o. is_eq o && same_key ats r s) tied.0 ∙ apart ats r s tied.1

flips : (o p : Ordering) → o ≡ ordering_reverse p → is_eq o ≡ is_eq p
flips o Less e = ap is_eq e
flips o Equal e = ap is_eq e
flips o Greater e = ap is_eq e

both_ways : (ats : List ℕ) (r s : Row) → same_key ats r s ≡ same_key ats s r
both_ways [] r s = refl
both_ways (at ∷ ats) r s = ap₂ ◌&&◌ (flips _ _ (value_cmp_total.antisymm (column r at) (column s at))) (both_ways ats r s)

-- ---- rows in any order

distinct : (ats : List ℕ) (rows : List Row) → IsAscending (λ r s. same_key ats r s ≡ false) rows → IsDistinct (same_key ats) rows
unfolding IsDistinct
distinct ats [] up = tt
distinct ats (r ∷ rows) up = (up.0, distinct ats rows up.1)

from_distinct : (ats : List ℕ) (rows : List Row) → IsDistinct (same_key ats) rows → IsAscending (λ r s. same_key ats r s ≡ false) rows
unfolding IsDistinct
from_distinct ats [] up = tt
from_distinct ats (r ∷ rows) up = (up.0, from_distinct ats rows up.1)

keys_differ : (ats : List ℕ) (rows table : List Row) → IsAscending (Precedes ats) rows → HasRows rows table → IsAscending (λ r s. same_key ats (drop 1 r) (drop 1 s) ≡ false) table
keys_differ ats rows table up has =
    let given = distinct ats rows (ascending_weaker _ _ (apart ats) rows up) in
    ascending_from_map (λ r s. same_key ats r s ≡ false) (drop 1) table (from_distinct ats _ (IsDistinct-IsPermutation (same_key ats) (both_ways ats) _ _ has given))

-- ---- what SQL's = says of such rows

shown : (b : Bool) → is_true (from_truth (Some b)) ≡ b
shown true = refl
shown false = refl

unequal : (v w : Value) → is_eq (value_cmp v w) ≡ false → equal Binary v w ≡ false
unfolding binary
unequal v w unlike =
    elim (is_null v || is_null w) as (λ b. is_true (cond b Null (from_truth (Some (is_eq (value_cmp v w))))) ≡ false)
    [ true ↦ refl | false ↦ shown (is_eq (value_cmp v w)) ∙ unlike ]

-- a column of a row, and of the row without its rowid
next : (r : Row) (at : ℕ) → column r (suc at) ≡ column (drop 1 r) at
next [] at = refl
next (v ∷ r) at = refl

abbrev pub after_rowid : List ℕ → List ℕ
after_rowid = map (λ at. suc at)

disagree : (ats : List ℕ) (r s : Row) → same_key ats (drop 1 r) (drop 1 s) ≡ false → agree plain (after_rowid ats) r (after_rowid ats) s ≡ false
unfolding first_key
disagree [] r s unlike = absurd (cc)
disagree (at ∷ ats) r s unlike =
    let rest = agree plain (after_rowid ats) r (after_rowid ats) s in
    let here = is_eq (value_cmp (column (drop 1 r) at) (column (drop 1 s) at)) in
    elim (cases_Bool here) [
      | inl same ↦ second_false _ rest (disagree ats r s (ap (λ b. b && same_key ats (drop 1 r) (drop 1 s)) (sym same) ∙ unlike))
      | inr not ↦ first_false _ rest (ap₂ (equal Binary) (next r at) (next s at) ∙ unequal _ _ not)
    ]

itself : (v : Value) → IsTrue (is_int v) → differ v v ≡ false
itself Null h = absurd (cc)
itself (Int n) h = compare.passes Ne n n ∙ grind (arith, nat_tests)
itself (Real x) h = absurd (cc)
itself (Text t) h = absurd (cc)
itself (Blob b) h = absurd (cc)

-- ---- no row's key comes twice

-- a relation that holds of each element and itself, and both ways of each two, holds of all pairs
all_pairs : {X : Type 0} (R : X → X → Type 0) (xs : List X) → AllByRecursion (λ x. R x x) xs → IsAscending (λ x y. R x y × R y x) xs → AllByRecursion (λ x. AllByRecursion (λ y. R y x) xs) xs
all_pairs R [] own up = tt
all_pairs R (x ∷ xs) own up =
    ((own.0, all_weaker _ _ (λ y both. both.1) xs up.0), all_both _ _ _ (λ y both others. (both.0, others)) xs up.0 (all_pairs R xs own.1 up.1))

abbrev clash : List ℕ → Row → Row → Bool
clash ats other row = agree plain (after_rowid ats) other (after_rowid ats) row && differ (rowid other) (rowid row)

abbrev NeitherClashes : List ℕ → Row → Row → Type 0
NeitherClashes ats r s = (clash ats r s ≡ false) × (clash ats s r ≡ false)

neither_clashes : (ats : List ℕ) (r s : Row) → same_key ats (drop 1 r) (drop 1 s) ≡ false → NeitherClashes ats r s
neither_clashes ats r s unlike = (first_false _ _ (disagree ats r s unlike), first_false _ _ (disagree ats s r (both_ways ats (drop 1 s) (drop 1 r) ∙ unlike)))

pub no_clashes : (ats : List ℕ) (rows table : List Row) → IsAscending (Precedes ats) rows → HasRows rows table → AllByRecursion (λ r. IsTrue (is_int (rowid r))) table
    → AllByRecursion (λ row. clashes plain (after_rowid ats) table row ≡ false) table
no_clashes ats rows table up has ids =
    let own = all_weaker _ (λ r. clash ats r r ≡ false) (λ r id. second_false (agree plain (after_rowid ats) r (after_rowid ats) r) _ (itself (rowid r) id)) table ids in
    let two = ascending_weaker _ (NeitherClashes ats) (neither_clashes ats) table (keys_differ ats rows table up has) in
    let all = all_pairs (λ r s. clash ats r s ≡ false) table own two in
    all_weaker _ _ (λ row none. list_any_none _ table (All-from_recursion _ table none)) table all
