-- What the keys of the indexes of elements, tags and links find.
use Rattle.std.proofs.Common.{◌≡◌, ℕ, ℤ, pos, ◌==◌, ◌&&◌, Less, Equal, Greater, Ordering, is_eq, [], ◌∷◌, refl, ap, ap₂, ◌∙◌, arith}
use Rattle.std.specs.Ordering.{ordering_then, int_eq}
use Rattle.std.proofs.lemmas.Bool.Decides.{nat_tests}
use Rattle.sqlite_value.specs.declared.value.Value.{Value}
use Rattle.sqlite_value.specs.declared.value.Value.TheVariants.{Int}
use Rattle.sqlite_value.specs.Order.{Row, value_cmp}
use Rattle.sqlite_value.specs.Keys.{plain, by_key, prefix_cmp}
use Rattle.sqlite_value.proofs.KeyLemmas.{first_key-plain}
use Rattle.sqlite_value.proofs.OrderLemmas.{value_cmp-Int}
use Rattle.sqlite_trees.proofs.TreeLemmas.{prefix_cmp-one}
use Rattle.osm_tree_audits.specs.Finding.{starts}

-- ---- keys of one number and of two

int_tied : (m n : ℤ) → is_eq (value_cmp (Int m) (Int n)) ≡ int_eq m n
int_tied m n = ap is_eq (value_cmp-Int m n) ∙ grind (arith, nat_tests)

number_tied : (m n : ℕ) → is_eq (value_cmp (Int (pos m)) (Int (pos n))) ≡ (m == n)
number_tied m n = ap is_eq (value_cmp-Int (pos m) (pos n)) ∙ grind (arith, nat_tests)

then_tied : (o p : Ordering) → is_eq (ordering_then o p) ≡ (is_eq o && is_eq p)
then_tied Less p = refl
then_tied Equal p = refl
then_tied Greater p = refl

prefix_cmp-two : (v w : Value) (e : Row) (k l : Value) → prefix_cmp plain (v ∷ w ∷ e) (k ∷ l ∷ []) ≡ ordering_then (value_cmp v k) (value_cmp w l)
prefix_cmp-two v w e k l = ap₂ ordering_then (ap (λ first. by_key first v k) first_key-plain) (prefix_cmp-one w e l)

pub one_number : (m n : ℕ) (e : Row) → starts (Int (pos n) ∷ []) (Int (pos m) ∷ e) ≡ (m == n)
one_number m n e = ap is_eq (prefix_cmp-one (Int (pos m)) e (Int (pos n))) ∙ number_tied m n

pub two_numbers : (m n : ℕ) (i j : ℤ) (e : Row) → starts (Int (pos n) ∷ Int j ∷ []) (Int (pos m) ∷ Int i ∷ e) ≡ ((m == n) && int_eq i j)
two_numbers m n i j e = ap is_eq (prefix_cmp-two (Int (pos m)) (Int i) e (Int (pos n)) (Int j)) ∙ then_tied _ _ ∙ ap₂ ◌&&◌ (number_tied m n) (int_tied i j)

pub two_naturals : (m n i j : ℕ) (e : Row) → starts (Int (pos n) ∷ Int (pos j) ∷ []) (Int (pos m) ∷ Int (pos i) ∷ e) ≡ ((m == n) && (i == j))
two_naturals m n i j e = ap is_eq (prefix_cmp-two (Int (pos m)) (Int (pos i)) e (Int (pos n)) (Int (pos j))) ∙ then_tied _ _ ∙ ap₂ ◌&&◌ (number_tied m n) (number_tied i j)
