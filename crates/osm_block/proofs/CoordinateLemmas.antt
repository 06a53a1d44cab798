-- A sum is in a range where one part is in the range moved by the other.
use Rattle.std.proofs.Common.{◌≡◌, ap, ◌∙◌, sym, refl, arith, ◌&&◌, Bool, true, false, ℤ, ◌+ℤ◌, ◌-ℤ◌, ◌≤ℤ◌}
use Rattle.std.specs.Prelude.{int_le, T}
use Rattle.std.proofs.lemmas.Int.{ints}
use Rattle.osm_value.specs.Ranges.{is_wide}
use Rattle.osm_block.specs.declared.ranges.TheConstants.{LEAST, MOST}

truth : (b : Bool) → T b → b ≡ true
truth true t = refl
truth false t = absurd t

holds : (b : Bool) → b ≡ true → T b
holds true e = tt
holds false e = cc

pub le_true : (a b : ℤ) → int_le a b ≡ true → a ≤ℤ b
le_true a b e = record { le = holds (int_le a b) e }

pub true_le : (a b : ℤ) → a ≤ℤ b → int_le a b ≡ true
true_le a b h = truth (int_le a b) h.le

same_test : (x y : Bool) → (x ≡ true → y ≡ true) → (y ≡ true → x ≡ true) → x ≡ y
same_test true y f g = sym (f refl)
same_test false true f g = g refl
same_test false false f g = refl

below : (a o m : ℤ) → (a -ℤ o) ≤ℤ m → a ≤ℤ (o +ℤ m)
below a o m h = omega (arith, ints)

below_back : (a o m : ℤ) → a ≤ℤ (o +ℤ m) → (a -ℤ o) ≤ℤ m
below_back a o m h = omega (arith, ints)

above : (b o m : ℤ) → m ≤ℤ (b -ℤ o) → (o +ℤ m) ≤ℤ b
above b o m h = omega (arith, ints)

above_back : (b o m : ℤ) → (o +ℤ m) ≤ℤ b → m ≤ℤ (b -ℤ o)
above_back b o m h = omega (arith, ints)

shift_low : (a o m : ℤ) → int_le (a -ℤ o) m ≡ int_le a (o +ℤ m)
shift_low a o m = same_test (int_le (a -ℤ o) m) (int_le a (o +ℤ m))
    (λ e. true_le a (o +ℤ m) (below a o m (le_true (a -ℤ o) m e))) (λ e. true_le (a -ℤ o) m (below_back a o m (le_true a (o +ℤ m) e)))

shift_high : (b o m : ℤ) → int_le m (b -ℤ o) ≡ int_le (o +ℤ m) b
shift_high b o m = same_test (int_le m (b -ℤ o)) (int_le (o +ℤ m) b)
    (λ e. true_le (o +ℤ m) b (above b o m (le_true m (b -ℤ o) e))) (λ e. true_le m (b -ℤ o) (above_back b o m (le_true (o +ℤ m) b e)))

shift_both : (a b o m : ℤ) → (int_le (a -ℤ o) m && int_le m (b -ℤ o)) ≡ (int_le a (o +ℤ m) && int_le (o +ℤ m) b)
shift_both a b o m = ap (λ x. x && int_le m (b -ℤ o)) (shift_low a o m) ∙ ap (λ x. int_le a (o +ℤ m) && x) (shift_high b o m)

pub range_shift : (o m : ℤ) → (int_le (LEAST -ℤ o) m && int_le m (MOST -ℤ o)) ≡ is_wide (o +ℤ m)
range_shift o m = shift_both LEAST MOST o m
