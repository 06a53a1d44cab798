-- Counts of elements, one after the other.
use Rattle.std.proofs.Common.{◌≡◌, ℕ, ℤ, ◌+◌, ◌-◌, ◌^◌, ◌<◌, ◌≤ℤ◌, ◌<ℤ◌, min, true, false, List, [], ◌∷◌, ◌++◌, take, get_or, length, Option, Some, sym, ap, subst, ◌∙◌, arith, append-nil, append_assoc}
use Rattle.std.specs.Prelude.{option_to_list, int_lt}
use Rattle.std.specs.List.{sum_by}
use Rattle.std.proofs.lemmas.Int.{ints}
use Rattle.std.proofs.lemmas.List.{flat_map_more, take_more}
use Rattle.std.proofs.lemmas.List.Elements.{All-push, All-weaker, Contains-push, Contains-append_left}
use Rattle.std.proofs.lemmas.List.Sums.{sum_by_push}
use Rattle.osm_value.specs.declared.element.Element.{Element}
use Rattle.osm_value.specs.Elements.{info_of_element}
use Rattle.pbfrow_reading.specs.Checking.{capped}
use Rattle.pbfrow_counts.specs.Counting.{AreCounts, CountsMore, IsNewest, IsOldest, times_of}
use Rattle.pbfrow_counts.specs.declared.elements.ElementCounts.{ElementCounts}

-- ---- one more element

pub counted : (f : Element → ℕ) (old new more : ℕ) (es : List Element) (e : Element) → old ≡ capped (sum_by f es) → new ≡ min (old + more) (2 ^ 64 - 1) → more ≡ f e → new ≡ capped (sum_by f (es ++ e ∷ []))
counted f old new more es e was is one =
    let pushed = sum_by_push f es e in
    omega (arith, was, is, one, pushed)

pub times-push : (es : List Element) (e : Element) → times_of (es ++ e ∷ []) ≡ times_of es ++ option_to_list (info_of_element e).time
times-push es e = sym (flat_map_more (λ (x : Element). option_to_list (info_of_element x).time) [] es e)

-- ---- the oldest and the newest

before-then : (a b c : ℤ) → a ≤ℤ b → b ≤ℤ c → a ≤ℤ c
before-then a b c first next = omega (arith, ints)

at-most : (a b : ℤ) → a <ℤ b → a ≤ℤ b
at-most a b below = omega (arith, ints)

itself : (a : ℤ) → a ≤ℤ a
itself a = omega (arith, ints)

pub is-below : (x y a b : ℤ) → x ≡ a → y ≡ b → int_lt x y ≡ true → a <ℤ b
is-below x y a b first second less =
    let below : int_lt a b ≡ true = ap (λ z. int_lt z b) (sym first) ∙ ap (λ z. int_lt x z) (sym second) ∙ less in
    grind (arith, ints)

pub is-at-most : (x y a b : ℤ) → x ≡ a → y ≡ b → int_lt x y ≡ false → b ≤ℤ a
is-at-most x y a b first second less =
    let above : int_lt a b ≡ false = ap (λ z. int_lt z b) (sym first) ∙ ap (λ z. int_lt x z) (sym second) ∙ less in
    grind (arith, ints)

pub older-takes : (times : List ℤ) (old time : Option ℤ) (oldest at : ℤ) → time ≡ Some at → old ≡ Some oldest → at <ℤ oldest → IsOldest times old → IsOldest (times ++ option_to_list time) (Some at)
older-takes times old time oldest at here is below was =
    let held = subst (IsOldest times) is was in
    subst (λ (t : Option ℤ). IsOldest (times ++ option_to_list t) (Some at)) (sym here)
    (Contains-push times at, All-push (λ other. at ≤ℤ other) times at (All-weaker (λ other. oldest ≤ℤ other) (λ other. at ≤ℤ other) (λ other later. before-then at oldest other (at-most at oldest below) later) times held.1) (itself at))

pub older-keeps : (times : List ℤ) (old time : Option ℤ) (oldest at : ℤ) → time ≡ Some at → old ≡ Some oldest → oldest ≤ℤ at → IsOldest times old → IsOldest (times ++ option_to_list time) (Some oldest)
older-keeps times old time oldest at here is above was =
    let held = subst (IsOldest times) is was in
    subst (λ (t : Option ℤ). IsOldest (times ++ option_to_list t) (Some oldest)) (sym here)
    (Contains-append_left times (at ∷ []) oldest held.0, All-push (λ other. oldest ≤ℤ other) times at held.1 above)

pub newer-takes : (times : List ℤ) (old time : Option ℤ) (newest at : ℤ) → time ≡ Some at → old ≡ Some newest → newest <ℤ at → IsNewest times old → IsNewest (times ++ option_to_list time) (Some at)
newer-takes times old time newest at here is above was =
    let held = subst (IsNewest times) is was in
    subst (λ (t : Option ℤ). IsNewest (times ++ option_to_list t) (Some at)) (sym here)
    (Contains-push times at, All-push (λ other. other ≤ℤ at) times at (All-weaker (λ other. other ≤ℤ newest) (λ other. other ≤ℤ at) (λ other earlier. before-then other newest at earlier (at-most newest at above)) times held.1) (itself at))

pub newer-keeps : (times : List ℤ) (old time : Option ℤ) (newest at : ℤ) → time ≡ Some at → old ≡ Some newest → at ≤ℤ newest → IsNewest times old → IsNewest (times ++ option_to_list time) (Some newest)
newer-keeps times old time newest at here is below was =
    let held = subst (IsNewest times) is was in
    subst (λ (t : Option ℤ). IsNewest (times ++ option_to_list t) (Some newest)) (sym here)
    (Contains-append_left times (at ∷ []) newest held.0, All-push (λ other. other ≤ℤ newest) times at held.1 below)

-- ---- some more, and more of them

pub no-more : (counts : ElementCounts) → CountsMore counts [] counts
no-more counts before are = subst (λ (es : List Element). AreCounts es counts) (sym (append-nil before)) are

pub more-then : (a b c : ElementCounts) (xs ys : List Element) → CountsMore a xs b → CountsMore b ys c → CountsMore a (xs ++ ys) c
more-then a b c xs ys one two before are = subst (λ (es : List Element). AreCounts es c) (append_assoc before xs ys) (two (before ++ xs) (one before are))

pub more-at : (a b c : ElementCounts) (xs : List Element) (i : ℕ) (x : Element) → i < length xs → x ≡ get_or xs i x → CountsMore a (take i xs) b → CountsMore b (x ∷ []) c → CountsMore a (take (i + 1) xs) c
more-at a b c xs i x within is one two =
    subst (λ (es : List Element). CountsMore a es c) (ap (λ (y : Element). take i xs ++ y ∷ []) is ∙ sym (take_more xs i x within))
    (more-then a b c (take i xs) (x ∷ []) one two)
