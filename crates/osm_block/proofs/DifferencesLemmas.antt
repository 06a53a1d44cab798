-- Differences and the sums of fronts undo each other.
use Rattle.std.proofs.Common.{◌≡◌, ℕ, ◌+◌, ◌<◌, ◌≤◌, List, [], ◌∷◌, ◌++◌, map, length, get_or, set, take, drop, subst, Bool, true, false, ◌&&◌, refl, sym, ap, ◌∙◌, ℤ, pos, ◌+ℤ◌, ◌-ℤ◌, FitsSigned, arith, Some, None, not, append_assoc}
use Rattle.std.specs.List.{AllByRecursion, list_all}
use Rattle.std.specs.Int.{w64}
use Rattle.std.proofs.lemmas.Int.{ints}
use Rattle.std.proofs.lemmas.List.{drop_more, drop_all, take_all, take_more_set, drop-set-lt, append-nil}
use Rattle.osm_block.specs.declared.fault.BlockFault.TheVariants as faults
use Rattle.osm_block.specs.Phases.{when}
use Rattle.osm_block.specs.Differences.{differences_from, front_sums, fits_i64, Diff}

-- each of the sums with a number added
abbrev pub onto : ℤ → List ℤ → List ℤ
onto b ss = map (λ s. b +ℤ s) ss

pub onto-onto : (a b : ℤ) (ss : List ℤ) → onto a (onto b ss) ≡ onto (a +ℤ b) ss
onto-onto a b [] = refl
onto-onto a b (s ∷ ss) =
    let here : a +ℤ (b +ℤ s) ≡ (a +ℤ b) +ℤ s = omega (arith, ints) in
    let later : onto a (onto b ss) ≡ onto (a +ℤ b) ss = onto-onto a b ss in
    cc

pub onto-zero : (ss : List ℤ) → onto (pos 0) ss ≡ ss
onto-zero [] = refl
onto-zero (s ∷ ss) =
    let here : pos 0 +ℤ s ≡ s = omega (arith, ints) in
    let later : onto (pos 0) ss ≡ ss = onto-zero ss in
    cc

-- differences of the sums are what was summed
pub differences_from-sums : (b : ℤ) (ds : List ℤ) → differences_from b (onto b (front_sums ds)) ≡ ds
differences_from-sums b [] = refl
differences_from-sums b (d ∷ ds) =
    let first : (b +ℤ d) -ℤ b ≡ d = omega (arith, ints) in
    let fused : onto b (onto d (front_sums ds)) ≡ onto (b +ℤ d) (front_sums ds) = onto-onto b d (front_sums ds) in
    let later : differences_from (b +ℤ d) (onto (b +ℤ d) (front_sums ds)) ≡ ds = differences_from-sums (b +ℤ d) ds in
    cc

-- sums of differences are what they were taken of
pub sums-differences_from : (b : ℤ) (vs : List ℤ) → onto b (front_sums (differences_from b vs)) ≡ vs
sums-differences_from b [] = refl
sums-differences_from b (v ∷ vs) =
    let first : b +ℤ (v -ℤ b) ≡ v = omega (arith, ints) in
    let fused : onto b (onto (v -ℤ b) (front_sums (differences_from v vs))) ≡ onto (b +ℤ (v -ℤ b)) (front_sums (differences_from v vs)) = onto-onto b (v -ℤ b) (front_sums (differences_from v vs)) in
    let later : onto v (front_sums (differences_from v vs)) ≡ vs = sums-differences_from v vs in
    cc

-- numbers of which ds are the differences are the sums of the fronts of ds, so there is one such list at most
pub Diff-are_sums : (vs ds : List ℤ) → Diff vs ds → vs ≡ front_sums ds
Diff-are_sums vs ds h =
    let start : onto (pos 0) (front_sums (differences_from (pos 0) vs)) ≡ vs = sums-differences_from (pos 0) vs in
    let plain : onto (pos 0) (front_sums (differences_from (pos 0) vs)) ≡ front_sums (differences_from (pos 0) vs) = onto-zero _ in
    let are : differences_from (pos 0) vs ≡ ds = h.are in
    let sums : front_sums (differences_from (pos 0) vs) ≡ front_sums ds = ap front_sums are in
    cc

pub Diff-unique : (us vs ds : List ℤ) → Diff us ds → Diff vs ds → us ≡ vs
Diff-unique us vs ds g h = Diff-are_sums us ds g ∙ sym (Diff-are_sums vs ds h)

pub Diff-from_sums : (vs ds : List ℤ) → vs ≡ front_sums ds → AllByRecursion (FitsSigned w64) vs → Diff vs ds
Diff-from_sums vs ds e fit =
    let back : differences_from (pos 0) (onto (pos 0) (front_sums ds)) ≡ ds = differences_from-sums (pos 0) ds in
    let plain : onto (pos 0) (front_sums ds) ≡ front_sums ds = onto-zero (front_sums ds) in
    let are : differences_from (pos 0) vs ≡ ds = ap (differences_from (pos 0)) (e ∙ sym plain) ∙ back in
    record { are = are; fit = fit }

-- where one of the sums doesn't fit, no numbers of 64 bits have these differences
pub fits_i64-from : (z : ℤ) → FitsSigned w64 z → fits_i64 z ≡ true
fits_i64-from z h = grind (arith, ints)

pub fits_i64-none : (z : ℤ) → (FitsSigned w64 z → ⊥) → fits_i64 z ≡ false
fits_i64-none z h = grind (arith, ints)

pub list_all-stops : {X : Type 0} (p : X → Bool) (xs ys : List X) (y : X) → p y ≡ false → list_all p (xs ++ y ∷ ys) ≡ false
list_all-stops p [] ys y fails = ap (λ b. b && list_all p ys) fails
list_all-stops p (x ∷ xs) ys y fails = elim (p x) as (λ b. (b && list_all p (xs ++ y ∷ ys)) ≡ false) [ true ↦ list_all-stops p xs ys y fails | false ↦ refl ]

-- ---- a loop's step

pub AllByRecursion-push : {A : Type 0} (P : A → Type 0) (xs : List A) (x : A) → AllByRecursion P xs → P x → AllByRecursion P (xs ++ x ∷ [])
AllByRecursion-push P [] x all here = (here, tt)
AllByRecursion-push P (y ∷ xs) x all here = (all.0, AllByRecursion-push P xs x all.1 here)

-- the sums of what is left, each added to the last, go on from the sums so far
sums_left-step : (xs : List ℤ) (i : ℕ) (last d : ℤ) → i < length xs →
    onto last (front_sums (drop i xs)) ≡ (last +ℤ get_or xs i d) ∷ onto (last +ℤ get_or xs i d) (front_sums (drop (i + 1) xs))
sums_left-step xs i last d h =
    let e : ℤ = get_or xs i d in
    let cut : drop i xs ≡ e ∷ drop (i + 1) xs = drop_more xs i d h in
    let fused : onto last (onto e (front_sums (drop (i + 1) xs))) ≡ onto (last +ℤ e) (front_sums (drop (i + 1) xs)) = onto-onto last e _ in
    ap (λ l. onto last (front_sums l)) cut ∙ ap (λ l. (last +ℤ e) ∷ l) fused

pub step : (xs total : List ℤ) (i : ℕ) (last d value : ℤ) → i < length xs →
    take i xs ++ onto last (front_sums (drop i xs)) ≡ total → value ≡ last +ℤ get_or xs i d →
    take (i + 1) (set xs i value) ++ onto value (front_sums (drop (i + 1) (set xs i value))) ≡ total
step xs total i last d value h sums sum =
    let rest : List ℤ = onto value (front_sums (drop (i + 1) xs)) in
    let cut : onto last (front_sums (drop i xs)) ≡ (last +ℤ get_or xs i d) ∷ onto (last +ℤ get_or xs i d) (front_sums (drop (i + 1) xs)) = sums_left-step xs i last d h in
    let next : (last +ℤ get_or xs i d) ∷ onto (last +ℤ get_or xs i d) (front_sums (drop (i + 1) xs)) ≡ value ∷ rest = ap (λ v. v ∷ onto v (front_sums (drop (i + 1) xs))) (sym sum) in
    ap (λ l. l ++ onto value (front_sums (drop (i + 1) (set xs i value)))) (take_more_set xs i value h)
    ∙ ap (λ l. (take i xs ++ value ∷ []) ++ onto value (front_sums l)) (drop-set-lt (i + 1) xs i value (omega arith))
    ∙ append_assoc (take i xs) (value ∷ []) rest
    ∙ sym (ap (λ l. take i xs ++ l) (cut ∙ next)) ∙ sums

pub step-fits : (xs : List ℤ) (i : ℕ) (value : ℤ) → i < length xs → AllByRecursion (FitsSigned w64) (take i xs) → FitsSigned w64 value → AllByRecursion (FitsSigned w64) (take (i + 1) (set xs i value))
step-fits xs i value h all here =
    subst (AllByRecursion (FitsSigned w64)) (sym (take_more_set xs i value h)) (AllByRecursion-push (FitsSigned w64) _ _ all here)

pub stop : (xs total : List ℤ) (i : ℕ) (last d : ℤ) → i < length xs →
    take i xs ++ onto last (front_sums (drop i xs)) ≡ total → (FitsSigned w64 (last +ℤ get_or xs i d) → ⊥) → list_all fits_i64 total ≡ false
stop xs total i last d h sums outside =
    let cut : onto last (front_sums (drop i xs)) ≡ (last +ℤ get_or xs i d) ∷ onto (last +ℤ get_or xs i d) (front_sums (drop (i + 1) xs)) = sums_left-step xs i last d h in
    let whole : total ≡ take i xs ++ ((last +ℤ get_or xs i d) ∷ onto (last +ℤ get_or xs i d) (front_sums (drop (i + 1) xs))) = sym sums ∙ ap (λ l. take i xs ++ l) cut in
    ap (list_all fits_i64) whole ∙ list_all-stops fits_i64 (take i xs) _ _ (fits_i64-none _ outside)

pub finish : (xs total : List ℤ) (i : ℕ) (last : ℤ) → length xs ≤ i → take i xs ++ onto last (front_sums (drop i xs)) ≡ total → xs ≡ total
finish xs total i last over sums =
    sym (append-nil xs) ∙ sym (ap (λ l. l ++ []) (take_all i xs over)) ∙ sym (ap (λ l. take i xs ++ onto last (front_sums l)) (drop_all i xs over)) ∙ sums

pub finish-fits : (xs : List ℤ) (i : ℕ) → length xs ≤ i → AllByRecursion (FitsSigned w64) (take i xs) → AllByRecursion (FitsSigned w64) xs
finish-fits xs i over all = subst (AllByRecursion (FitsSigned w64)) (take_all i xs over) all

pub list_all-fits : (vs : List ℤ) → AllByRecursion (FitsSigned w64) vs → list_all fits_i64 vs ≡ true
list_all-fits [] h = refl
list_all-fits (v ∷ vs) h = ap (λ b. b && list_all fits_i64 vs) (fits_i64-from v h.0) ∙ list_all-fits vs h.1

-- what the values say where all sums were taken
pub gives : (vs ds : List ℤ) → vs ≡ front_sums ds → AllByRecursion (FitsSigned w64) vs →
    (when (not (list_all fits_i64 (front_sums ds))) faults.SumTooLarge ≡ None) × Diff vs ds
gives vs ds e fit =
    let all : list_all fits_i64 (front_sums ds) ≡ true = ap (list_all fits_i64) (sym e) ∙ list_all-fits vs fit in
    (ap (λ b. when (not b) faults.SumTooLarge) all, Diff-from_sums vs ds e fit)

pub stops : (b : Bool) → b ≡ false → when (not b) faults.SumTooLarge ≡ Some faults.SumTooLarge
stops b e = ap (λ c. when (not c) faults.SumTooLarge) e

-- there are as many numbers as differences
differences_length : (before : ℤ) (vs : List ℤ) → length (differences_from before vs) ≡ length vs
differences_length before [] = refl
differences_length before (v ∷ vs) =
    let rest : length (differences_from v vs) ≡ length vs = differences_length v vs in
    omega arith

pub Diff-as_long : (vs ds : List ℤ) → Diff vs ds → length vs ≡ length ds
Diff-as_long vs ds h = sym (differences_length (pos 0) vs) ∙ ap length h.are
