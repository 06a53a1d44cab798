-- The first group, counted from the front.
use Rattle.std.proofs.Common.{◌≡◌, ℕ, suc, ◌+◌, ◌<◌, List, [], ◌∷◌, length, take, drop, refl, ap, Bool, true, false, if◌then◌else◌, arith, ◌∙◌, sym, get_or}
use Rattle.std.proofs.lemmas.List.{drop_more, drop_all}
use Rattle.osm_value.specs.declared.element.Element.{Element}
use Rattle.osm_write.specs.Canon.{fit_together, put_before, groups_of}
use Rattle.osm_write.specs.Runs.{first_run}

-- the groups of a list that isn't empty: the first, and those of the rest
pub groups_run : (e : Element) (es : List Element) → groups_of (e ∷ es) ≡ take (first_run (e ∷ es)) (e ∷ es) ∷ groups_of (drop (first_run (e ∷ es)) (e ∷ es))
groups_run e [] = refl
groups_run e (f ∷ es) = by (first_run (f ∷ es)) (starts f es) (groups_run f es)
  where
    -- the first run isn't empty
    starts : (g : Element) (gs : List Element) → (n : ℕ) × (first_run (g ∷ gs) ≡ suc n)
    starts g [] = (0, refl)
    starts g (h ∷ gs) = pick (fit_together g h) (first_run (h ∷ gs))
      where
        pick : (b : Bool) (k : ℕ) → (n : ℕ) × ((if b then suc k else 1) ≡ suc n)
        pick true k = (k, refl)
        pick false k = (0, refl)

    choose : (b : Bool) (n : ℕ) → (if b then (e ∷ f ∷ take n es) ∷ groups_of (drop n es) else (e ∷ []) ∷ (f ∷ take n es) ∷ groups_of (drop n es))
        ≡ take (if b then suc (suc n) else 1) (e ∷ f ∷ es) ∷ (if b then groups_of (drop n es) else (f ∷ take n es) ∷ groups_of (drop n es))
    choose true n = refl
    choose false n = refl

    last : (b : Bool) (n : ℕ) → groups_of (f ∷ es) ≡ (f ∷ take n es) ∷ groups_of (drop n es)
        → (if b then groups_of (drop n es) else (f ∷ take n es) ∷ groups_of (drop n es)) ≡ groups_of (drop (if b then suc (suc n) else 1) (e ∷ f ∷ es))
    last true n h = refl
    last false n h = sym h

    by : (k : ℕ) → (n : ℕ) × (k ≡ suc n) → groups_of (f ∷ es) ≡ take k (f ∷ es) ∷ groups_of (drop k (f ∷ es))
        → put_before e (groups_of (f ∷ es)) ≡ take (if fit_together e f then suc k else 1) (e ∷ f ∷ es) ∷ groups_of (drop (if fit_together e f then suc k else 1) (e ∷ f ∷ es))
    by k s h =
        let is : groups_of (f ∷ es) ≡ (f ∷ take s.0 es) ∷ groups_of (drop s.0 es) = (let m = rw s.1 at h in m) in
        rw (s.1, is) (choose (fit_together e f) s.0 ∙ ap (λ gs. take (if fit_together e f then suc (suc s.0) else 1) (e ∷ f ∷ es) ∷ gs) (last (fit_together e f) s.0 is))

pub run_more : (xs : List Element) (i : ℕ) (e f : Element) → i + 1 < length xs → e ≡ get_or xs i e → f ≡ get_or xs (i + 1) f → (b : Bool) → fit_together e f ≡ b
    → first_run (drop i xs) ≡ (if b then suc (first_run (drop (i + 1) xs)) else 1)
run_more xs i e f within is_e is_f b fit =
    let one : drop i xs ≡ e ∷ drop (i + 1) xs = drop_more xs i e (omega arith) ∙ ap (λ x. x ∷ drop (i + 1) xs) (sym is_e) in
    let two : drop (i + 1) xs ≡ f ∷ drop (i + 1 + 1) xs = drop_more xs (i + 1) f within ∙ ap (λ x. x ∷ drop (i + 1 + 1) xs) (sym is_f) in
    rw (one, two, fit) refl

pub run_last : (xs : List Element) (i : ℕ) → i + 1 ≡ length xs → first_run (drop i xs) ≡ 1
run_last [] i e = absurd (omega arith)
run_last (x ∷ xs) i e =
    let end : drop (i + 1) (x ∷ xs) ≡ [] = drop_all (i + 1) (x ∷ xs) (omega arith) in
    rw (drop_more (x ∷ xs) i x (omega arith), end) refl

pub groups_of_run : (xs : List Element) (n : ℕ) → 0 < length xs → first_run xs ≡ n → groups_of xs ≡ take n xs ∷ groups_of (drop n xs)
groups_of_run [] n some e = absurd (omega arith)
groups_of_run (x ∷ xs) n some e = rw (← e) (groups_run x xs)
