-- What follows for the parts of elements: they ascend, and those of one element stand together.
use Rattle.std.proofs.Common.{◌≡◌, ◌⊎◌, inl, inr, ℕ, ◌+◌, ◌<◌, ◌≤◌, List, [], ◌∷◌, ◌++◌, map, refl, sym, ap, ap₂, subst, ◌∙◌, arith}
use Rattle.std.specs.Prelude.{flat_map}
use Rattle.std.specs.List.{AllByRecursion}
use Rattle.sqlite_trees.specs.Tree.{IsAscending}
use Rattle.sqlite_trees.proofs.ListLemmas.{all_weaker, all-append, ascending-append}
use Rattle.osm_rows.specs.Rows.{Placed}
use Rattle.osm_rows.specs.TableRows.{Part, parts}
use Rattle.osm_rows.proofs.MapLemmas.PlacedLaws.{IsBefore}

-- ---- lists within a list

module _ {E X : Type 0} (Before : E → E → Type 0) (Own : E → X → Type 0) (inner : E → List X) (own : (e : E) → AllByRecursion (Own e) (inner e)) where
  module _ (Low : X → X → Type 0) (rise : (e : E) → IsAscending Low (inner e)) (cross : (d e : E) (x y : X) → Before d e → Own d x → Own e y → Low x y) where
    below_all : (d : E) (x : X) → Own d x → (es : List E) → AllByRecursion (Before d) es → AllByRecursion (Low x) (flat_map inner es)
    below_all d x is [] h = tt
    below_all d x is (e ∷ es) h = all-append (Low x) (inner e) (flat_map inner es) (all_weaker _ _ (λ y p. cross d e x y h.0 is p) (inner e) (own e)) (below_all d x is es h.1)

    pub flat_rise : (es : List E) → IsAscending Before es → IsAscending Low (flat_map inner es)
    flat_rise [] up = tt
    flat_rise (e ∷ es) up = ascending-append Low (inner e) (flat_map inner es) (rise e) (flat_rise es up.1) (all_weaker _ _ (λ x is. below_all e x is es up.0) (inner e) (own e))

  pub none_of : (d : E) (apart : (e : E) (y : X) → Before d e → Own e y → Own d y → ⊥) → (es : List E) → AllByRecursion (Before d) es → AllByRecursion (λ x. Own d x → ⊥) (flat_map inner es)
  none_of d apart [] h = tt
  none_of d apart (e ∷ es) h = all-append _ (inner e) (flat_map inner es) (all_weaker _ _ (λ y p. apart e y h.0 p) (inner e) (own e)) (none_of d apart es h.1)

-- two lists that each begin with what passes, and go on with what doesn't
pub same_fronts : {X : Type 0} (At : X → Type 0) (xs ys rest other : List X) → AllByRecursion At xs → AllByRecursion At ys → AllByRecursion (λ x. At x → ⊥) rest → AllByRecursion (λ x. At x → ⊥) other
    → xs ++ rest ≡ ys ++ other → (xs ≡ ys) × (rest ≡ other)
same_fronts At [] [] rest other hx hy nx ny is = (refl, is)
same_fronts At [] (y ∷ ys) rest other hx hy nx ny is = absurd ((subst (AllByRecursion (λ x. At x → ⊥)) is nx).0 hy.0)
same_fronts At (x ∷ xs) [] rest other hx hy nx ny is = absurd ((subst (AllByRecursion (λ x. At x → ⊥)) (sym is) ny).0 hx.0)
same_fronts At (x ∷ xs) (y ∷ ys) rest other hx hy nx ny is =
    let head : x ≡ y = cc in
    let tail : xs ++ rest ≡ ys ++ other = cc in
    let more = same_fronts At xs ys rest other hx.1 hy.1 nx ny tail in
    (ap₂ ◌∷◌ head more.0, more.1)

-- ---- parts

-- the part is one of the element at this place
abbrev pub IsAt : {A : Type 0} → Placed → Part A → Type 0
IsAt p x = (x.off ≡ p.0) × (x.position ≡ p.1)

-- by offset, position and number
abbrev pub IsPartBefore : {A : Type 0} → Part A → Part A → Type 0
IsPartBefore x y = (x.off < y.off) ⊎ ((x.off ≡ y.off) × ((x.position < y.position) ⊎ ((x.position ≡ y.position) × (x.number < y.number))))

module _ {A : Type 0} where
  numbered_from : (off position number : ℕ) (xs : List A) → AllByRecursion (λ (x : Part A). (x.off ≡ off) × (x.position ≡ position) × (number ≤ x.number)) (parts off position number xs)
  numbered_from off position number [] = tt
  numbered_from off position number (x ∷ xs) = ((refl, refl, omega arith), all_weaker _ _ (λ y h. (h.0, h.1, omega (arith, h.2))) _ (numbered_from off position (number + 1) xs))

  pub parts_own : (p : Placed) (number : ℕ) (xs : List A) → AllByRecursion (IsAt p) (parts p.0 p.1 number xs)
  parts_own p number xs = all_weaker _ _ (λ x h. (h.0, h.1)) _ (numbered_from p.0 p.1 number xs)

  pub parts_rise : (off position number : ℕ) (xs : List A) → IsAscending (λ (x y : Part A). IsPartBefore x y) (parts off position number xs)
  parts_rise off position number [] = tt
  parts_rise off position number (x ∷ xs) = (all_weaker _ _ (λ y h. inr (sym h.0, inr (sym h.1, omega (arith, h.2)))) _ (numbered_from off position (number + 1) xs), parts_rise off position (number + 1) xs)

  pub items_of : (off position number : ℕ) (xs : List A) → map (λ (x : Part A). x.item) (parts off position number xs) ≡ xs
  items_of off position number [] = refl
  items_of off position number (x ∷ xs) = ap (λ l. x ∷ l) (items_of off position (number + 1) xs)

  -- parts of an earlier element come first
  pub parts_cross : (p q : Placed) (x y : Part A) → IsBefore p q → IsAt p x → IsAt q y → IsPartBefore x y
  parts_cross p q x y (inl low) here there = inl (omega (arith, low, here.0, there.0))
  parts_cross p q x y (inr h) here there = inr (here.0 ∙ h.0 ∙ sym there.0, inl (omega (arith, h.1, here.1, there.1)))

  pub parts_apart : (p q : Placed) (y : Part A) → IsBefore p q → IsAt q y → IsAt p y → ⊥
  parts_apart p q y (inl low) there here = omega (arith, low, here.0, there.0)
  parts_apart p q y (inr h) there here = omega (arith, h.1, here.1, there.1)

  module _ (items : Placed → List A) where
    abbrev pub parts_in : Placed → List (Part A)
    parts_in p = parts p.0 p.1 0 (items p)

    -- the parts of elements that ascend
    pub all_parts_rise : (ps : List Placed) → IsAscending IsBefore ps → IsAscending (λ (x y : Part A). IsPartBefore x y) (flat_map parts_in ps)
    all_parts_rise ps up = flat_rise IsBefore IsAt parts_in (λ p. parts_own p 0 (items p)) (λ x y. IsPartBefore x y) (λ p. parts_rise p.0 p.1 0 (items p)) parts_cross ps up

    -- those of the first element, and those of the others
    pub first_parts : (p q : Placed) (ps qs : List Placed) → p.0 ≡ q.0 → p.1 ≡ q.1 → AllByRecursion (IsBefore p) ps → AllByRecursion (IsBefore q) qs
        → flat_map parts_in (p ∷ ps) ≡ flat_map parts_in (q ∷ qs) → (items p ≡ items q) × (flat_map parts_in ps ≡ flat_map parts_in qs)
    first_parts p q ps qs off position after later is =
        let here = parts_own p 0 (items p) in
        let there = all_weaker _ _ (λ x h. (h.0 ∙ sym off, h.1 ∙ sym position)) _ (parts_own q 0 (items q)) in
        let none = none_of IsBefore IsAt parts_in (λ p. parts_own p 0 (items p)) p (λ e y. parts_apart p e y) ps after in
        let none_too = all_weaker _ _ (λ x f h. f (h.0 ∙ off, h.1 ∙ position)) _ (none_of IsBefore IsAt parts_in (λ p. parts_own p 0 (items p)) q (λ e y. parts_apart q e y) qs later) in
        let both = same_fronts (IsAt p) (parts_in p) (parts_in q) (flat_map parts_in ps) (flat_map parts_in qs) here there none none_too is in
        (sym (items_of p.0 p.1 0 (items p)) ∙ ap (map (λ (x : Part A). x.item)) both.0 ∙ items_of q.0 q.1 0 (items q), both.1)
