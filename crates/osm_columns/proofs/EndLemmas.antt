-- Running sums of counts, and where lists end.
use Rattle.std.proofs.Common.{◌≡◌, ℕ, suc, ◌+◌, ◌<◌, ◌≤◌, List, [], ◌∷◌, ◌++◌, length, map, take, drop, get_or, sum, refl, sym, ap, ◌∙◌, arith}
use Rattle.std.proofs.lemmas.List.Sums.{sum_by-cons, sum_by-append}
use Rattle.std.proofs.lemmas.List.{length-append, length-map, length-take-le, map-append, take-append-drop}
use Rattle.osm_columns.specs.Lists.{joined, ends_from, sums_from}
use Rattle.osm_columns.specs.Columns.{Adds}
use Rattle.osm_columns.proofs.ListLemmas.{mapped-next}
use Rattle.osm_columns.proofs.AddLemmas.{adds-twice, adds-same}

sum-first : (x : ℕ) (xs : List ℕ) → sum (x ∷ xs) ≡ x + sum xs
sum-first x xs = sum_by-cons (λ y. y) x xs

pub sum-parts : (xs ys : List ℕ) → sum (xs ++ ys) ≡ sum xs + sum ys
sum-parts xs ys = sum_by-append (λ y. y) xs ys

pub sums-parts : (at : ℕ) (xs ys : List ℕ) → sums_from at (xs ++ ys) ≡ sums_from at xs ++ sums_from (at + sum xs) ys
sums-parts at [] ys = ap (λ k. sums_from k ys) (omega arith)
sums-parts at (x ∷ xs) ys =
    let first : sum (x ∷ xs) ≡ x + sum xs = sum-first x xs in
    let e : (at + x) + sum xs ≡ at + sum (x ∷ xs) = omega arith in
    ap (λ l. (at + x) ∷ l) (sums-parts (at + x) xs ys ∙ ap (λ k. sums_from (at + x) xs ++ sums_from k ys) e)

pub length-sums : (at : ℕ) (xs : List ℕ) → length (sums_from at xs) ≡ length xs
length-sums at [] = refl
length-sums at (x ∷ xs) = ap suc (length-sums (at + x) xs)

-- where lists end, by how long they are
pub ends-by-sums : {A B : Type 0} (f : A → List B) (at : ℕ) (xs : List A) → sums_from at (map (λ x. length (f x)) xs) ≡ ends_from at (map f xs)
ends-by-sums f at [] = refl
ends-by-sums f at (x ∷ xs) = ap (λ l. (at + length (f x)) ∷ l) (ends-by-sums f (at + length (f x)) xs)

pub joined-by-sum : {A B : Type 0} (f : A → List B) (xs : List A) → sum (map (λ x. length (f x)) xs) ≡ length (joined (map f xs))
joined-by-sum f [] = refl
joined-by-sum f (x ∷ xs) =
    let first : sum (length (f x) ∷ map (λ y. length (f y)) xs) ≡ length (f x) + sum (map (λ y. length (f y)) xs) = sum-first (length (f x)) (map (λ y. length (f y)) xs) in
    let e : sum (map (λ y. length (f y)) xs) ≡ length (joined (map f xs)) = joined-by-sum f xs in
    let parts : length (f x ++ joined (map f xs)) ≡ length (f x) + length (joined (map f xs)) = length-append (f x) (joined (map f xs)) in
    first ∙ ap (λ k. length (f x) + k) e ∙ sym parts

-- the sum of one count more
pub sum-next : {A : Type 0} (count : A → ℕ) (xs : List A) (i : ℕ) (x d : A) → i < length xs → x ≡ get_or xs i d → sum (map count (take (i + 1) xs)) ≡ sum (map count (take i xs)) + count x
sum-next count xs i x d within is =
    let last : sum (count x ∷ []) ≡ count x = omega arith in
    ap sum (sym (mapped-next count xs i x d within is)) ∙ sum-parts (map count (take i xs)) (count x ∷ []) ∙ ap (λ k. sum (map count (take i xs)) + k) last

-- the sum of the first counts is no more than that of all
pub sum-front : {A : Type 0} (count : A → ℕ) (xs : List A) (i : ℕ) → sum (map count (take i xs)) ≤ sum (map count xs)
sum-front count xs i =
    let parts : sum (map count xs) ≡ sum (map count (take i xs)) + sum (map count (drop i xs)) =
    ap (λ l. sum (map count l)) (sym (take-append-drop i xs)) ∙ ap sum (map-append count (take i xs) (drop i xs)) ∙ sum-parts (map count (take i xs)) (map count (drop i xs)) in
    omega arith

-- the column of ends, one longer
pub ends-next : {A : Type 0} (count : A → ℕ) (xs : List A) (i at end next last : ℕ) (x d : A) (a b c : List ℕ) → i < length xs → x ≡ get_or xs i d → last ≡ end + sum (map count (take i xs)) + count x →
    Adds at (sums_from end (map count (take i xs))) a b → Adds next (last ∷ []) b c → next ≡ at + i → Adds at (sums_from end (map count (take (i + 1) xs))) a c
ends-next count xs i at end next last x d a b c within is value h k place =
    let so_far : List ℕ = map count (take i xs) in
    let few : length (sums_from end so_far) ≡ length so_far = length-sums end so_far in
    let counts : length so_far ≡ length (take i xs) = length-map (take i xs) count in
    let front : length (take i xs) ≡ i = length-take-le i xs (omega arith) in
    let behind : next ≡ at + length (sums_from end so_far) = omega arith in
    adds-same at _ _ a c (ap (λ z. sums_from end so_far ++ z ∷ []) value ∙ sym (sums-parts end so_far (count x ∷ [])) ∙ ap (sums_from end) (mapped-next count xs i x d within is))
    (adds-twice at next _ _ a b c h k behind)

-- the sum of a group's counts fits behind those before it, where that of all does
pub counts-fit : {A : Type 0} (count : A → ℕ) (es front here behind : List A) (end n : ℕ) → es ≡ front ++ here ++ behind → sum (map count front) ≡ end → sum (map count es) < n → end + sum (map count here) < n
counts-fit count es front here behind end n parts so_far all =
    let two : sum (map count (front ++ here)) ≡ sum (map count front) + sum (map count here) = ap sum (map-append count front here) ∙ sum-parts (map count front) (map count here) in
    let three : sum (map count (front ++ here ++ behind)) ≡ sum (map count (front ++ here)) + sum (map count behind) = ap sum (map-append count (front ++ here) behind) ∙ sum-parts (map count (front ++ here)) (map count behind) in
    let same : sum (map count es) ≡ sum (map count (front ++ here ++ behind)) = ap (λ l. sum (map count l)) parts in
    omega arith
