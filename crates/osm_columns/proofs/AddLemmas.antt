-- Items behind a column, and more behind these.
use Rattle.std.proofs.Common.{◌≡◌, ℕ, ◌+◌, ◌<◌, List, [], ◌∷◌, ◌++◌, length, map, take, get_or, refl, sym, ap, ◌∙◌, append_assoc, append-nil, arith}
use Rattle.std.proofs.lemmas.List.{length-append, length-map, length-take-le}
use Rattle.osm_columns.specs.Columns.{over, Adds}
use Rattle.osm_columns.proofs.ListLemmas.{mapped-next}

pub adds-none : {A : Type 0} (at : ℕ) (array : List A) → Adds at [] array array
adds-none at array = λ front before e n. e ∙ ap (λ l. over l before) (sym (append-nil front))

pub adds-twice : {A : Type 0} (at next : ℕ) (xs ys a b c : List A) → Adds at xs a b → Adds next ys b c → next ≡ at + length xs → Adds at (xs ++ ys) a c
adds-twice at next xs ys a b c h k is = λ front before e n.
    let count : length (front ++ xs) ≡ length front + length xs = length-append front xs in
    let behind : length (front ++ xs) ≡ next = omega arith in
    k (front ++ xs) before (h front before e n) behind ∙ ap (λ l. over l before) (append_assoc front xs ys)

pub adds-same : {A : Type 0} (at : ℕ) (xs ys a b : List A) → xs ≡ ys → Adds at xs a b → Adds at ys a b
adds-same at xs ys a b e h = λ front before is n. h front before is n ∙ ap (λ l. over (front ++ l) before) e

-- what is mapped of one more item
pub adds-next : {A B : Type 0} (f : A → B) (xs : List A) (i at next : ℕ) (x d : A) (y : B) (a b c : List B) → i < length xs → x ≡ get_or xs i d → y ≡ f x →
    Adds at (map f (take i xs)) a b → Adds next (y ∷ []) b c → next ≡ at + i → Adds at (map f (take (i + 1) xs)) a c
adds-next f xs i at next x d y a b c within is value h k place =
    let count : length (map f (take i xs)) ≡ length (take i xs) = length-map (take i xs) f in
    let front : length (take i xs) ≡ i = length-take-le i xs (omega arith) in
    let behind : next ≡ at + length (map f (take i xs)) = omega arith in
    adds-same at _ _ a c (ap (λ z. map f (take i xs) ++ z ∷ []) value ∙ mapped-next f xs i x d within is) (adds-twice at next _ _ a b c h k behind)

-- behind a column that begins at the front of the array
pub adds-behind : {A : Type 0} (next : ℕ) (xs ys zs a b c : List A) → Adds 0 xs a b → Adds next ys b c → length xs ≡ next → zs ≡ xs ++ ys → Adds 0 zs a c
adds-behind next xs ys zs a b c h k is parts = adds-same 0 (xs ++ ys) zs a c (sym parts) (adds-twice 0 next xs ys a b c h k (omega arith))

-- a list that is empty, or isn't
pub none-or-some : {A B : Type 0} (xs : List B) (at : ℕ) (ys a b : List A) → (length xs ≡ 0 → Adds at ys a b) → (0 < length xs → Adds at ys a b) → Adds at ys a b
none-or-some [] at ys a b none some = none refl
none-or-some (x ∷ xs) at ys a b none some = some (omega arith)
