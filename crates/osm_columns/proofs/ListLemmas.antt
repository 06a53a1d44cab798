-- Lists that are joined, one more at the end.
use Rattle.std.proofs.Common.{◌≡◌, ℕ, suc, ◌+◌, ◌<◌, ◌≤◌, List, [], ◌∷◌, ◌++◌, length, map, take, drop, get_or, refl, sym, ap, ◌∙◌, append-nil, arith}
use Rattle.std.proofs.lemmas.Grind.{flat_map-append}
use Rattle.std.proofs.lemmas.List.{map-append, length-map, take_more, length-append, take-append-drop, length-take-le}
use Rattle.osm_columns.specs.Lists.{joined, ends_from, ends_of}

pub joined-append : {A : Type 0} (lists more : List (List A)) → joined (lists ++ more) ≡ joined lists ++ joined more
joined-append lists more = flat_map-append (λ l. l) lists more

pub joined-more : {A : Type 0} (lists : List (List A)) (xs : List A) → joined (lists ++ xs ∷ []) ≡ joined lists ++ xs
joined-more lists xs = flat_map-append (λ l. l) lists (xs ∷ []) ∙ ap (λ l. joined lists ++ l) (append-nil xs)

sum : {A : Type 0} (at : ℕ) (ys zs xs : List A) → (at + length ys) + length zs + length xs ≡ at + length (ys ++ zs) + length xs
sum at ys zs xs = let e : length (ys ++ zs) ≡ length ys + length zs = length-append ys zs in omega arith

pub ends-more : {A : Type 0} (at : ℕ) (lists : List (List A)) (xs : List A) → ends_from at (lists ++ xs ∷ []) ≡ ends_from at lists ++ (at + length (joined lists) + length xs) ∷ []
ends-more at [] xs = ap (λ n. n ∷ []) (omega arith)
ends-more at (ys ∷ lists) xs =
    ap (λ l. (at + length ys) ∷ l) (ends-more (at + length ys) lists xs ∙ ap (λ n. ends_from (at + length ys) lists ++ n ∷ []) (sum at ys (joined lists) xs))

pub length-ends : {A : Type 0} (at : ℕ) (lists : List (List A)) → length (ends_from at lists) ≡ length lists
length-ends at [] = refl
length-ends at (xs ∷ lists) = ap suc (length-ends (at + length xs) lists)

-- what is mapped of one more item
pub mapped-more : {A B : Type 0} (f : A → B) (xs : List A) (x : A) → map f xs ++ f x ∷ [] ≡ map f (xs ++ x ∷ [])
mapped-more f xs x = sym (map-append f xs (x ∷ []))

-- and of one more of those before an index
pub mapped-next : {A B : Type 0} (f : A → B) (xs : List A) (i : ℕ) (x d : A) → i < length xs → x ≡ get_or xs i d → map f (take i xs) ++ f x ∷ [] ≡ map f (take (i + 1) xs)
mapped-next f xs i x d h is = mapped-more f (take i xs) x ∙ ap (λ y. map f (take i xs ++ y ∷ [])) is ∙ sym (ap (map f) (take_more xs i d h))

pub taken-next : {A : Type 0} (xs : List A) (i : ℕ) (x d : A) → i < length xs → x ≡ get_or xs i d → take i xs ++ x ∷ [] ≡ take (i + 1) xs
taken-next xs i x d h is = ap (λ y. take i xs ++ y ∷ []) is ∙ sym (take_more xs i d h)

-- a loop over items that have lists, at the next item: its list, and how many items those before it have
pub record IsNext {A B : Type 0} (f : A → List B) (xs : List A) (i : ℕ) (x : A) (items : List B) (end : ℕ) : Type 0 where
  pub within : i < length xs
  pub default : A
  pub is : x ≡ get_or xs i default
  pub items_are : items ≡ f x
  pub end_is : end ≡ length (joined (map f (take i xs)))

pub next-joined : {A B : Type 0} (f : A → List B) (xs : List A) (i : ℕ) (x : A) (items : List B) (end : ℕ) → IsNext f xs i x items end → joined (map f (take i xs)) ++ items ≡ joined (map f (take (i + 1) xs))
next-joined f xs i x items end n =
    ap (λ l. joined (map f (take i xs)) ++ l) n.items_are
    ∙ sym (joined-more (map f (take i xs)) (f x))
    ∙ ap joined (mapped-next f xs i x n.default n.within n.is)

pub next-end : {A B : Type 0} (f : A → List B) (xs : List A) (i : ℕ) (x : A) (items : List B) (end : ℕ) → IsNext f xs i x items end → end + length items ≡ length (joined (map f (take (i + 1) xs)))
next-end f xs i x items end n =
    ap (λ k. k + length items) n.end_is
    ∙ sym (length-append (joined (map f (take i xs))) items)
    ∙ ap length (next-joined f xs i x items end n)

pub next-ends : {A B : Type 0} (f : A → List B) (xs : List A) (i : ℕ) (x : A) (items : List B) (end : ℕ) → IsNext f xs i x items end → ends_of (map f (take i xs)) ++ (end + length items) ∷ [] ≡ ends_of (map f (take (i + 1) xs))
next-ends f xs i x items end n =
    let count : length items ≡ length (f x) = ap length n.items_are in
    let before : end ≡ length (joined (map f (take i xs))) = n.end_is in
    let sum : end + length items ≡ 0 + length (joined (map f (take i xs))) + length (f x) = omega arith in
    ap (λ k. ends_of (map f (take i xs)) ++ k ∷ []) sum
    ∙ sym (ends-more 0 (map f (take i xs)) (f x))
    ∙ ap ends_of (mapped-next f xs i x n.default n.within n.is)

-- those of the first items are no more than those of all
pub count-front : {A B : Type 0} (f : A → List B) (xs : List A) (i : ℕ) → length (joined (map f (take i xs))) ≤ length (joined (map f xs))
count-front f xs i =
    let parts : joined (map f xs) ≡ joined (map f (take i xs)) ++ joined (map f (drop i xs)) =
    ap (λ l. joined (map f l)) (sym (take-append-drop i xs)) ∙ ap joined (map-append f (take i xs) (drop i xs)) ∙ joined-append (map f (take i xs)) (map f (drop i xs)) in
    let sums : length (joined (map f xs)) ≡ length (joined (map f (take i xs))) + length (joined (map f (drop i xs))) =
    ap length parts ∙ length-append (joined (map f (take i xs))) (joined (map f (drop i xs))) in
    omega arith

pub next-fits : {A B : Type 0} (f : A → List B) (xs : List A) (i : ℕ) (x : A) (items : List B) (end : ℕ) → IsNext f xs i x items end → end + length items ≤ length (joined (map f xs))
next-fits f xs i x items end n =
    let e : end + length items ≡ length (joined (map f (take (i + 1) xs))) = next-end f xs i x items end n in
    let le : length (joined (map f (take (i + 1) xs))) ≤ length (joined (map f xs)) = count-front f xs (i + 1) in
    omega arith

-- how many ends there are before an index
pub ends-before : {A B : Type 0} (f : A → List B) (xs : List A) (i : ℕ) → i ≤ length xs → length (ends_of (map f (take i xs))) ≡ i
ends-before f xs i h = length-ends 0 (map f (take i xs)) ∙ length-map (take i xs) f ∙ length-take-le i xs h
