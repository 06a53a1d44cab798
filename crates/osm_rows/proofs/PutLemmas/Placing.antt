-- The rows of the elements of one blob, one after the other.
use Rattle.std.proofs.Common.{◌≡◌, ℕ, suc, ◌+◌, ◌<◌, List, [], ◌∷◌, ◌++◌, length, map, take, get_or, sym, ap, subst, ◌∙◌, arith}
use Rattle.std.specs.List.{AllByRecursion}
use Rattle.std.proofs.Math.Seq.{take-suc}
use Rattle.std.specs.Prelude.{flat_map}
use Rattle.std.proofs.Common.{append-nil, append_assoc}
use Rattle.std.proofs.lemmas.List.{map-append, length-take}
use Rattle.std.proofs.lemmas.List.Concat.{flat_map-append}
use Rattle.sqlite.specs.Order.{Row}
use Rattle.sqlite_trees.proofs.ListLemmas.{all-append}
use Rattle.osm_value.specs.declared.element.Element.{Element}
use Rattle.osm_rows.specs.Rows.{Placed, placed}
use Rattle.osm_rows.specs.TableRows.{Part, parts}

pub placed-append : (off position : ℕ) (es more : List Element) → placed off position (es ++ more) ≡ placed off position es ++ placed off (position + length es) more
placed-append off position [] more = ap (λ n. placed off n more) (let it : position ≡ position + 0 = omega arith in it)
placed-append off position (x ∷ es) more =
    ap (λ ps. (off, position, x) ∷ ps) (placed-append off (position + 1) es more ∙ ap (λ n. placed off (position + 1) es ++ placed off n more) (let it : position + 1 + length es ≡ position + suc (length es) = omega arith in it))

taken : (es : List Element) (at : ℕ) (e : Element) → at < length es → e ≡ get_or es at e → take (at + 1) es ≡ take at es ++ e ∷ []
taken es at e low is =
    let next : at + 1 ≡ suc at = omega arith in
    ap (λ n. take n es) next ∙ take-suc es at e low ∙ ap (λ x. take at es ++ x ∷ []) (sym is)

pub all_more : (P : Element → Type 0) (es : List Element) (at : ℕ) (e : Element) → at < length es → e ≡ get_or es at e → AllByRecursion P (take at es) → P e → AllByRecursion P (take (at + 1) es)
all_more P es at e low is before here = subst (AllByRecursion P) (sym (taken es at e low is)) (all-append P (take at es) (e ∷ []) before (here, tt))

-- ---- for any rows

pub next_taken : {X : Type 0} (xs : List X) (at : ℕ) (x : X) → at < length xs → x ≡ get_or xs at x → take (at + 1) xs ≡ take at xs ++ x ∷ []
next_taken xs at x low is =
    let next : at + 1 ≡ suc at = omega arith in
    ap (λ n. take n xs) next ∙ take-suc xs at x low ∙ ap (λ x. take at xs ++ x ∷ []) (sym is)

pub placed_more : (off first : ℕ) (es : List Element) (at : ℕ) (e : Element) → at < length es → e ≡ get_or es at e → placed off first (take (at + 1) es) ≡ placed off first (take at es) ++ (off, first + at, e) ∷ []
placed_more off first es at e low is =
    let n : first + length (take at es) ≡ first + at = omega (arith, length-take at es) in
    ap (placed off first) (taken es at e low is) ∙ placed-append off first (take at es) (e ∷ []) ∙ ap (λ n. placed off first (take at es) ++ (off, n, e) ∷ []) n

pub rows_more : {R : Type 0} (row : Placed → R) (off first : ℕ) (es : List Element) (at : ℕ) (e : Element) → at < length es → e ≡ get_or es at e
    → map row (placed off first (take (at + 1) es)) ≡ map row (placed off first (take at es)) ++ row (off, first + at, e) ∷ []
rows_more row off first es at e low is = ap (map row) (placed_more off first es at e low is) ∙ map-append row (placed off first (take at es)) ((off, first + at, e) ∷ [])

-- the same from the first position on
pub first_rows_more : {R : Type 0} (row : Placed → R) (off : ℕ) (es : List Element) (at : ℕ) (e : Element) → at < length es → e ≡ get_or es at e
    → map row (placed off 0 (take (at + 1) es)) ≡ map row (placed off 0 (take at es)) ++ row (off, at, e) ∷ []
first_rows_more row off es at e low is = rows_more row off 0 es at e low is ∙ ap (λ n. map row (placed off 0 (take at es)) ++ row (off, n, e) ∷ []) (let it : 0 + at ≡ at = omega arith in it)

-- the rows of several elements, of which each may have any number
pub flat_more : {R : Type 0} (rows : Placed → List R) (off first : ℕ) (es : List Element) (at : ℕ) (e : Element) → at < length es → e ≡ get_or es at e
    → flat_map rows (placed off first (take (at + 1) es)) ≡ flat_map rows (placed off first (take at es)) ++ rows (off, first + at, e)
flat_more rows off first es at e low is =
    ap (flat_map rows) (placed_more off first es at e low is) ∙ flat_map-append rows (placed off first (take at es)) ((off, first + at, e) ∷ []) ∙ ap (λ l. flat_map rows (placed off first (take at es)) ++ l) (append-nil (rows (off, first + at, e)))

pub parts-append : {A : Type 0} (off position number : ℕ) (xs : List A) (x : A) → parts off position number (xs ++ x ∷ []) ≡ parts off position number xs ++ record { off = off; position = position; number = number + length xs; item = x } ∷ []
parts-append off position number [] x = ap (λ n. record { off = off; position = position; number = n; item = x } ∷ []) (let it : number ≡ number + 0 = omega arith in it)
parts-append {A} off position number (y ∷ xs) x =
    let here : Part A = record { off = off; position = position; number = number; item = y } in
    let last : ℕ → Part A = λ n. record { off = off; position = position; number = n; item = x } in
    ap (λ ps. here ∷ ps) (parts-append off position (number + 1) xs x ∙ ap (λ n. parts off position (number + 1) xs ++ last n ∷ []) (let it : number + 1 + length xs ≡ number + suc (length xs) = omega arith in it))

-- a row for one part more is added
pub one_part_more : {N A : Type 0} (columns : N → Row) (row : Part A → Row) (off position : ℕ) (before after : List A) (a : A) (at : ℕ) → after ≡ before ++ a ∷ [] → length before ≡ at
    → (old rows news : List N) (n : N) → news ≡ rows ++ n ∷ [] → map columns rows ≡ map columns old ++ map row (parts off position 0 before) → columns n ≡ row (record { off = off; position = position; number = at; item = a })
    → map columns news ≡ map columns old ++ map row (parts off position 0 after)
one_part_more {N} {A} columns row off position before after a at more count old rows news n added so_far is =
    let last : ℕ → Part A = λ n. record { off = off; position = position; number = n; item = a } in
    let grown : parts off position 0 after ≡ parts off position 0 before ++ last at ∷ [] =
    ap (parts off position 0) more ∙ parts-append off position 0 before a ∙ ap (λ n. parts off position 0 before ++ last n ∷ []) (let it : 0 + length before ≡ at = omega (arith, count) in it) in
    ap (map columns) added ∙ map-append columns rows (n ∷ []) ∙ ap (λ l. l ++ columns n ∷ []) so_far ∙ ap (λ r. (map columns old ++ map row (parts off position 0 before)) ++ r ∷ []) is
    ∙ append_assoc (map columns old) (map row (parts off position 0 before)) (row (last at) ∷ [])
    ∙ ap (λ l. map columns old ++ l) (sym (map-append row (parts off position 0 before) (last at ∷ [])) ∙ ap (map row) (sym grown))
