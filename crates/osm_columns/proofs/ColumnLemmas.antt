-- A column in an array of a caller, one item longer.
use Rattle.std.proofs.Common.{◌≡◌, ℕ, ◌+◌, ◌-◌, ◌<◌, ◌≤◌, List, [], ◌∷◌, ◌++◌, length, drop, refl, sym, ap, ◌∙◌, append_assoc, arith}
use Rattle.std.proofs.Math.ListN.{set}
use Rattle.std.proofs.lemmas.List.{set-append_right, length-append, drop-drop}
use Rattle.osm_columns.specs.Columns.{over}

first-set : {A : Type 0} (ys : List A) (x : A) → 0 < length ys → set ys 0 x ≡ x ∷ drop 1 ys
first-set [] x h = absurd (omega arith)
first-set (y ∷ ys) x h = refl

pub put-one : {A : Type 0} (front before array : List A) (at : ℕ) (x : A) → array ≡ over front before → length front ≡ at → at < length array → set array at x ≡ over (front ++ x ∷ []) before
put-one front before array at x e n h =
    let rest : List _ = drop (length front) before in
    let whole : length array ≡ length front + length rest = ap length e ∙ length-append front rest in
    let some : 0 < length rest = omega arith in
    let le : at ≤ at = omega arith in
    let zero : at - at ≡ 0 = omega arith in
    let one : length (front ++ x ∷ []) ≡ length front + 1 = length-append front (x ∷ []) in
    ap (λ a. set a at x) e
    ∙ set-append_right front rest at at x n le
    ∙ ap (λ k. front ++ set rest k x) zero
    ∙ ap (λ l. front ++ l) (first-set rest x some)
    ∙ ap (λ l. front ++ x ∷ l) (drop-drop 1 (length front) before ∙ ap (λ k. drop k before) (sym one))
    ∙ sym (append_assoc front (x ∷ []) (drop (length (front ++ x ∷ [])) before))
