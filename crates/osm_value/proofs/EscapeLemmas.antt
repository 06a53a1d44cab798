-- A text with its escapes, written in runs of bytes that stand as they are.
use Rattle.std.proofs.Common.{◌≡◌, ℕ, zero, suc, ◌+◌, ◌-◌, ◌<◌, ◌≤◌, List, [], ◌∷◌, ◌++◌, length, take, drop, get_or, true, false, cond, sym, ap, ◌∙◌, arith, append_assoc, add-zero, ◌/◌, ◌%◌}
use Rattle.std.proofs.lemmas.List.{take_more, take_all, append-nil, get_or-drop, length-drop}
use Rattle.std.proofs.lemmas.List.Concat.{flat_map-append}
use Rattle.osm_value.specs.Escape.{escape, escaped, is_escaped, hex_digit}

as_it_is : (b : ℕ) → is_escaped b ≡ false → escape b ≡ b ∷ []
as_it_is b e = ap (λ t. cond t (37 ∷ hex_digit (b / 16) ∷ hex_digit (b % 16) ∷ []) (b ∷ [])) e

pub escape-is : (b : ℕ) → is_escaped b ≡ true → escape b ≡ 37 ∷ hex_digit (b / 16) ∷ hex_digit (b % 16) ∷ []
escape-is b e = ap (λ t. cond t (37 ∷ hex_digit (b / 16) ∷ hex_digit (b % 16) ∷ []) (b ∷ [])) e

escaped-more : (bs : List ℕ) (i : ℕ) → i < length bs → escaped (take (i + 1) bs) ≡ escaped (take i bs) ++ escape (get_or bs i 0)
escaped-more bs i h = ap escaped (take_more bs i 0 h) ∙ flat_map-append escape (take i bs) (get_or bs i 0 ∷ []) ∙ ap (λ l. escaped (take i bs) ++ l) (append-nil (escape (get_or bs i 0)))

-- n bytes from a place on that stand as they are
escaped_run : (bs : List ℕ) (from n : ℕ) → from + n ≤ length bs → ((k : ℕ) → from ≤ k → k < from + n → is_escaped (get_or bs k 0) ≡ false) →
    escaped (take (from + n) bs) ≡ escaped (take from bs) ++ take n (drop from bs)
escaped_run bs from zero fits plain = ap (λ m. escaped (take m bs)) (add-zero from) ∙ sym (append-nil _)
escaped_run bs from (suc n) fits plain =
    let one_more : from + suc n ≡ (from + n) + 1 = omega arith in
    let inside : from + n < length bs = omega arith in
    let below : from + n ≤ length bs = omega arith in
    let inside_rest : n < length (drop from bs) = omega (arith, length-drop from bs) in
    let before : escaped (take (from + n) bs) ≡ escaped (take from bs) ++ take n (drop from bs) = escaped_run bs from n below (λ k low high. plain k low (omega arith)) in
    let b : ℕ = get_or bs (from + n) 0 in
    let here : escape b ≡ b ∷ [] = as_it_is b (plain (from + n) (omega arith) (omega arith)) in
    let grown : take (n + 1) (drop from bs) ≡ take n (drop from bs) ++ get_or (drop from bs) n 0 ∷ [] = take_more (drop from bs) n 0 inside_rest in
    let same : get_or (drop from bs) n 0 ≡ b = get_or-drop from bs n 0 in
    let more_is : suc n ≡ n + 1 = omega arith in
    let suc_is : take (suc n) (drop from bs) ≡ take (n + 1) (drop from bs) = ap (λ m. take m (drop from bs)) more_is in
    ap (λ m. escaped (take m bs)) one_more
    ∙ escaped-more bs (from + n) inside
    ∙ ap (λ l. l ++ escape b) before
    ∙ append_assoc (escaped (take from bs)) (take n (drop from bs)) (escape b)
    ∙ ap (λ l. escaped (take from bs) ++ (take n (drop from bs) ++ l)) (here ∙ ap (λ x. x ∷ []) (sym same))
    ∙ ap (λ l. escaped (take from bs) ++ l) (sym grown ∙ sym suc_is)

-- the bytes from a place up to another
pub escaped_up_to : (bs : List ℕ) (from to : ℕ) → from ≤ to → to ≤ length bs → ((k : ℕ) → from ≤ k → k < to → is_escaped (get_or bs k 0) ≡ false) →
    escaped (take to bs) ≡ escaped (take from bs) ++ take (to - from) (drop from bs)
escaped_up_to bs from to order fits plain =
    let sum : from + (to - from) ≡ to = omega arith in
    let within : from + (to - from) ≤ length bs = omega arith in
    sym (ap (λ m. escaped (take m bs)) sum) ∙ escaped_run bs from (to - from) within (λ k low high. plain k low (omega arith))

-- and a byte that is escaped
pub escaped_through : (bs : List ℕ) (from at : ℕ) → from ≤ at → at < length bs → ((k : ℕ) → from ≤ k → k < at → is_escaped (get_or bs k 0) ≡ false) → is_escaped (get_or bs at 0) ≡ true →
    escaped (take (at + 1) bs) ≡ (escaped (take from bs) ++ take (at - from) (drop from bs)) ++ 37 ∷ hex_digit (get_or bs at 0 / 16) ∷ hex_digit (get_or bs at 0 % 16) ∷ []
escaped_through bs from at order inside plain here =
    let fits : at ≤ length bs = omega arith in
    escaped-more bs at inside ∙ ap (λ l. l ++ escape (get_or bs at 0)) (escaped_up_to bs from at order fits plain) ∙ ap (λ l. (escaped (take from bs) ++ take (at - from) (drop from bs)) ++ l) (escape-is (get_or bs at 0) here)

-- the whole text, from a place on as it is
pub escaped_whole : (bs : List ℕ) (from : ℕ) → from ≤ length bs → ((k : ℕ) → from ≤ k → k < length bs → is_escaped (get_or bs k 0) ≡ false) →
    escaped bs ≡ escaped (take from bs) ++ take (length bs - from) (drop from bs)
escaped_whole bs from order plain = sym (ap escaped (take_all (length bs) bs (omega arith))) ∙ escaped_up_to bs from (length bs) order (omega arith) plain

-- ---- what is written, in the loop and at its end

pub put_text-step : (before bs : List ℕ) (from at h l : ℕ) → from ≤ at → at < length bs → ((k : ℕ) → from ≤ k → k < at → is_escaped (get_or bs k 0) ≡ false) → is_escaped (get_or bs at 0) ≡ true →
    h ≡ hex_digit (get_or bs at 0 / 16) → l ≡ hex_digit (get_or bs at 0 % 16) →
    ((before ++ escaped (take from bs)) ++ take (at - from) (drop from bs)) ++ 37 ∷ h ∷ l ∷ [] ≡ before ++ escaped (take (at + 1) bs)
put_text-step before bs from at h l order inside plain here high low =
    let e : List ℕ = escaped (take from bs) in
    let r : List ℕ = take (at - from) (drop from bs) in
    let digits : 37 ∷ h ∷ l ∷ [] ≡ 37 ∷ hex_digit (get_or bs at 0 / 16) ∷ hex_digit (get_or bs at 0 % 16) ∷ [] = cc in
    ap (λ t. ((before ++ e) ++ r) ++ t) digits
    ∙ ap (λ t. t ++ 37 ∷ hex_digit (get_or bs at 0 / 16) ∷ hex_digit (get_or bs at 0 % 16) ∷ []) (append_assoc before e r)
    ∙ append_assoc before (e ++ r) _
    ∙ sym (ap (λ t. before ++ t) (escaped_through bs from at order inside plain here))

pub put_text-end : (before bs : List ℕ) (from at : ℕ) → from ≤ at → at ≤ length bs → length bs ≤ at → ((k : ℕ) → from ≤ k → k < at → is_escaped (get_or bs k 0) ≡ false) →
    (before ++ escaped (take from bs)) ++ take (length bs - from) (drop from bs) ≡ before ++ escaped bs
put_text-end before bs from at order inside over plain =
    append_assoc before (escaped (take from bs)) _
    ∙ sym (ap (λ t. before ++ t) (escaped_whole bs from (omega arith) (λ k low high. plain k low (omega arith))))
