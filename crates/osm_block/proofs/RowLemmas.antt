-- The numbers of a packed payload, from an offset on.
use Rattle.std.proofs.Common.{◌≡◌, ℕ, zero, suc, ◌+◌, ◌-◌, ◌<◌, ◌≤◌, List, [], ◌∷◌, ◌++◌, length, map, take, drop, refl, sym, ap, ◌∙◌, arith, Result, Ok, Err}
use Rattle.std.proofs.Common.{get_or, set, true, cond, append-nil}
use Rattle.std.specs.Prelude.{nat_lt}
use Rattle.std.proofs.lemmas.Bool.Decides.{nat_tests}
use Rattle.std.specs.List.{AllByRecursion}
use Rattle.pbf_wire.specs.Readings.{front, first_fault}
use Rattle.std.proofs.Common.{append_assoc}
use Rattle.std.proofs.lemmas.List.{length-take, length-drop, length-set, drop-drop, drop_all, drop_more, take_more_set}
use Rattle.pbf_wire.specs.declared.fault.WireFault.{WireFault}
use Rattle.pbf_wire.specs.declared.fault.WireFaultKind.{WireFaultKind}
use Rattle.pbf_wire.specs.Fault.{placed}
use Rattle.pbf_wire.specs.Number.{number_at, number_within, high_part}
use Rattle.pbf_wire.specs.Readings.{number_and, row_within}

behind : (r : Result (ℕ × ℕ) WireFault) (f g : ℕ → List (Result ℕ WireFault)) → ((k : ℕ) → f k ≡ g k) → number_and r f ≡ number_and r g
behind (Ok n) f g e = ap (λ l. Ok n.0 ∷ l) (e n.1)
behind (Err x) f g e = refl

fuel : (n m at : ℕ) (v : List ℕ) → length v ≤ n → length v ≤ m → row_within n at v ≡ row_within m at v
unfolding row_within
fuel zero zero at v g h = refl
fuel zero (suc m) at [] g h = refl
fuel (suc n) zero at [] g h = refl
fuel zero (suc m) at (b ∷ bs) g h = absurd (omega arith)
fuel (suc n) zero at (b ∷ bs) g h = absurd (omega arith)
fuel (suc n) (suc m) at [] g h = refl
fuel (suc n) (suc m) at (b ∷ bs) g h =
    behind (placed at (number_at (b ∷ bs))) (λ len. row_within n (at + len) (drop (len - 1) bs)) (λ len. row_within m (at + len) (drop (len - 1) bs))
    (λ len. fuel n m (at + len) (drop (len - 1) bs) (omega (arith, length-drop (len - 1) bs)) (omega (arith, length-drop (len - 1) bs)))

-- from an offset on
abbrev pub row_from : ℕ → List ℕ → List (Result ℕ WireFault)
row_from at w = row_within (length (drop at w)) at (drop at w)

one_more : (v : List ℕ) (at n len : ℕ) → 0 < len → number_at v ≡ Ok (n, len) → row_within (length v) at v ≡ Ok n ∷ row_within (length (drop len v)) (at + len) (drop len v)
unfolding row_within number_at number_within
one_more [] at n len p e = absurd cc
one_more (b ∷ bs) at n zero p e = absurd (omega arith)
one_more (b ∷ bs) at n (suc k) p e =
    let less : suc k - 1 ≡ k = omega arith in
    ap (λ r. number_and (placed at r) (λ len. row_within (length bs) (at + len) (drop (len - 1) bs))) e
    ∙ ap (λ j. Ok n ∷ row_within (length bs) (at + suc k) (drop j bs)) less
    ∙ ap (λ l. Ok n ∷ l) (fuel (length bs) (length (drop k bs)) (at + suc k) (drop k bs) (omega (arith, length-drop k bs)) (omega arith))

stops : (v : List ℕ) (at : ℕ) (kind : WireFaultKind) → 0 < length v → number_at v ≡ Err kind → row_within (length v) at v ≡ Err (record { kind = kind; at = at }) ∷ []
unfolding row_within
stops [] at kind p e = absurd (omega arith)
stops (b ∷ bs) at kind p e = ap (λ r. number_and (placed at r) (λ len. row_within (length bs) (at + len) (drop (len - 1) bs))) e

placed_ok : {A : Type 0} (r : Result A WireFaultKind) (x : A) → Ok x ≡ placed 0 r → r ≡ Ok x
placed_ok (Ok y) x e = let h : x ≡ y = cc in cc
placed_ok (Err d) x e = absurd cc

placed_err : {A : Type 0} (r : Result A WireFaultKind) (fault : WireFault) → Err fault ≡ placed 0 r → r ≡ Err fault.kind
placed_err (Ok y) fault e = absurd cc
placed_err {A} (Err d) fault e =
    let h : fault ≡ record { kind = d; at = 0 } = cc in ap (λ (f : WireFault). Err f.kind) (sym h)

pub row_at_number : (at : ℕ) (w : List ℕ) (n len : ℕ) → 0 < len → Ok (n, len) ≡ placed 0 (number_at (drop at w)) → row_from at w ≡ Ok n ∷ row_from (at + len) w
row_at_number at w n len p e = one_more (drop at w) at n len p (placed_ok (number_at (drop at w)) (n, len) e) ∙ ap (λ l. Ok n ∷ row_within (length l) (at + len) l) (drop-drop len at w)

small : (b : ℕ) (bs : List ℕ) → nat_lt b 128 ≡ true → number_at (b ∷ bs) ≡ Ok (b, 1)
unfolding number_at number_within
small b bs h = ap (λ t. cond t (Ok (b, 1)) (high_part b (number_within 8 bs))) h

-- a number of one byte
pub row_at_byte : (at : ℕ) (w : List ℕ) → at < length w → get_or w at 0 < 128 → row_from at w ≡ Ok (get_or w at 0) ∷ row_from (at + 1) w
row_at_byte at w inside h =
    let b : ℕ = get_or w at 0 in
    let test : nat_lt b 128 ≡ true = grind (arith, nat_tests) in
    let first : drop at w ≡ b ∷ drop (at + 1) w = drop_more w at 0 inside in
    one_more (drop at w) at b 1 (omega arith) (ap number_at first ∙ small b (drop (at + 1) w) test) ∙ ap (λ l. Ok b ∷ row_within (length l) (at + 1) l) (drop-drop 1 at w)

pub row_at_fault : (at : ℕ) (w : List ℕ) (fault : WireFault) → at < length w → Err fault ≡ placed 0 (number_at (drop at w)) → row_from at w ≡ Err (record { kind = fault.kind; at = at }) ∷ []
row_at_fault at w fault p e = stops (drop at w) at fault.kind (omega (arith, length-drop at w)) (placed_err (number_at (drop at w)) fault e)

-- one more number was appended
pub grown : (old new total : List ℕ) (n : ℕ) (rest whole : List (Result ℕ WireFault)) → new ≡ old ++ n ∷ [] → whole ≡ Ok n ∷ rest → old ++ front whole ≡ total → new ++ front rest ≡ total
grown old new total n rest whole pushed e so_far =
    ap (λ l. l ++ front rest) pushed ∙ append_assoc old (n ∷ []) (front rest) ∙ sym (ap (λ r. old ++ front r) e) ∙ so_far

pub row_at_end : (at : ℕ) (w : List ℕ) → length w ≤ at → row_from at w ≡ []
unfolding row_within
row_at_end at w h = ap (λ l. row_within (length l) at l) (drop_all at w h)

-- ---- numbers of one byte, one behind the other

tail_of : (n m : ℕ) (ns ms : List ℕ) → n ∷ ns ≡ m ∷ ms → (n ≡ m) × (ns ≡ ms)
tail_of n m ns ms e = (let h : n ≡ m = cc in h, let t : ns ≡ ms = cc in t)

row_at_bytes : (ns : List ℕ) (at : ℕ) (w : List ℕ) → at + length ns ≤ length w → ns ≡ take (length ns) (drop at w) → AllByRecursion (λ n. n < 128) ns →
    row_from at w ≡ map Ok ns ++ row_from (at + length ns) w
row_at_bytes [] at w inside e small = let here : at ≡ at + 0 = omega arith in ap (λ k. row_from k w) here
row_at_bytes (n ∷ ns) at w inside e small =
    let b : ℕ = get_or w at 0 in
    let first : drop at w ≡ b ∷ drop (at + 1) w = drop_more w at 0 (omega arith) in
    let both : (n ≡ b) × (ns ≡ take (length ns) (drop (at + 1) w)) = tail_of n b ns _ (e ∙ ap (take (suc (length ns))) first) in
    let later : row_from (at + 1) w ≡ map Ok ns ++ row_from (at + 1 + length ns) w = row_at_bytes ns (at + 1) w (omega arith) both.1 small.1 in
    let place : at + 1 + length ns ≡ at + length (n ∷ ns) = omega arith in
    row_at_byte at w (omega arith) (omega (arith, both.0, small.0))
    ∙ ap (λ k. Ok k ∷ row_from (at + 1) w) (sym both.0)
    ∙ ap (λ l. Ok n ∷ l) (later ∙ ap (λ k. map Ok ns ++ row_from k w) place)

pub row_at_eight : (ns : List ℕ) (at : ℕ) (w : List ℕ) → 8 ≤ length (drop at w) → ns ≡ take 8 (drop at w) → AllByRecursion (λ n. n < 128) ns →
    row_from at w ≡ map Ok ns ++ row_from (at + 8) w
row_at_eight ns at w inside e small =
    let eight : length ns ≡ 8 = omega (arith, ap length e, length-take 8 (drop at w)) in
    row_at_bytes ns at w (omega (arith, length-drop at w)) (e ∙ ap (λ k. take k (drop at w)) (sym eight)) small
    ∙ ap (λ k. map Ok ns ++ row_from (at + k) w) eight

front_behind : (ns : List ℕ) (rest : List (Result ℕ WireFault)) → front (map Ok ns ++ rest) ≡ ns ++ front rest
front_behind [] rest = refl
front_behind (n ∷ ns) rest = ap (λ l. n ∷ l) (front_behind ns rest)

pub fault_behind : (ns : List ℕ) (rest : List (Result ℕ WireFault)) → first_fault (map Ok ns ++ rest) ≡ first_fault rest
fault_behind [] rest = refl
fault_behind (n ∷ ns) rest = fault_behind ns rest

-- several numbers were appended
pub grown_more : (old new total ns : List ℕ) (rest whole : List (Result ℕ WireFault)) → new ≡ old ++ ns → whole ≡ map Ok ns ++ rest → old ++ front whole ≡ total → new ++ front rest ≡ total
grown_more old new total ns rest whole pushed e so_far =
    ap (λ l. l ++ front rest) pushed ∙ append_assoc old ns (front rest) ∙ sym (ap (λ l. old ++ l) (ap front e ∙ front_behind ns rest)) ∙ so_far

-- ---- numbers that are gathered beside an array

put_one : (base xs done : List ℕ) (c j next y : ℕ) → next ≡ j + 1 → take j xs ≡ take c base ++ done → j < length xs → take next (set xs j y) ≡ take c base ++ (done ++ y ∷ [])
put_one base xs done c j next y behind so_far inside = ap (λ n. take n (set xs j y)) behind ∙ take_more_set xs j y inside ∙ ap (λ l. l ++ y ∷ []) so_far ∙ append_assoc (take c base) done (y ∷ [])

pub put_eight : (xs : List ℕ) (c n0 n1 n2 n3 n4 n5 n6 n7 : ℕ) → c + 8 ≤ length xs →
    take (c + 8) (set (set (set (set (set (set (set (set xs c n0) (c + 1) n1) (c + 2) n2) (c + 3) n3) (c + 4) n4) (c + 5) n5) (c + 6) n6) (c + 7) n7)
    ≡ take c xs ++ n0 ∷ n1 ∷ n2 ∷ n3 ∷ n4 ∷ n5 ∷ n6 ∷ n7 ∷ []
put_eight xs c n0 n1 n2 n3 n4 n5 n6 n7 h =
    let x1 : List ℕ = set xs c n0 in
    let x2 : List ℕ = set x1 (c + 1) n1 in
    let x3 : List ℕ = set x2 (c + 2) n2 in
    let x4 : List ℕ = set x3 (c + 3) n3 in
    let x5 : List ℕ = set x4 (c + 4) n4 in
    let x6 : List ℕ = set x5 (c + 5) n5 in
    let x7 : List ℕ = set x6 (c + 6) n6 in
    let l1 : length x1 ≡ length xs = length-set xs c n0 in
    let l2 : length x2 ≡ length xs = length-set x1 (c + 1) n1 ∙ l1 in
    let l3 : length x3 ≡ length xs = length-set x2 (c + 2) n2 ∙ l2 in
    let l4 : length x4 ≡ length xs = length-set x3 (c + 3) n3 ∙ l3 in
    let l5 : length x5 ≡ length xs = length-set x4 (c + 4) n4 ∙ l4 in
    let l6 : length x6 ≡ length xs = length-set x5 (c + 5) n5 ∙ l5 in
    let l7 : length x7 ≡ length xs = length-set x6 (c + 6) n6 ∙ l6 in
    let p0 : take c xs ≡ take c xs ++ [] = sym (append-nil (take c xs)) in
    let p1 : take (c + 1) x1 ≡ take c xs ++ n0 ∷ [] = put_one xs xs [] c c (c + 1) n0 (omega arith) p0 (omega (arith, h)) in
    let p2 : take (c + 2) x2 ≡ take c xs ++ n0 ∷ n1 ∷ [] = put_one xs x1 (n0 ∷ []) c (c + 1) (c + 2) n1 (omega arith) p1 (omega (arith, h, l1)) in
    let p3 : take (c + 3) x3 ≡ take c xs ++ n0 ∷ n1 ∷ n2 ∷ [] = put_one xs x2 (n0 ∷ n1 ∷ []) c (c + 2) (c + 3) n2 (omega arith) p2 (omega (arith, h, l2)) in
    let p4 : take (c + 4) x4 ≡ take c xs ++ n0 ∷ n1 ∷ n2 ∷ n3 ∷ [] = put_one xs x3 (n0 ∷ n1 ∷ n2 ∷ []) c (c + 3) (c + 4) n3 (omega arith) p3 (omega (arith, h, l3)) in
    let p5 : take (c + 5) x5 ≡ take c xs ++ n0 ∷ n1 ∷ n2 ∷ n3 ∷ n4 ∷ [] = put_one xs x4 (n0 ∷ n1 ∷ n2 ∷ n3 ∷ []) c (c + 4) (c + 5) n4 (omega arith) p4 (omega (arith, h, l4)) in
    let p6 : take (c + 6) x6 ≡ take c xs ++ n0 ∷ n1 ∷ n2 ∷ n3 ∷ n4 ∷ n5 ∷ [] = put_one xs x5 (n0 ∷ n1 ∷ n2 ∷ n3 ∷ n4 ∷ []) c (c + 5) (c + 6) n5 (omega arith) p5 (omega (arith, h, l5)) in
    let p7 : take (c + 7) x7 ≡ take c xs ++ n0 ∷ n1 ∷ n2 ∷ n3 ∷ n4 ∷ n5 ∷ n6 ∷ [] = put_one xs x6 (n0 ∷ n1 ∷ n2 ∷ n3 ∷ n4 ∷ n5 ∷ []) c (c + 6) (c + 7) n6 (omega arith) p6 (omega (arith, h, l6)) in
    put_one xs x7 (n0 ∷ n1 ∷ n2 ∷ n3 ∷ n4 ∷ n5 ∷ n6 ∷ []) c (c + 7) (c + 8) n7 (omega arith) p7 (omega (arith, h, l7))

pub eight : (ns : List ℕ) → length ns ≡ 8 →
    ns ≡ get_or ns 0 0 ∷ get_or ns 1 0 ∷ get_or ns 2 0 ∷ get_or ns 3 0 ∷ get_or ns 4 0 ∷ get_or ns 5 0 ∷ get_or ns 6 0 ∷ get_or ns 7 0 ∷ []
eight ns h =
    let rest : drop 8 ns ≡ [] = drop_all 8 ns (omega (arith, h)) in
    drop_more ns 0 0 (omega (arith, h)) ∙ ap (λ l. get_or ns 0 0 ∷ l) (
    drop_more ns 1 0 (omega (arith, h)) ∙ ap (λ l. get_or ns 1 0 ∷ l) (
    drop_more ns 2 0 (omega (arith, h)) ∙ ap (λ l. get_or ns 2 0 ∷ l) (
    drop_more ns 3 0 (omega (arith, h)) ∙ ap (λ l. get_or ns 3 0 ∷ l) (
    drop_more ns 4 0 (omega (arith, h)) ∙ ap (λ l. get_or ns 4 0 ∷ l) (
    drop_more ns 5 0 (omega (arith, h)) ∙ ap (λ l. get_or ns 5 0 ∷ l) (
    drop_more ns 6 0 (omega (arith, h)) ∙ ap (λ l. get_or ns 6 0 ∷ l) (
    drop_more ns 7 0 (omega (arith, h)) ∙ ap (λ l. get_or ns 7 0 ∷ l) rest)))))))
