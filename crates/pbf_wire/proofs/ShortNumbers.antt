-- The plain reading of a number of up to five bytes.
use Rattle.std.proofs.Common.{◌≡◌, ℕ, suc, ◌+◌, ◌*◌, ◌%◌, ◌<◌, ◌≤◌, true, false, ltb, List, [], ◌∷◌, length, get_or, drop, Result, Ok, Err, refl, sym, ap, ◌∙◌, arith}
use Rattle.std.proofs.lemmas.Bool.{le-ltb, lt-ltb}
use Rattle.std.proofs.lemmas.List.{drop_more}
use Rattle.pbf_wire.specs.declared.fault.WireFaultKind.{WireFaultKind}
use Rattle.pbf_wire.specs.declared.fault.WireFaultKind.TheVariants.{NumberCut}
use Rattle.pbf_wire.specs.Number.{high_part, number_within, number_at}

abbrev read : ℕ → ℕ → Result (ℕ × ℕ) WireFaultKind
read n len = Ok (n, len)

-- a last byte, and one behind which the number goes on
last : (left i : ℕ) (v : List ℕ) → i < length v → get_or v i 0 < 128 → number_within (suc left) (drop i v) ≡ read (get_or v i 0) 1
unfolding number_within
last left i v short h =
    let test : ltb (get_or v i 0) 128 ≡ true = lt-ltb _ _ h in
    rw (drop_more v i 0 short, test) refl

more : (left i : ℕ) (v : List ℕ) → i < length v → 128 ≤ get_or v i 0 → number_within (suc left) (drop i v) ≡ high_part (get_or v i 0) (number_within left (drop (i + 1) v))
unfolding number_within
more left i v short h =
    let test : ltb (get_or v i 0) 128 ≡ false = le-ltb _ _ h in
    rw (drop_more v i 0 short, test) refl

pub none_read : (v : List ℕ) → length v ≡ 0 → Err NumberCut ≡ number_at v
unfolding number_at number_within
none_read [] e = refl
none_read (b ∷ bs) e = absurd (omega arith)

pub one_read : (v : List ℕ) (a : ℕ) → a ≡ get_or v 0 0 → 0 < length v → a < 128 → read a 1 ≡ number_at v
unfolding number_at
one_read v a ea short la = ap (λ (k : ℕ). read k 1) ea ∙ sym (last 8 0 v short (omega arith))

-- the number as the code sums it up
same_number : (n m len : ℕ) → n ≡ m → read n len ≡ read m len
same_number n m len e = ap (λ (k : ℕ). read k len) e

pub two_read : (v : List ℕ) (a b n : ℕ) → a ≡ get_or v 0 0 → b ≡ get_or v 1 0 → 1 < length v → 128 ≤ a → b < 128
    → n ≡ a % 128 + b * 128 → read n 2 ≡ number_at v
unfolding number_at
two_read v a b n ea eb short la lb sum =
    same_number n (get_or v 0 0 % 128 + 128 * get_or v 1 0) 2 (rw (sym ea, sym eb) (omega arith))
    ∙ sym (more 8 0 v (omega arith) (omega arith) ∙ ap (high_part (get_or v 0 0)) (last 7 1 v short (omega arith)))

pub three_read : (v : List ℕ) (a b c n : ℕ) → a ≡ get_or v 0 0 → b ≡ get_or v 1 0 → c ≡ get_or v 2 0 → 2 < length v → 128 ≤ a → 128 ≤ b → c < 128
    → n ≡ a % 128 + b % 128 * 128 + c * 16384 → read n 3 ≡ number_at v
unfolding number_at
three_read v a b c n ea eb ec short la lb lc sum =
    same_number n (get_or v 0 0 % 128 + 128 * (get_or v 1 0 % 128 + 128 * get_or v 2 0)) 3 (rw (sym ea, sym eb, sym ec) (omega arith))
    ∙ sym (more 8 0 v (omega arith) (omega arith)
    ∙ ap (high_part (get_or v 0 0)) (more 7 1 v (omega arith) (omega arith) ∙ ap (high_part (get_or v 1 0)) (last 6 2 v short (omega arith))))

pub four_read : (v : List ℕ) (a b c d n : ℕ) → a ≡ get_or v 0 0 → b ≡ get_or v 1 0 → c ≡ get_or v 2 0 → d ≡ get_or v 3 0 → 3 < length v → 128 ≤ a → 128 ≤ b → 128 ≤ c → d < 128
    → n ≡ a % 128 + b % 128 * 128 + c % 128 * 16384 + d * 2097152 → read n 4 ≡ number_at v
unfolding number_at
four_read v a b c d n ea eb ec ed short la lb lc ld sum =
    same_number n (get_or v 0 0 % 128 + 128 * (get_or v 1 0 % 128 + 128 * (get_or v 2 0 % 128 + 128 * get_or v 3 0))) 4 (rw (sym ea, sym eb, sym ec, sym ed) (omega arith))
    ∙ sym (more 8 0 v (omega arith) (omega arith)
    ∙ ap (high_part (get_or v 0 0)) (more 7 1 v (omega arith) (omega arith)
    ∙ ap (high_part (get_or v 1 0)) (more 6 2 v (omega arith) (omega arith) ∙ ap (high_part (get_or v 2 0)) (last 5 3 v short (omega arith)))))

pub five_read : (v : List ℕ) (a b c d e n : ℕ) → a ≡ get_or v 0 0 → b ≡ get_or v 1 0 → c ≡ get_or v 2 0 → d ≡ get_or v 3 0 → e ≡ get_or v 4 0 → 4 < length v
    → 128 ≤ a → 128 ≤ b → 128 ≤ c → 128 ≤ d → e < 128
    → n ≡ a % 128 + b % 128 * 128 + (c % 128 * 16384 + d % 128 * 2097152) + e * 268435456 → read n 5 ≡ number_at v
unfolding number_at
five_read v a b c d e n ea eb ec ed ee short la lb lc ld le sum =
    same_number n (get_or v 0 0 % 128 + 128 * (get_or v 1 0 % 128 + 128 * (get_or v 2 0 % 128 + 128 * (get_or v 3 0 % 128 + 128 * get_or v 4 0)))) 5 (rw (sym ea, sym eb, sym ec, sym ed, sym ee) (omega arith))
    ∙ sym (more 8 0 v (omega arith) (omega arith)
    ∙ ap (high_part (get_or v 0 0)) (more 7 1 v (omega arith) (omega arith)
    ∙ ap (high_part (get_or v 1 0)) (more 6 2 v (omega arith) (omega arith)
    ∙ ap (high_part (get_or v 2 0)) (more 5 3 v (omega arith) (omega arith) ∙ ap (high_part (get_or v 3 0)) (last 4 4 v short (omega arith))))))
