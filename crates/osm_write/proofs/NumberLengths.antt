-- Lengths of numbers and fields: what is smaller is spelled no longer.
use Rattle.std.proofs.Common.{◌≡◌, ◌⊎◌, inl, inr, ℕ, zero, suc, ◌+◌, ◌*◌, ◌/◌, ◌%◌, ◌^◌, ◌≤◌, List, [], ◌∷◌, ◌++◌, length, map, refl, ap, Bool, true, false, if◌then◌else◌, arith, ℤ, pos, negsuc, neg_ℤ, ◌-ℤ◌, Option, Some, None, le_refl, w64}
use Rattle.std.specs.Prelude.{nat_lt, int_div}
use Rattle.std.specs.List.{flat_map, filter_map, cons_option}
use Rattle.std.specs.Int.{cast_unsigned}
use Rattle.std.proofs.lemmas.Int.{ints}
use Rattle.std.proofs.lemmas.Bool.{ltb-false, ltb-true}
use Rattle.std.proofs.lemmas.List.{length-append}
use Rattle.std.proofs.lemmas.Grind.{flat_map-append}
use Rattle.std.proofs.Math.Nat.{div-le_self}
use Rattle.pbf_wire.specs.Write.{shortest_within, shortest, zigzag}
use Rattle.osm_value.specs.Ranges.{IsWide}
use Rattle.osm_value.proofs.Ranges.{wide_bounds}
use Rattle.osm_block.specs.Differences.{differences_from}
use Rattle.osm_write.specs.Canon.{number, bytes_field, message_field, packed_field, delta_field}

-- ---- lists

pub record NoLonger (a b : List ℕ) : Type 0 where
  pub le : length a ≤ length b

pub itself : (a : List ℕ) → NoLonger a a
itself a = record { le = omega arith }

pub nothing : (a : List ℕ) → NoLonger [] a
nothing a = record { le = omega arith }

pub joined : {a b c d : List ℕ} → NoLonger a b → NoLonger c d → NoLonger (a ++ c) (b ++ d)
joined {a} {b} {c} {d} p q =
    let x = length-append a c in
    let y = length-append b d in
    let f = p.le in
    let g = q.le in
    record { le = omega arith }

-- ---- numbers

within_no_longer : (k m n : ℕ) → m ≤ n → length (shortest_within k m) ≤ length (shortest_within k n)
unfolding shortest_within
within_no_longer zero m n le = omega arith
within_no_longer (suc k) m n le = by (within_no_longer k (m / 128) (n / 128) (omega arith)) (nat_lt m 128) refl (nat_lt n 128) refl
  where
    by : length (shortest_within k (m / 128)) ≤ length (shortest_within k (n / 128)) → (c : Bool) → nat_lt m 128 ≡ c → (d : Bool) → nat_lt n 128 ≡ d
        → length (if c then m ∷ [] else (m % 128 + 128) ∷ shortest_within k (m / 128)) ≤ length (if d then n ∷ [] else (n % 128 + 128) ∷ shortest_within k (n / 128))
    by again true e true f = omega arith
    by again true e false f = omega arith
    by again false e true f = absurd (let a = ltb-false m 128 e in let b = ltb-true n 128 f in omega arith)
    by again false e false f = omega arith

pub number_no_longer : (m n : ℕ) → m ≤ n → NoLonger (number m) (number n)
unfolding shortest
number_no_longer m n le = record { le = within_no_longer 9 m n le }

within_short : (k n : ℕ) → length (shortest_within k n) ≤ suc k
unfolding shortest_within
within_short zero n = omega arith
within_short (suc k) n = by (within_short k (n / 128)) (nat_lt n 128)
  where
    by : length (shortest_within k (n / 128)) ≤ suc k → (c : Bool) → length (if c then n ∷ [] else (n % 128 + 128) ∷ shortest_within k (n / 128)) ≤ suc (suc k)
    by again true = omega arith
    by again false = omega arith

number_short : (n : ℕ) → length (number n) ≤ 10
unfolding shortest
number_short n = within_short 9 n

ten_bytes : length (number (2 ^ 63)) ≡ 10
unfolding shortest shortest_within
ten_bytes = refl

-- a negative number is spelled in ten bytes, and none in more
large_longest : (m n : ℕ) → 2 ^ 63 ≤ n → NoLonger (number m) (number n)
large_longest m n large =
    let a = number_short m in
    let b = (number_no_longer (2 ^ 63) n large).le in
    let c = ten_bytes in
    record { le = omega arith }

-- ---- quotients

-- the same, or n beside 1
abbrev pub Finer : ℕ → ℕ → ℕ → Type 0
Finer n g h = (g ≡ h) ⊎ ((g ≡ n) × (h ≡ 1))

by_one : (z : ℤ) → int_div z (pos 1) ≡ z
by_one (pos a) = let e : a / 1 ≡ a = omega arith in rw e refl
by_one (negsuc a) = let e : suc a / 1 ≡ suc a = omega arith in rw e refl

negated_zigzag : (q a : ℕ) → q ≤ suc a → zigzag (neg_ℤ (pos q)) ≤ zigzag (negsuc a)
negated_zigzag zero a le = omega arith
negated_zigzag (suc q) a le = omega arith

zigzag_quotient : (n : ℕ) (z : ℤ) → zigzag (int_div z (pos n)) ≤ zigzag z
zigzag_quotient n (pos a) = let q = div-le_self a n in omega arith
zigzag_quotient n (negsuc a) = negated_zigzag (suc a / n) a (div-le_self (suc a) n)

pub zigzag_finer : (n g h : ℕ) (z : ℤ) → Finer n g h → zigzag (int_div z (pos g)) ≤ zigzag (int_div z (pos h))
zigzag_finer n g h z (inl e) = rw e (le_refl (zigzag (int_div z (pos h))))
zigzag_finer n g h z (inr e) = rw (e.0, e.1, by_one z) (zigzag_quotient n z)

number_quotient : (n : ℕ) (z : ℤ) → IsWide z → NoLonger (number (cast_unsigned w64 (int_div z (pos n)))) (number (cast_unsigned w64 z))
number_quotient n (pos a) wide = number_no_longer (a / n) a (div-le_self a n)
number_quotient n (negsuc a) wide =
    let b = wide_bounds (negsuc a) wide in
    large_longest (cast_unsigned w64 (int_div (negsuc a) (pos n))) (cast_unsigned w64 (negsuc a)) (search (arith, ints))

pub number_finer : (n g h : ℕ) (z : ℤ) → IsWide z → Finer n g h → NoLonger (number (cast_unsigned w64 (int_div z (pos g)))) (number (cast_unsigned w64 (int_div z (pos h))))
number_finer n g h z wide (inl e) = rw e (itself (number (cast_unsigned w64 (int_div z (pos h)))))
number_finer n g h z wide (inr e) = rw (e.0, e.1, by_one z) (number_quotient n z wide)

-- ---- fields

pub bytes_field_no_longer : (k : ℕ) (a b : List ℕ) → NoLonger a b → NoLonger (bytes_field k a) (bytes_field k b)
bytes_field_no_longer k a b le = joined (joined (itself (number (8 * k + 2))) (number_no_longer (length a) (length b) le.le)) le

pub message_field_no_longer : (k : ℕ) (a b : List ℕ) → NoLonger a b → NoLonger (message_field k a) (message_field k b)
message_field_no_longer k [] b le = nothing (message_field k b)
message_field_no_longer k (x ∷ a) [] le = absurd (let h = le.le in omega arith)
message_field_no_longer k (x ∷ a) (y ∷ b) le = bytes_field_no_longer k (x ∷ a) (y ∷ b) le

-- one number beside those that begin with one no smaller
pub packed_first : (k x y : ℕ) (ys : List ℕ) → x ≤ y → NoLonger (packed_field k (x ∷ [])) (packed_field k (y ∷ ys))
packed_first k x y ys le = message_field_no_longer k (number x ++ []) (number y ++ flat_map number ys) (joined (number_no_longer x y le) (nothing (flat_map number ys)))

-- some numbers beside those that begin with them
pub packed_front : (k : ℕ) (xs ys zs : List ℕ) → xs ≡ ys → NoLonger (packed_field k (xs ++ [])) (packed_field k (ys ++ zs))
packed_front k xs ys zs e =
    let a = ap length (flat_map-append number xs []) in
    let b = ap length (flat_map-append number ys zs) in
    let c = ap (λ ns. length (flat_map number ns)) e in
    let d = length-append (flat_map number xs) [] in
    let f = length-append (flat_map number ys) (flat_map number zs) in
    message_field_no_longer k (flat_map number (xs ++ [])) (flat_map number (ys ++ zs)) (record { le = omega arith })

minus_zero : (z : ℤ) → z -ℤ pos 0 ≡ z
minus_zero (pos n) = search (arith, ints)
minus_zero (negsuc n) = search (arith, ints)

pub delta_first : (k : ℕ) (v w : ℤ) (ws : List ℤ) → zigzag v ≤ zigzag w → NoLonger (delta_field k (v ∷ [])) (delta_field k (w ∷ ws))
delta_first k v w ws le = packed_first k (zigzag (v -ℤ pos 0)) (zigzag (w -ℤ pos 0)) (map zigzag (differences_from w ws)) (rw (minus_zero v, minus_zero w) le)

-- ---- arrays

-- the first is absent, or no greater than the second
abbrev pub Below : {A : Type 0} → (A → ℕ) → Option A → Option A → Type 0
Below size None o = Unit {0}
Below size (Some x) None = ⊥
Below size (Some x) (Some y) = size x ≤ size y

pub below_itself : {A : Type 0} (size : A → ℕ) (o : Option A) → Below size o o
below_itself size None = tt
below_itself size (Some x) = le_refl (size x)

module _ {I : Type 0} where
  pub packed_array : (k : ℕ) (get got : I → Option ℕ) (i : I) (is : List I) → Below (λ n. n) (get i) (got i) → NoLonger (packed_field k (filter_map get (i ∷ []))) (packed_field k (filter_map got (i ∷ is)))
  packed_array k get got i is below = by (get i) (got i) below
    where
      by : (o p : Option ℕ) → Below (λ n. n) o p → NoLonger (packed_field k (cons_option o [])) (packed_field k (cons_option p (filter_map got is)))
      by None p h = nothing (packed_field k (cons_option p (filter_map got is)))
      by (Some x) None h = absurd h
      by (Some x) (Some y) h = packed_first k x y (filter_map got is) h

  pub delta_array : (k : ℕ) (get got : I → Option ℤ) (i : I) (is : List I) → Below zigzag (get i) (got i) → NoLonger (delta_field k (filter_map get (i ∷ []))) (delta_field k (filter_map got (i ∷ is)))
  delta_array k get got i is below = by (get i) (got i) below
    where
      by : (o p : Option ℤ) → Below zigzag o p → NoLonger (delta_field k (cons_option o [])) (delta_field k (cons_option p (filter_map got is)))
      by None p h = nothing (delta_field k (cons_option p (filter_map got is)))
      by (Some x) None h = absurd h
      by (Some x) (Some y) h = delta_first k x y (filter_map got is) h
