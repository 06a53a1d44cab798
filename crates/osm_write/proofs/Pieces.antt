-- What the pieces of a written message are read as.
use Rattle.std.proofs.Common.{◌≡◌, ℕ, zero, suc, ◌+◌, ◌-◌, ◌*◌, ◌/◌, ◌%◌, ◌^◌, ◌<◌, ◌≤◌, List, [], ◌∷◌, ◌++◌, length, drop, refl, ap, Bool, true, false, if◌then◌else◌, ◌∙◌, sym, arith, append_assoc, append-nil, Ok, None, map}
use Rattle.std.specs.Prelude.{nat_lt}
use Rattle.std.specs.List.{AllByRecursion, flat_map}
use Rattle.std.proofs.lemmas.List.{length-append}
use Rattle.pbf_wire.specs.Number.{number_at}
use Rattle.pbf_wire.specs.Field.{Number, Bytes, Entry, Fields, Spells, is_field_number}
use Rattle.pbf_wire.specs.Write.{shortest_within, shortest}
use Rattle.pbf_wire.specs.Readings.{front, first_fault, row_within, numbers, packed}
use Rattle.pbf_wire.proofs.FieldLaws.{number_at_again}
use Rattle.pbf_wire.proofs.WriteLaws.{number_spelled, field_spelled}
use Rattle.osm_write.specs.Canon.{number, number_field, bytes_field}

-- ---- numbers and fields

within_starts : (k n : ℕ) → (b : ℕ) × (bs : List ℕ) × (shortest_within k n ≡ b ∷ bs)
unfolding shortest_within
within_starts zero n = (n, [], refl)
within_starts (suc k) n = by (nat_lt n 128)
  where
    by : (c : Bool) → (b : ℕ) × (bs : List ℕ) × ((if c then n ∷ [] else (n % 128 + 128) ∷ shortest_within k (n / 128)) ≡ b ∷ bs)
    by true = (n, [], refl)
    by false = (n % 128 + 128, shortest_within k (n / 128), refl)

-- a number takes a byte or more
pub number_starts : (n : ℕ) → (b : ℕ) × (bs : List ℕ) × (number n ≡ b ∷ bs)
unfolding shortest
number_starts n = within_starts 9 n

abbrev pub number_entry : ℕ → ℕ → Entry
number_entry k n = record { number = k; content = Number n }

abbrev pub bytes_entry : ℕ → List ℕ → Entry
bytes_entry k bs = record { number = k; content = Bytes bs }

pub number_field_spelled : (k n : ℕ) → is_field_number k ≡ true → k < 2 ^ 29 → n < 2 ^ 64 → Spells (number_entry k n) (number_field k n)
number_field_spelled k n is_number small fits =
    let tag : 8 * k ≡ k * 8 + 0 = omega arith in
    rw tag (field_spelled (number_entry k n) is_number small fits)

pub bytes_field_spelled : (k : ℕ) (bs : List ℕ) → is_field_number k ≡ true → k < 2 ^ 29 → length bs < 2 ^ 64 → Spells (bytes_entry k bs) (bytes_field k bs)
bytes_field_spelled k bs is_number small short =
    let tag : 8 * k + 2 ≡ k * 8 + 2 = omega arith in
    let e : bytes_field k bs ≡ number (k * 8 + 2) ++ (number (length bs) ++ bs) = rw tag (append_assoc (number (k * 8 + 2)) (number (length bs)) bs) in
    rw e (field_spelled (bytes_entry k bs) is_number small short)

pub one_field : (f : Entry) (w : List ℕ) → Spells f w → Fields (f ∷ []) w
one_field f w s = (w, [], s, refl, sym (append-nil w))

pub fields_join : (fs gs : List Entry) (v w : List ℕ) → Fields fs v → Fields gs w → Fields (fs ++ gs) (v ++ w)
fields_join [] gs v w a b = rw a b
fields_join (f ∷ fs) gs v w a b =
    (a.0, a.1 ++ w, a.2, fields_join fs gs a.1 w a.3 b, ap (λ x. x ++ w) a.4 ∙ append_assoc a.0 a.1 w)

-- ---- packed arrays

drop_length : (bs w : List ℕ) → drop (length bs) (bs ++ w) ≡ w
drop_length [] w = refl
drop_length (b ∷ bs) w = drop_length bs w

row_step : (left at b len n : ℕ) (bs : List ℕ) → number_at (b ∷ bs) ≡ Ok (n, len) → row_within (suc left) at (b ∷ bs) ≡ Ok n ∷ row_within left (at + len) (drop (len - 1) bs)
unfolding row_within
row_step left at b len n bs e = rw e refl

row_end : (left at : ℕ) → row_within left at [] ≡ []
unfolding row_within
row_end zero at = refl
row_end (suc left) at = refl

row_more : (left at n : ℕ) (v w : List ℕ) (b : ℕ) (bs : List ℕ) → v ≡ b ∷ bs → number_at (v ++ w) ≡ Ok (n, length v) → row_within (suc left) at (v ++ w) ≡ Ok n ∷ row_within left (at + length v) w
row_more left at n v w b bs is e =
    let f : number_at (b ∷ (bs ++ w)) ≡ Ok (n, suc (length bs)) = (let g = rw is at e in g) in
    let d : drop (suc (length bs) - 1) (bs ++ w) ≡ w = (let h : suc (length bs) - 1 ≡ length bs = omega arith in rw h (drop_length bs w)) in
    rw is (row_step left at b (suc (length bs)) n (bs ++ w) f ∙ ap (λ x. Ok n ∷ row_within left (at + suc (length bs)) x) d)

row_again : (n : ℕ) (ns : List ℕ) (left at : ℕ) → n < 2 ^ 64 → ((l a : ℕ) → length (flat_map number ns) ≤ l → row_within l a (flat_map number ns) ≡ map Ok ns)
    → length (number n) + length (flat_map number ns) ≤ left → row_within left at (number n ++ flat_map number ns) ≡ Ok n ∷ map Ok ns
row_again n ns zero at fits again le =
    let s = number_starts n in
    let long : length (number n) ≡ suc (length s.1) = ap length s.2 in
    absurd (omega arith)
row_again n ns (suc left) at fits again le =
    let s = number_starts n in
    let long : length (number n) ≡ suc (length s.1) = ap length s.2 in
    row_more left at n (number n) (flat_map number ns) s.0 s.1 s.2 (number_at_again n (number n) (flat_map number ns) (number_spelled n fits))
    ∙ ap (λ x. Ok n ∷ x) (again left (at + length (number n)) (omega arith))

pub row_is : (ns : List ℕ) (left at : ℕ) → AllByRecursion (λ n. n < 2 ^ 64) ns → length (flat_map number ns) ≤ left → row_within left at (flat_map number ns) ≡ map Ok ns
row_is [] left at fit le = row_end left at
row_is (n ∷ ns) left at fit le =
    row_again n ns left at fit.0 (λ l a h. row_is ns l a fit.1 h) (omega (arith, length-append (number n) (flat_map number ns)))

front_all : (ns : List ℕ) → front (map Ok ns) ≡ ns
front_all [] = refl
front_all (n ∷ ns) = ap (λ x. n ∷ x) (front_all ns)

none_faults : (ns : List ℕ) → first_fault (map (λ (n : ℕ). Ok n) ns) ≡ None
none_faults [] = refl
none_faults (n ∷ ns) = none_faults ns

pub numbers_read : (ns : List ℕ) → AllByRecursion (λ n. n < 2 ^ 64) ns → numbers (flat_map number ns) ≡ ns
numbers_read ns fit = let e = row_is ns (length (flat_map number ns)) 0 fit (omega arith) in rw e (front_all ns)

pub packed_read : (ns : List ℕ) → AllByRecursion (λ n. n < 2 ^ 64) ns → packed (flat_map number ns) ≡ None
packed_read ns fit = let e = row_is ns (length (flat_map number ns)) 0 fit (omega arith) in rw e (none_faults ns)
