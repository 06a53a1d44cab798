-- Numbers that were written are read back.
use Rattle.std.proofs.Common.{◌≡◌, ℕ, zero, suc, ◌+◌, ◌*◌, ◌/◌, ◌%◌, ◌^◌, ◌<◌, ◌==◌, refl, ap, true, false, ◌∙◌, sym, arith, ℤ, pos, negsuc, ◌*ℤ◌, FitsSigned, w32, w64, IsTrue, Some}
use Rattle.std.specs.Prelude.{int_div, unsigned_abs}
use Rattle.std.specs.Int.{cast_unsigned}
use Rattle.std.proofs.lemmas.Int.{ints, to_z-of_z, quot-rem, rem_below}
use Rattle.std.proofs.Math.Nat.{mod-eq_of_lt, div-le_self}
use Rattle.pbf_wire.specs.Readings.{int32, int64, uint32, sint64, sint32}
use Rattle.pbf_wire.specs.Write.{zigzag}
use Rattle.osm_value.specs.Ranges.{IsWide, is_version, is_uid}
use Rattle.osm_value.proofs.Ranges.{wide_bounds, wide_within, version_bounds, uid_bounds}
use Rattle.osm_block.specs.Block as block

pub int64_read : (z : ℤ) → FitsSigned w64 z → int64 (cast_unsigned w64 z) ≡ z
int64_read z fits = to_z-of_z w64 z fits

pub int64_small : (z : ℤ) → FitsSigned w64 z → cast_unsigned w64 z < 2 ^ 64
int64_small z fits = search (arith, ints)

pub uid_read : (z : ℤ) → IsTrue (is_uid z) → int32 (cast_unsigned w64 z) ≡ z
uid_read (pos n) h = let b = uid_bounds (pos n) h in let m : n % 2 ^ 32 ≡ n = mod-eq_of_lt (search (arith, ints)) in rw m (search (arith, ints))
uid_read (negsuc zero) h = refl
uid_read (negsuc (suc n)) h = absurd (let b = uid_bounds (negsuc (suc n)) h in search (arith, ints))

pub version_read : (z : ℤ) → IsTrue (is_version z) → int32 (cast_unsigned w64 z) ≡ z
version_read (pos n) h = let b = version_bounds (pos n) h in let m : n % 2 ^ 32 ≡ n = mod-eq_of_lt (search (arith, ints)) in rw m (search (arith, ints))
version_read (negsuc n) h = absurd (let b = version_bounds (negsuc n) h in search (arith, ints))

pub version_fits : (z : ℤ) → IsTrue (is_version z) → FitsSigned w64 z
version_fits z h = let b = version_bounds z h in search (arith, ints)

pub uid_fits : (z : ℤ) → IsTrue (is_uid z) → FitsSigned w64 z
uid_fits z h = let b = uid_bounds z h in search (arith, ints)

-- a version that is there isn't -1
pub version_is : (z : ℤ) → IsTrue (is_version z) → block.version z ≡ Some z
version_is (pos n) h = refl
version_is (negsuc n) h = absurd (let b = version_bounds (negsuc n) h in search (arith, ints))

pub uint32_read : (n : ℕ) → n < 2 ^ 32 → uint32 n ≡ pos n
uint32_read n small = ap pos (mod-eq_of_lt small)

pub int32_read : (n : ℕ) → n < 2 ^ 31 → int32 n ≡ pos n
int32_read n small = let m : n % 2 ^ 32 ≡ n = mod-eq_of_lt (omega arith) in rw m (search (arith, ints))

even_test : (n : ℕ) → (2 * n) % 2 == 0 ≡ true
even_test n = let e : (2 * n) % 2 ≡ 0 = omega arith in rw e refl

odd_test : (n : ℕ) → (2 * n + 1) % 2 == 0 ≡ false
odd_test n = let e : (2 * n + 1) % 2 ≡ 1 = omega arith in rw e refl

pub sint64_read : (z : ℤ) → sint64 (zigzag z) ≡ z
sint64_read (pos n) = let h : (2 * n) / 2 ≡ n = omega arith in let t = even_test n in rw (t, h) refl
sint64_read (negsuc n) = let h : (2 * n + 1) / 2 ≡ n = omega arith in let t = odd_test n in rw (t, h) refl

pub zigzag_small : (z : ℤ) → FitsSigned w64 z → zigzag z < 2 ^ 64
zigzag_small (pos n) fits = search (arith, ints)
zigzag_small (negsuc n) fits = search (arith, ints)

pub sint32_read : (z : ℤ) → FitsSigned w32 z → sint32 (zigzag z) ≡ z
sint32_read z fits = let m : zigzag z % 2 ^ 32 ≡ zigzag z = mod-eq_of_lt (small z fits) in rw m (sint64_read z)
  where
    small : (z : ℤ) → FitsSigned w32 z → zigzag z < 2 ^ 32
    small (pos n) fits = search (arith, ints)
    small (negsuc n) fits = search (arith, ints)

-- ---- multiples

abbrev pub Whole : ℕ → ℤ → Type 0
Whole n z = int_div z (pos n) *ℤ pos n ≡ z

pub whole_one : (z : ℤ) → Whole 1 z
whole_one z = let e = quot-rem z (pos 1) in let r = rem_below z (pos 1) (omega arith) in search (arith, ints)

pub whole_of : (n : ℕ) (z : ℤ) → unsigned_abs z % n ≡ 0 → Whole n z
whole_of n (pos a) e = let f = quot-rem (pos a) (pos n) in let g = rw e at f in search (arith, ints)
whole_of n (negsuc a) e = let f = quot-rem (negsuc a) (pos n) in let g = rw e at f in search (arith, ints)

swap : (q : ℤ) (n : ℕ) → q *ℤ pos n ≡ pos n *ℤ q
swap (pos a) n = search (arith, ints)
swap (negsuc a) n = search (arith, ints)

-- a coordinate that its granularity divides
pub coordinate_read : (n : ℕ) (z : ℤ) → Whole n z → z ≡ block.coordinate (pos 0) (pos n) (int_div z (pos n))
coordinate_read n z whole = let e = swap (int_div z (pos n)) n in let f : pos n *ℤ int_div z (pos n) ≡ z = sym e ∙ whole in search (arith, ints)

pub quotient_is_wide : (n : ℕ) (z : ℤ) → IsWide z → IsWide (int_div z (pos n))
quotient_is_wide n (pos a) wide =
    let b = wide_bounds (pos a) wide in
    let q = div-le_self a n in
    wide_within (int_div (pos a) (pos n)) (search (arith, ints)) (search (arith, ints))
quotient_is_wide n (negsuc a) wide =
    let b = wide_bounds (negsuc a) wide in
    let q = div-le_self (suc a) n in
    wide_within (int_div (negsuc a) (pos n)) (search (arith, ints)) (search (arith, ints))
