-- From the frames that were seen so far to the ranges.
use Rattle.std.proofs.Common.{◌≡◌, ℕ, zero, suc, ◌+◌, ◌-◌, ◌*◌, ◌/◌, ◌<◌, ◌≤◌, List, [], ◌∷◌, ◌++◌, length, take, get_or, Some, refl, sym, ap, subst, ◌∙◌, inl, inr, arith, add-one, length-append}
use Rattle.std.proofs.Math.Seq.{take-suc}
use Rattle.std.specs.Prelude.{All, Contains, slice_get}
use Rattle.std.proofs.lemmas.List.Elements.{All-nil, All-cons, All-head, All-tail, All-push, All-weaker, Contains-append_left, Contains-push}
use Rattle.std.proofs.Math.Nat.{div-mul-le_self, lt-div-mul-add, mul-div_cancel_left, div-lt_iff_lt-mul, mul-lt-mul_of_pos_right, mul-sub, mul_comm}
use Rattle.std.proofs.lemmas.Nat.{mul-le}
use Rattle.std.proofs.lemmas.Bool.{cases_lt}
use Rattle.pbf_frame.specs.declared.ranges.Range.{Range}
use Rattle.pbf_frame.specs.Cutting.{AreEnds, last_end, Tile, IsEven, AreRanges}

-- ---- the ends

pub last_end-push : (from : ℕ) (ends : List ℕ) (end : ℕ) → last_end from (ends ++ end ∷ []) ≡ end
last_end-push from [] end = refl
last_end-push from (next ∷ ends) end = last_end-push next ends end

-- each end is behind those before it
pub next_end : (from : ℕ) (ends : List ℕ) (i d : ℕ) → AreEnds from ends → i < length ends → last_end from (take i ends) < get_or ends i d
next_end from [] i d are within = absurd (omega arith)
next_end from (end ∷ ends) zero d are within = are.0
next_end from (end ∷ ends) (suc i) d are within = next_end end ends i d are.1 (omega arith)

pub some_end : (from : ℕ) (ends : List ℕ) → AreEnds from ends → from ≤ last_end from ends
some_end from [] are = omega arith
some_end from (next ∷ ends) are = omega (arith, are.0, some_end next ends are.1)

pub last_end-get : (from end : ℕ) (ends : List ℕ) → slice_get (end ∷ ends) (length (end ∷ ends) - 1) ≡ Some (last_end from (end ∷ ends))
last_end-get from end [] = refl
last_end-get from end (next ∷ ends) =
    let place : length (end ∷ next ∷ ends) - 1 ≡ suc (length (next ∷ ends) - 1) = omega arith in
    ap (slice_get (end ∷ next ∷ ends)) place ∙ last_end-get end next ends

-- ---- the ranges

tile-push : (from : ℕ) (ranges : List Range) (mid to : ℕ) → Tile from ranges mid → mid < to → Tile from (ranges ++ record { from = mid; to = to } ∷ []) to
tile-push from [] mid to tiled some = (sym tiled, some, refl)
tile-push from (range ∷ ranges) mid to tiled some = (tiled.0, tiled.1, tile-push range.to ranges mid to tiled.2 some)

-- ---- shares of the size

-- in one share there are fewer bytes than its part of the size
in_one_share : (from end size count : ℕ) → 0 < size → end * count / size ≤ from * count / size → (end - from) * count < size
in_one_share from end size count some same =
    let last : end * count < end * count / size * size + size = lt-div-mul-add {a = end * count} some in
    let first : from * count / size * size ≤ from * count = div-mul-le_self (from * count) size in
    let shares : end * count / size * size ≤ from * count / size * size = mul-le (end * count / size) size (from * count / size) size same (omega arith) in
    let parts : (end - from) * count ≡ end * count - from * count = mul_comm (end - from) count ∙ mul-sub count end from ∙ ap (λ n. n - count * from) (mul_comm count end) ∙ ap (λ n. end * count - n) (mul_comm count from) in
    omega (arith, last, first, shares, parts)

-- the last offset lies behind all shares, and those before it don't
at_end : (from size count : ℕ) → 0 < size → 0 < count → from ≤ size → size * count / size ≤ from * count / size → from ≡ size
at_end from size count some many within same = elim (cases_lt from size) [
  | inl before ↦
      let all : size * count / size ≡ count = mul-div_cancel_left count some in
      let less : from * count < size * count = mul-lt-mul_of_pos_right before many in
      let share : from * count / size < count = (div-lt_iff_lt-mul some).1 (subst (λ n. from * count < n) (mul_comm size count) less) in
      absurd (omega (arith, all, share, same))
  | inr behind ↦ omega (arith, behind, within)
]

-- ---- the frames seen so far

-- The frames with these ends were seen, and the ranges were cut that end before `from`, which is the end of one of them;
-- what was seen behind it is in the same share.
pub record Cutting (size count : ℕ) (ends : List ℕ) (from : ℕ) (ranges : List Range) : Type 0 where
  pub tiled : Tile 0 ranges from
  pub within : from ≤ last_end 0 ends
  pub framed : All (λ range. Contains ends range.to) ranges
  pub before : All (λ (range : Range). range.to ≤ from) ranges
  pub seen : All (λ end. end ≤ last_end 0 ends) ends
  pub few : length ranges ≤ from * count / size
  pub even : All (IsEven ends count size) ranges
  pub latest : All (λ end. from < end → end * count / size ≤ from * count / size) ends
  pub last : last_end 0 ends * count / size ≤ from * count / size

-- a range that ends before a frame doesn't see its end
even-behind : (ends : List ℕ) (end count size : ℕ) (range : Range) → range.to ≤ end → IsEven ends count size range → IsEven (ends ++ end ∷ []) count size range
even-behind ends end count size range behind even =
    All-push (λ e. range.from < e → e < range.to → (e - range.from) * count < size) ends end even (λ after before. absurd (omega (arith, before, behind)))

-- no frame that was seen ends behind the next one
seen-push : (ends : List ℕ) (end : ℕ) → last_end 0 ends < end → All (λ e. e ≤ last_end 0 ends) ends → All (λ e. e ≤ last_end 0 (ends ++ end ∷ [])) (ends ++ end ∷ [])
seen-push ends end next seen = subst (λ n. All (λ e. e ≤ n) (ends ++ end ∷ [])) (sym (last_end-push 0 ends end))
    (All-push (λ e. e ≤ end) ends end (All-weaker (λ e. e ≤ last_end 0 ends) (λ e. e ≤ end) (λ e to. omega (arith, to, next)) ends seen) (omega arith))

all-both : {X : Type 0} (P Q R : X → Type 0) → ((x : X) → P x → Q x → R x) → (xs : List X) → All P xs → All Q xs → All R xs
all-both P Q R both [] ps qs = All-nil R
all-both P Q R both (x ∷ xs) ps qs = All-cons R x xs (both x (All-head P x xs ps) (All-head Q x xs qs)) (all-both P Q R both xs (All-tail P x xs ps) (All-tail Q x xs qs))

-- the frame is in the same share
pub cutting-on : (size count : ℕ) (ends : List ℕ) (end from : ℕ) (ranges : List Range) → last_end 0 ends < end → end * count / size ≤ from * count / size → Cutting size count ends from ranges
    → Cutting size count (ends ++ end ∷ []) from ranges
cutting-on size count ends end from ranges next same h = record {
  tiled = h.tiled;
  within = omega (arith, h.within, next, last_end-push 0 ends end);
  framed = All-weaker (λ (range : Range). Contains ends range.to) (λ (range : Range). Contains (ends ++ end ∷ []) range.to) (λ range is. Contains-append_left ends (end ∷ []) range.to is) ranges h.framed;
  before = h.before;
  seen = seen-push ends end next h.seen;
  few = h.few;
  even = all-both (λ (range : Range). range.to ≤ from) (IsEven ends count size) (IsEven (ends ++ end ∷ []) count size) (λ range to. even-behind ends end count size range (omega (arith, to, next, h.within))) ranges h.before h.even;
  latest = All-push (λ e. from < e → e * count / size ≤ from * count / size) ends end h.latest (λ after. same);
  last = subst (λ e. e * count / size ≤ from * count / size) (sym (last_end-push 0 ends end)) same;
}

-- it is in a later one, and ends a range
pub cutting-ends : (size count : ℕ) (ends : List ℕ) (end from : ℕ) (ranges : List Range) → 0 < size → last_end 0 ends < end → from * count / size < end * count / size → Cutting size count ends from ranges
    → Cutting size count (ends ++ end ∷ []) end (ranges ++ record { from = from; to = end } ∷ [])
cutting-ends size count ends end from ranges some next later h =
    let range : Range = record { from = from; to = end } in
    let seen : All (λ e. from < e → e < end → (e - from) * count < size) ends =
    All-weaker (λ e. from < e → e * count / size ≤ from * count / size) (λ e. from < e → e < end → (e - from) * count < size) (λ e same after before. in_one_share from e size count some (same after)) ends h.latest in
    record {
      tiled = tile-push 0 ranges from end h.tiled (omega (arith, h.within, next));
      within = omega (arith, last_end-push 0 ends end);
      framed = All-push (λ (r : Range). Contains (ends ++ end ∷ []) r.to) ranges range
          (All-weaker (λ (r : Range). Contains ends r.to) (λ (r : Range). Contains (ends ++ end ∷ []) r.to) (λ r is. Contains-append_left ends (end ∷ []) r.to is) ranges h.framed) (Contains-push ends end);
      before = All-push (λ (r : Range). r.to ≤ end) ranges range
          (All-weaker (λ (r : Range). r.to ≤ from) (λ (r : Range). r.to ≤ end) (λ r to. omega (arith, to, h.within, next)) ranges h.before) (omega arith);
      seen = seen-push ends end next h.seen;
      few = omega (arith, h.few, later, length-append ranges (range ∷ []));
      even = All-push (IsEven (ends ++ end ∷ []) count size) ranges range
          (all-both (λ (r : Range). r.to ≤ from) (IsEven ends count size) (IsEven (ends ++ end ∷ []) count size) (λ r to. even-behind ends end count size r (omega (arith, to, next, h.within))) ranges h.before h.even)
          (even-behind ends end count size range (omega arith) seen);
      latest = All-push (λ e. end < e → e * count / size ≤ end * count / size) ends end
          (All-weaker (λ e. e ≤ last_end 0 ends) (λ e. end < e → e * count / size ≤ end * count / size) (λ e to after. absurd (omega (arith, to, after, next))) ends h.seen)
          (λ after. absurd (omega arith));
      last = subst (λ e. e * count / size ≤ end * count / size) (sym (last_end-push 0 ends end)) (omega arith);
    }

-- all frames were seen
pub cutting-whole : (size count : ℕ) (ends : List ℕ) (from : ℕ) (ranges : List Range) → size ≡ last_end 0 ends → 0 < size → 0 < count → Cutting size count ends from ranges → AreRanges ends count ranges
cutting-whole size count ends from ranges is some many h =
    let last : size * count / size ≤ from * count / size = subst (λ n. n * count / size ≤ from * count / size) (sym is) h.last in
    let end : from ≡ size = at_end from size count some many (subst (λ n. from ≤ n) (sym is) h.within) last in
    let all : size * count / size ≡ count = mul-div_cancel_left count some in record {
      tiled = subst (λ n. Tile 0 ranges n) (end ∙ is) h.tiled;
      framed = h.framed;
      few = omega (arith, all, subst (λ n. length ranges ≤ n * count / size) end h.few);
      even = subst (λ n. All (IsEven ends count n) ranges) is h.even;
    }

-- the size is the end of the last frame
pub size-is : (size : ℕ) (ends : List ℕ) → slice_get ends (length ends - 1) ≡ Some size → size ≡ last_end 0 ends
size-is size [] is = cc
size-is size (end ∷ ends) is = let last = last_end-get 0 end ends in cc

pub size-some : (size : ℕ) (ends : List ℕ) → AreEnds 0 ends → slice_get ends (length ends - 1) ≡ Some size → 0 < size
size-some size [] are is = cc
size-some size (end ∷ ends) are is = omega (arith, are.0, some_end end ends are.1, size-is size (end ∷ ends) is)

-- the next end among those seen
pub taken : (ends : List ℕ) (i end : ℕ) → i < length ends → end ≡ get_or ends i 0 → take (i + 1) ends ≡ take i ends ++ end ∷ []
taken ends i end within is = rw add-one (take-suc ends i 0 within ∙ ap (λ e. take i ends ++ e ∷ []) (sym is))

pub cutting-at : (size count : ℕ) (ends seen : List ℕ) (from next : ℕ) (ranges after : List Range) → seen ≡ ends → next ≡ from → after ≡ ranges → Cutting size count ends from ranges → Cutting size count seen next after
cutting-at size count ends seen from next ranges after ends-is from-is ranges-is h =
    subst (λ (e : List ℕ). Cutting size count e next after) (sym ends-is) (subst (λ n. Cutting size count ends n after) (sym from-is) (subst (λ (r : List Range). Cutting size count ends from r) (sym ranges-is) h))
