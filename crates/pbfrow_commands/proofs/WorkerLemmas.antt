-- Ranges that were imported one by one are the import of the file that they tile.
use Rattle.std.proofs.Common.{◌≡◌, ◌⊎◌, ℕ, zero, suc, ◌+◌, ◌-◌, ◌^◌, ◌≤◌, List, [], ◌∷◌, ◌++◌, length, take, drop, Option, Some, None, Result, Ok, refl, sym, ap, subst, ◌∙◌, inl, inr, arith, length-append, append_assoc, take-append-drop, zero-add}
use Rattle.std.specs.Prelude.{◌↔◌, All, Contains}
use Rattle.std.specs.Ordering.{nat_cmp}
use Rattle.std.specs.List.{AllZip}
use Rattle.std.specs.FinMap.{get, empty, get-empty}
use Rattle.std.specs.Io.KnownBytes.{Consumes}
use Rattle.std.proofs.lemmas.List.{take-take, take_at, take_all, drop_at, drop-drop, drop-take, append_cancel_left}
use Rattle.std.proofs.lemmas.List.Elements.{All-contains}
use Rattle.pbf_frame.specs.declared.fault.FrameFault.{FrameFault}
use Rattle.pbf_frame.specs.Frame.{Found, found_at, frame_at}
use Rattle.pbf_frame.proofs.FrameLaws.{frame_again}
use Rattle.pbf_frame.specs.Cutting.{Tile, last_end}
use Rattle.pbf_frame.specs.declared.ranges.Range.{Range}
use Rattle.osm_rows.specs.Held.{Blob, HeldMap, IsApart}
use Rattle.osm_import.specs.Copies.{IsUnited}
use Rattle.osm_import.specs.Deliveries.{DeliveryValue}
use Rattle.osm_reading.specs.Framings.{Known}
use Rattle.osm_import.specs.Files.{AreFrames, StandsAt, joined}
use Rattle.osm_reading.specs.Good.{IsFrame}
use Rattle.osm_import.specs.Merges.{AreUnited, IsImported, AreImported, all_of, placed_from, frames_in}
use Rattle.osm_import.specs.Runs.{IsGoodIn}
use Rattle.osm_import.specs.Step.{IsEntry, IsHeldAlready}
use Rattle.osm_import.proofs.FilesLemmas.{stands-apart, stands-from, stands-same, entry-same}
use Rattle.osm_reading.proofs.GoodLaws.{frame-filled}
use Rattle.osm_import.proofs.MergeLemmas.{good_both, one_map}
use Rattle.osm_parts.specs.Parts.{AreApart, AreParts, LiesIn, FollowFrom, IsInPart}
use Rattle.osm_parts.proofs.WholeLemmas.{whole-exists}
use Rattle.osm_verify.proofs.LawLemmas.{good-stands}
use Rattle.pbfrow_commands.specs.Importing.{AreHeld, IsOfFrames}
use Rattle.pbfrow_reading.specs.Ranging.{ends_from}
use Rattle.pbfrow_reading.specs.Walks as walks
use Rattle.pbfrow_reading.proofs.RangesLemmas.{last_end-ends_from}
use Rattle.pbfrow_commands.specs.Workers.{PlanTiles, FileGives, PieceGives, bytes_between, HasFilled, HaveFilled, HasFilledOwn, FramesAreOne, OneDatabaseHoldsAll, StaysFilled, FilledRangesStay, DatabasesAreParts}

-- ---- the plan

pub plan-tiles : PlanTiles
plan-tiles count file plan (frames, are, is_joined, ranges) =
    let end : last_end 0 (ends_from 0 frames) ≡ length file = last_end-ends_from 0 frames ∙ zero-add (length (walks.joined frames)) ∙ sym (ap length is_joined) in
    subst (λ n. Tile 0 plan n) end ranges.tiled

-- ---- what a worker is given

pub file-gives : FileGives
file-gives file from to place dropped sum = record {
  bytes = drop place file;
  known = refl;
  same = ap (take (to - from)) (drop-drop dropped place file ∙ ap (λ n. drop n file) sum);
}

pub piece-gives : PieceGives
piece-gives file from to = record {
  bytes = bytes_between from to file;
  known = refl;
  same = take-take (to - from) (to - from) (drop from file) (omega arith);
}

-- ---- frames that follow one another

long : (w : List ℕ) → IsFrame w → 4 ≤ length w
long w is = frame-filled is.0 is.1 w is.2

frames-append : (ws vs : List (List ℕ)) → AreFrames ws → AreFrames vs → AreFrames (ws ++ vs)
frames-append [] vs whole also = also
frames-append (w ∷ ws) vs whole also = (whole.0, frames-append ws vs whole.1 also)

joined-append : (ws vs : List (List ℕ)) → joined (ws ++ vs) ≡ joined ws ++ joined vs
joined-append [] vs = refl
joined-append (w ∷ ws) vs = ap (λ (l : List ℕ). w ++ l) (joined-append ws vs) ∙ sym (append_assoc w (joined ws) (joined vs))

behind : (start : ℕ) (w : List ℕ) (ws : List (List ℕ)) → start + length w + length (joined ws) ≡ start + length (w ++ joined ws)
behind start w ws = omega (arith, length-append w (joined ws))

stands-left : (start : ℕ) (ws vs : List (List ℕ)) (off : ℕ) (w : List ℕ) → StandsAt start ws off w → StandsAt start (ws ++ vs) off w
stands-left start [] vs off w stands = absurd stands
stands-left start (first ∷ ws) vs off w stands = elim stands [ inl here ↦ inl here | inr later ↦ inr (stands-left (start + length first) ws vs off w later) ]

stands-right : (start : ℕ) (ws vs : List (List ℕ)) (off : ℕ) (w : List ℕ) → StandsAt (start + length (joined ws)) vs off w → StandsAt start (ws ++ vs) off w
stands-right start [] vs off w stands = let none : start + 0 ≡ start = omega arith in subst (λ n. StandsAt n vs off w) none stands
stands-right start (first ∷ ws) vs off w stands = inr (stands-right (start + length first) ws vs off w (subst (λ n. StandsAt n vs off w) (sym (behind start first ws)) stands))

held-append : (held : HeldMap) (start : ℕ) (ws vs : List (List ℕ)) → AreHeld held start ws → AreHeld held (start + length (joined ws)) vs → AreHeld held start (ws ++ vs)
held-append held start [] vs all also = let none : start + 0 ≡ start = omega arith in subst (λ n. AreHeld held n vs) none also
held-append held start (w ∷ ws) vs all also = (all.0, held-append held (start + length w) ws vs all.1 (subst (λ n. AreHeld held n vs) (sym (behind start w ws)) also))

-- a frame ends where the last one ends, or before
stands-before : (start : ℕ) (ws : List (List ℕ)) (off : ℕ) (w : List ℕ) → StandsAt start ws off w → off + length w ≤ start + length (joined ws)
stands-before start [] off w stands = absurd stands
stands-before start (first ∷ ws) off w stands = elim stands [
  | inl (here, same) ↦ (let sum = behind start first ws in omega (arith, sum, ap length same))
  | inr later ↦ (let sum = behind start first ws in let rest = stands-before (start + length first) ws off w later in omega (arith, sum, rest))
]

stands-filled : (start : ℕ) (ws : List (List ℕ)) → AreFrames ws → (off : ℕ) (w : List ℕ) → StandsAt start ws off w → 4 ≤ length w
stands-filled start [] whole off w stands = absurd stands
stands-filled start (first ∷ ws) whole off w stands = elim stands [
  | inl (_, same) ↦ subst (λ (v : List ℕ). 4 ≤ length v) (sym same) (long first whole.0)
  | inr later ↦ stands-filled (start + length first) ws whole.1 off w later
]

-- ---- bytes are frames in one way

abbrev read : Found → Result Found FrameFault
read f = Ok f

same-length : (w v x y : List ℕ) → IsFrame w → IsFrame v → w ++ x ≡ v ++ y → length w ≡ length v
same-length w v x y (type, blob, is) (kind, other, also) same =
    let e : read (found_at type blob (length w)) ≡ read (found_at kind other (length v)) = sym (frame_again type blob w x is) ∙ ap frame_at same ∙ frame_again kind other v y also in
    let one : found_at type blob (length w) ≡ found_at kind other (length v) = cc in
    ap (λ (f : Found). f.len) one

no-frames : (w x : List ℕ) → IsFrame w → [] ≡ w ++ x → ⊥
no-frames w x is none = let filled = long w is in let e : 0 ≡ length (w ++ x) = ap length none in omega (arith, filled, e, length-append w x)

pub frames-are-one : FramesAreOne
frames-are-one [] [] whole also same = refl
frames-are-one [] (v ∷ vs) whole also same = absurd (no-frames v (joined vs) also.0 same)
frames-are-one (w ∷ ws) [] whole also same = absurd (no-frames w (joined ws) whole.0 (sym same))
frames-are-one (w ∷ ws) (v ∷ vs) whole also same =
    let len : length w ≡ length v = same-length w v (joined ws) (joined vs) whole.0 also.0 same in
    let first : w ≡ v = sym (take_at w (joined ws) (length w) refl) ∙ ap (take (length w)) same ∙ take_at v (joined vs) (length w) (sym len) in
    let rest : joined ws ≡ joined vs = append_cancel_left v (joined ws) (joined vs) (ap (λ (l : List ℕ). l ++ joined ws) (sym first) ∙ same) in
    let tail : ws ≡ vs = frames-are-one ws vs whole.1 also.1 rest in
    λ i. first i ∷ tail i

-- ---- the frames of a range

-- these frames are the bytes of the file from the one offset to the other
record AreBetween (file : List ℕ) (from to : ℕ) (frames : List (List ℕ)) : Type 0 where
  whole : AreFrames frames
  reach : from + length (joined frames) ≡ to
  bytes : joined frames ≡ bytes_between from to file

filled-bytes : (from to : ℕ) (file bytes : List ℕ) (ws : List (List ℕ)) (skipped : List ℕ) (dropped : ℕ) (input rest : Known) → input ≡ Some bytes → take (to - from) (drop dropped bytes) ≡ bytes_between from to file
    → from + length (joined ws) ≡ to → length skipped ≡ dropped → Consumes input rest (skipped ++ joined ws) → joined ws ≡ bytes_between from to file
filled-bytes from to file bytes ws skipped dropped input None known same reach behind read = absurd (subst (λ (k : Known). Consumes k None (skipped ++ joined ws)) known read)
filled-bytes from to file bytes ws skipped dropped input (Some rest) known same reach all read =
    let is : bytes ≡ (skipped ++ joined ws) ++ rest = subst (λ (k : Known). Consumes k (Some rest) (skipped ++ joined ws)) known read in
    let front : drop dropped bytes ≡ joined ws ++ rest = ap (drop dropped) (is ∙ append_assoc skipped (joined ws) rest) ∙ drop_at skipped (joined ws ++ rest) dropped all in
    let len : length (joined ws) ≡ to - from = omega (arith, reach) in
    sym (ap (take (to - from)) front ∙ take_at (joined ws) rest (to - from) len) ∙ same

filled-between : (file : List ℕ) (range : Range) (before after : HeldMap) → (filled : HasFilled file range before after) → AreBetween file range.from range.to filled.done.frames
filled-between file range before after filled = record {
  whole = filled.done.whole;
  reach = filled.done.reach;
  bytes = filled-bytes range.from range.to file filled.given.bytes filled.done.frames filled.done.skipped filled.dropped filled.input filled.done.rest filled.given.known filled.given.same filled.done.reach filled.done.behind filled.done.read;
}

between-one : (file : List ℕ) (from to : ℕ) (ws vs : List (List ℕ)) → AreBetween file from to ws → AreBetween file from to vs → ws ≡ vs
between-one file from to ws vs is also = frames-are-one ws vs is.whole also.whole (is.bytes ∙ sym also.bytes)

take-more : (n m : ℕ) (xs : List ℕ) → take n xs ++ take m (drop n xs) ≡ take (n + m) xs
take-more n m xs =
    let within : n ≤ n + m = omega arith in
    ap (λ (l : List ℕ). l ++ take m (drop n xs)) (sym (take-take n (n + m) xs within)) ∙ ap (λ (l : List ℕ). take n (take (n + m) xs) ++ l) (sym (drop-take n m xs)) ∙ take-append-drop n (take (n + m) xs)

bytes-more : (from mid to : ℕ) (file : List ℕ) → from ≤ mid → mid ≤ to → bytes_between from mid file ++ bytes_between mid to file ≡ bytes_between from to file
bytes-more from mid to file low high =
    let there : from + (mid - from) ≡ mid = omega (arith, low) in
    let sum : (mid - from) + (to - mid) ≡ to - from = omega (arith, low, high) in
    ap (λ (l : List ℕ). bytes_between from mid file ++ take (to - mid) l) (sym (drop-drop (mid - from) from file ∙ ap (λ n. drop n file) there))
    ∙ take-more (mid - from) (to - mid) (drop from file) ∙ ap (λ n. take n (drop from file)) sum

between-append : (file : List ℕ) (from mid to : ℕ) (ws vs : List (List ℕ)) → AreBetween file from mid ws → AreBetween file mid to vs → AreBetween file from to (ws ++ vs)
between-append file from mid to ws vs is also =
    let len : length (joined (ws ++ vs)) ≡ length (joined ws) + length (joined vs) = ap length (joined-append ws vs) ∙ length-append (joined ws) (joined vs) in
    let low : from ≤ mid = omega (arith, is.reach) in
    let high : mid ≤ to = omega (arith, also.reach) in
    record {
      whole = frames-append ws vs is.whole also.whole;
      reach = omega (arith, len, is.reach, also.reach);
      bytes = joined-append ws vs ∙ ap (λ (l : List ℕ). l ++ joined vs) is.bytes ∙ ap (λ (l : List ℕ). bytes_between from mid file ++ l) also.bytes ∙ bytes-more from mid to file low high;
    }

-- ---- the frames of a plan

-- the frames of each range
abbrev AreEach : List ℕ → List Range → List (List (List ℕ)) → Type 0
AreEach file [] [] = Unit {0}
AreEach file [] (part ∷ parts) = ⊥
AreEach file (range ∷ plan) [] = ⊥
AreEach file (range ∷ plan) (part ∷ parts) = AreBetween file range.from range.to part × AreEach file plan parts

tiled-between : (file : List ℕ) (from to : ℕ) (plan : List Range) (parts : List (List (List ℕ))) → Tile from plan to → AreEach file plan parts → AreBetween file from to (frames_in parts)
tiled-between file from to [] [] tiled each =
    let none : to - from ≡ 0 = omega (arith, tiled) in
    let reach : from + 0 ≡ to = omega (arith, tiled) in
    record { whole = tt; reach = reach; bytes = sym (ap (λ n. take n (drop from file)) none) }
tiled-between file from to [] (part ∷ parts) tiled each = absurd each
tiled-between file from to (range ∷ plan) [] tiled each = absurd each
tiled-between file from to (range ∷ plan) (part ∷ parts) tiled each =
    between-append file from range.to to part (frames_in parts) (subst (λ n. AreBetween file n range.to part) tiled.0 each.0) (tiled-between file range.to to plan parts tiled.2 each.1)

first-among : {X : Type 0} (x : X) (xs : List X) → Contains (x ∷ xs) x
first-among x xs = (zero, omega arith, refl)

later-among : {X : Type 0} (x : X) (xs : List X) (y : X) → Contains xs y → Contains (x ∷ xs) y
later-among x xs y (k, lt, is) = (suc k, omega (arith, lt), is)

-- the first of a list, or behind it
contains-cases : {X : Type 0} (x : X) (xs : List X) (y : X) → Contains (x ∷ xs) y → (x ≡ y) ⊎ Contains xs y
contains-cases x xs y (zero, lt, is) = inl is
contains-cases x xs y (suc k, lt, is) = inr (k, omega (arith, lt), is)

-- where the frames of a range of the plan stand in the file
part-stands : (file : List ℕ) (from to : ℕ) (plan : List Range) (parts : List (List (List ℕ))) → Tile from plan to → AreEach file plan parts
    → (range : Range) (ws : List (List ℕ)) → Contains plan range → AreBetween file range.from range.to ws → (off : ℕ) (w : List ℕ) → StandsAt range.from ws off w → StandsAt from (frames_in parts) off w
part-stands file from to [] parts tiled each range ws (k, lt, _) is off w stands = absurd (omega (arith, lt))
part-stands file from to (first ∷ plan) [] tiled each range ws among is off w stands = absurd each
part-stands file from to (first ∷ plan) (part ∷ parts) tiled each range ws among is off w stands = elim (contains-cases first plan range among) [
  | inl same ↦
      let own : AreBetween file first.from first.to ws = subst (λ (r : Range). AreBetween file r.from r.to ws) (sym same) is in
      let one : ws ≡ part = between-one file first.from first.to ws part own each.0 in
      let begins : range.from ≡ from = ap (λ (r : Range). r.from) (sym same) ∙ tiled.0 in
      stands-left from part (frames_in parts) off w (subst (λ (vs : List (List ℕ)). StandsAt from vs off w) one (subst (λ n. StandsAt n ws off w) begins stands))
  | inr later ↦
      let reach : from + length (joined part) ≡ first.to = subst (λ n. n + length (joined part) ≡ first.to) tiled.0 each.0.reach in
      stands-right from part (frames_in parts) off w (subst (λ n. StandsAt n (frames_in parts) off w) (sym reach) (part-stands file first.to to plan parts tiled.2 each.1 range ws later is off w stands))
]

-- where those of each range are held, so are all
plan-held : (file : List ℕ) (held : HeldMap) (from to : ℕ) (plan : List Range) (parts : List (List (List ℕ))) → Tile from plan to → AreEach file plan parts
    → ((range : Range) (ws : List (List ℕ)) → Contains plan range → AreBetween file range.from range.to ws → AreHeld held range.from ws) → AreHeld held from (frames_in parts)
plan-held file held from to [] [] tiled each all = tt
plan-held file held from to [] (part ∷ parts) tiled each all = absurd each
plan-held file held from to (range ∷ plan) [] tiled each all = absurd each
plan-held file held from to (range ∷ plan) (part ∷ parts) tiled each all =
    let here : AreHeld held from part = subst (λ n. AreHeld held n part) tiled.0 (all range part (first-among range plan) each.0) in
    let rest = plan-held file held range.to to plan parts tiled.2 each.1 (λ r ws among is. all r ws (later-among range plan r among) is) in
    let reach : from + length (joined part) ≡ range.to = subst (λ n. n + length (joined part) ≡ range.to) tiled.0 each.0.reach in
    held-append held from part (frames_in parts) here (subst (λ n. AreHeld held n (frames_in parts)) (sym reach) rest)

-- ---- what is held of frames

held-at : (held : HeldMap) (start : ℕ) (frames : List (List ℕ)) → AreHeld held start frames → (off : ℕ) (w : List ℕ) → StandsAt start frames off w → IsHeldAlready held off w
held-at held start [] all off w stands = absurd stands
held-at held start (first ∷ rest) all off w stands = elim stands [
  | inl (here, is) ↦ subst (λ n. IsHeldAlready held n w) (sym here) (subst (λ (v : List ℕ). IsHeldAlready held start v) (sym is) all.0)
  | inr later ↦ held-at held (start + length first) rest all.1 off w later
]

stands-good : (start : ℕ) (frames : List (List ℕ)) (off : ℕ) (blob : Blob) → IsOfFrames start frames off blob → IsGoodIn (placed_from start frames) off blob
stands-good start [] off blob (w, stands, entry) = absurd stands
stands-good start (first ∷ rest) off blob (w, stands, entry) = elim stands [
  | inl (here, is) ↦ inl (here, subst (λ (v : List ℕ). IsEntry off v blob) is entry)
  | inr later ↦ inr (stands-good (start + length first) rest off blob (w, later, entry))
]

-- where each frame is held and nothing else is, it is what an import of them comes to
all-imported : (start : ℕ) (frames : List (List ℕ)) (held : HeldMap) → AreFrames frames → AreHeld held start frames → ((off : ℕ) (blob : Blob) → get held off ≡ Some blob → IsOfFrames start frames off blob)
    → IsImported (placed_from start frames) held
all-imported start frames held whole all only off blob = (
  (λ is. stands-good start frames off blob (only off blob is)),
  (λ good.
      let there = good-stands start frames off blob good in
      let here = held-at held start frames all off there.0 there.1 in
      let its = only off here.blob here.found in
      let one : its.0 ≡ there.0 = stands-same start frames whole off its.0 there.0 its.1 there.1 in
      let same : here.blob ≡ blob = entry-same off there.0 here.blob blob (subst (λ (w : List ℕ). IsEntry off w here.blob) one its.2) there.2 in
      here.found ∙ ap Some same),
)

-- ---- one database

held-stays : (held after : HeldMap) → ((off : ℕ) (blob : Blob) → get held off ≡ Some blob → get after off ≡ Some blob) → (start : ℕ) (frames : List (List ℕ)) → AreHeld held start frames → AreHeld after start frames
held-stays held after kept start [] all = tt
held-stays held after kept start (w ∷ ws) all = (
  record { entry = all.0.entry; is_entry = all.0.is_entry; blob = all.0.blob; found = kept start all.0.blob all.0.found; same = all.0.same },
  held-stays held after kept (start + length w) ws all.1,
)

filled-held : (file : List ℕ) (range : Range) (before after : HeldMap) → (filled : HasFilled file range before after) → AreHeld after range.from filled.done.frames
filled-held file range before after filled = subst (λ (m : HeldMap). AreHeld m range.from filled.done.frames) filled.done.is_held filled.done.all

filled-kept : (file : List ℕ) (range : Range) (before after : HeldMap) → HasFilled file range before after → (off : ℕ) (blob : Blob) → get before off ≡ Some blob → get after off ≡ Some blob
filled-kept file range before after filled off blob was = ap (λ (m : HeldMap). get m off) (sym filled.done.is_held) ∙ filled.done.kept off blob was

filled-only : (file : List ℕ) (range : Range) (before after : HeldMap) → (filled : HasFilled file range before after) → (off : ℕ) (blob : Blob) → get after off ≡ Some blob
    → (get before off ≡ Some blob) ⊎ IsOfFrames range.from filled.done.frames off blob
filled-only file range before after filled off blob is = filled.done.only off blob (ap (λ (m : HeldMap). get m off) filled.done.is_held ∙ is)

all-kept : (file : List ℕ) (ranges : List Range) (before after : HeldMap) → HaveFilled file ranges before after → (off : ℕ) (blob : Blob) → get before off ≡ Some blob → get after off ≡ Some blob
all-kept file [] before after filled off blob was = ap (λ (m : HeldMap). get m off) filled ∙ was
all-kept file (range ∷ ranges) before after (next, one, rest) off blob was = all-kept file ranges next after rest off blob (filled-kept file range before next one off blob was)

-- the frames of a range that was filled, which are held
record IsFilled (file : List ℕ) (range : Range) (held : HeldMap) : Type 0 where
  frames : List (List ℕ)
  between : AreBetween file range.from range.to frames
  all : AreHeld held range.from frames

each-filled : (file : List ℕ) (ranges : List Range) (before after : HeldMap) → HaveFilled file ranges before after → (range : Range) → Contains ranges range → IsFilled file range after
each-filled file [] before after filled range (k, lt, _) = absurd (omega (arith, lt))
each-filled file (first ∷ ranges) before after (next, one, rest) range among = elim (contains-cases first ranges range among) [
  | inl same ↦ subst (λ (r : Range). IsFilled file r after) same (record {
    frames = one.done.frames;
    between = filled-between file first before next one;
    all = held-stays next after (all-kept file ranges next after rest) first.from one.done.frames (filled-held file first before next one);
  })
  | inr later ↦ each-filled file ranges next after rest range later
]

-- the blob is of a frame of one of the ranges
record IsOfRange (file : List ℕ) (ranges : List Range) (off : ℕ) (blob : Blob) : Type 0 where
  range : Range
  among : Contains ranges range
  frames : List (List ℕ)
  between : AreBetween file range.from range.to frames
  of : IsOfFrames range.from frames off blob

range-later : (file : List ℕ) (first : Range) (ranges : List Range) (off : ℕ) (blob : Blob) → IsOfRange file ranges off blob → IsOfRange file (first ∷ ranges) off blob
range-later file first ranges off blob is = record { range = is.range; among = later-among first ranges is.range is.among; frames = is.frames; between = is.between; of = is.of }

only-filled : (file : List ℕ) (ranges : List Range) (before after : HeldMap) → HaveFilled file ranges before after → (off : ℕ) (blob : Blob) → get after off ≡ Some blob
    → (get before off ≡ Some blob) ⊎ IsOfRange file ranges off blob
only-filled file [] before after filled off blob is = inl (ap (λ (m : HeldMap). get m off) (sym filled) ∙ is)
only-filled file (first ∷ ranges) before after (next, one, rest) off blob is = elim (only-filled file ranges next after rest off blob is) [
  | inl was ↦ elim (filled-only file first before next one off blob was) [
    | inl earlier ↦ inl earlier
    | inr here ↦ inr (record { range = first; among = first-among first ranges; frames = one.done.frames; between = filled-between file first before next one; of = here })
  ]
  | inr later ↦ inr (range-later file first ranges off blob later)
]

-- the frames of each range of the plan
plan-parts : (file : List ℕ) (plan : List Range) → ((range : Range) → Contains plan range → (ws : List (List ℕ)) × AreBetween file range.from range.to ws) → (parts : List (List (List ℕ))) × AreEach file plan parts
plan-parts file [] each = ([], tt)
plan-parts file (range ∷ plan) each =
    let here = each range (first-among range plan) in
    let rest = plan-parts file plan (λ r among. each r (later-among range plan r among)) in
    (here.0 ∷ rest.0, (here.1, rest.1))

whole-bytes : (file : List ℕ) (frames : List (List ℕ)) → AreBetween file 0 (length file) frames → file ≡ joined frames
whole-bytes file frames is = sym (take_all (length file - 0) file (omega arith)) ∙ sym is.bytes

-- the frames of a plan whose ranges are filled
record IsPlanFilled (file : List ℕ) (plan : List Range) (held : HeldMap) : Type 0 where
  parts : List (List (List ℕ))
  each : AreEach file plan parts
  between : AreBetween file 0 (length file) (frames_in parts)
  all : AreHeld held 0 (frames_in parts)

plan-filled : (file : List ℕ) (plan : List Range) (held : HeldMap) → Tile 0 plan (length file) → ((range : Range) → Contains plan range → IsFilled file range held) → IsPlanFilled file plan held
plan-filled file plan held tiled done =
    let found = plan-parts file plan (λ range among. let it = done range among in (it.frames, it.between)) in
    record {
      parts = found.0;
      each = found.1;
      between = tiled-between file 0 (length file) plan found.0 tiled found.1;
      all = plan-held file held 0 (length file) plan found.0 tiled found.1 (λ range ws among is.
          let it = done range among in subst (λ (vs : List (List ℕ)). AreHeld held range.from vs) (between-one file range.from range.to it.frames ws it.between is) it.all);
    }

pub filled-ranges-stay : FilledRangesStay
filled-ranges-stay file plan now tiled stays =
    let whole = plan-filled file plan now tiled (λ range among.
    let it = All-contains (StaysFilled file now) plan range stays among in record {
      frames = it.filled.done.frames;
      between = filled-between file range it.before it.after it.filled;
      all = held-stays it.after now it.kept range.from it.filled.done.frames (filled-held file range it.before it.after it.filled);
    }) in
    record {
      frames = frames_in whole.parts;
      whole = whole.between.whole;
      are_joined = whole-bytes file (frames_in whole.parts) whole.between;
      all = whole.all;
      imported = all-imported 0 (frames_in whole.parts) now whole.between.whole whole.all;
    }

pub one-database-holds-all : OneDatabaseHoldsAll
one-database-holds-all file plan ranges before after tiled wanted known filled =
    let whole = plan-filled file plan after tiled (λ range among. each-filled file ranges before after filled range (All-contains (Contains ranges) plan range wanted among)) in
    record {
      frames = frames_in whole.parts;
      whole = whole.between.whole;
      are_joined = whole-bytes file (frames_in whole.parts) whole.between;
      all = whole.all;
      imported = λ of_file. all-imported 0 (frames_in whole.parts) after whole.between.whole whole.all (λ off blob is. elim (only-filled file ranges before after filled off blob is) [
        | inl was ↦ of_file off blob was
        | inr here ↦ (
          here.of.0,
          part-stands file 0 (length file) plan whole.parts tiled whole.each here.range here.frames (All-contains (Contains plan) ranges here.range known here.among) here.between off here.of.0 here.of.1,
          here.of.2,
        )
      ]);
    }

-- ---- a database for each worker

own-only : (file : List ℕ) (range : Range) (held : HeldMap) → (own : HasFilledOwn file range held) → (off : ℕ) (blob : Blob) → get held off ≡ Some blob → IsOfFrames range.from own.filled.done.frames off blob
own-only file range held own off blob is = elim (filled-only file range own.before held own.filled off blob is) [ inl was ↦ own.own off blob was | inr here ↦ here ]

own-lies : (file : List ℕ) (range : Range) (held : HeldMap) → HasFilledOwn file range held → LiesIn range.from range.to held
own-lies file range held own off blob is =
    let frames = own.filled.done.frames in
    let it = own-only file range held own off blob is in
    let low : range.from ≤ off = stands-from range.from frames off it.0 it.1 in
    let filled : 4 ≤ length it.0 = stands-filled range.from frames own.filled.done.whole off it.0 it.1 in
    let high : off + length it.0 ≤ range.from + length (joined frames) = stands-before range.from frames off it.0 it.1 in
    let fin : blob.fin ≡ off + length it.0 = it.2.ends in
    let reach : range.from + length (joined frames) ≡ range.to = own.filled.done.reach in
    (low, omega (arith, filled, fin), omega (arith, high, fin, reach))

-- its blobs have bytes, don't meet, and end where a blob may
own-apart : (file : List ℕ) (range : Range) (held : HeldMap) → HasFilledOwn file range held → IsApart held
own-apart file range held own = record {
  filled = λ off blob is. (own-lies file range held own off blob is).1;
  limit = λ off blob is.
      let it = own-only file range held own off blob is in
      let limit : off + length it.0 ≤ 2 ^ 62 = it.2.good.placed.limit in
      let fin : blob.fin ≡ off + length it.0 = it.2.ends in
      let end : blob.fin ≤ 2 ^ 62 = omega (arith, limit, fin) in end;
  apart = λ off next blob other is there order.
      let it = own-only file range held own off blob is in
      let behind = own-only file range held own next other there in
      let fin : blob.fin ≡ off + length it.0 = it.2.ends in
      let end : off + length it.0 ≤ next = stands-apart range.from own.filled.done.frames off next it.0 behind.0 it.1 behind.1 order in omega (arith, fin, end);
}

-- what is known of the maps of a plan from this offset on
record AreOwn (file : List ℕ) (from : ℕ) (plan : List Range) (maps : List HeldMap) : Type 0 where
  parts : List (List (List ℕ))
  each : AreEach file plan parts
  follow : FollowFrom from maps
  apart : AreApart maps
  deliveries : List (List DeliveryValue)
  imported : AreImported deliveries maps
  together : all_of deliveries ≡ placed_from from (frames_in parts)

-- what is held in one of the maps is the entry of a good delivery of its part
in-good : (parts : List (List DeliveryValue)) (maps : List HeldMap) (off : ℕ) (blob : Blob) → AreImported parts maps → IsInPart maps off blob ↔ IsGoodIn (all_of parts) off blob
in-good [] [] off blob imported = ((λ no. no), (λ no. no))
in-good [] (held ∷ maps) off blob imported = absurd imported
in-good (part ∷ parts) [] off blob imported = absurd imported
in-good (part ∷ parts) (held ∷ maps) off blob imported =
    let split = good_both part (all_of parts) off blob in
    let rest = in-good parts maps off blob imported.1 in (
      (λ is. elim is [ inl here ↦ split.1 (inl ((imported.0 off blob).0 here)) | inr later ↦ split.1 (inr (rest.0 later)) ]),
      (λ good. elim (split.0 good) [ inl here ↦ inl ((imported.0 off blob).1 here) | inr later ↦ inr (rest.1 later) ]),
    )

placed-append : (start : ℕ) (ws vs : List (List ℕ)) → placed_from start (ws ++ vs) ≡ placed_from start ws ++ placed_from (start + length (joined ws)) vs
placed-append start [] vs = let none : start ≡ start + 0 = omega arith in ap (λ n. placed_from n vs) none
placed-append start (w ∷ ws) vs =
    ap (λ (ds : List DeliveryValue). record { off = start; bytes = w } ∷ ds) (placed-append (start + length w) ws vs ∙ ap (λ n. placed_from (start + length w) ws ++ placed_from n vs) (behind start w ws))

all-own : (file : List ℕ) (from to : ℕ) (plan : List Range) (maps : List HeldMap) → Tile from plan to → AllZip (HasFilledOwn file) plan maps → AreOwn file from plan maps
all-own file from to [] [] tiled own = record { parts = []; each = tt; follow = tt; apart = tt; deliveries = []; imported = tt; together = refl }
all-own file from to [] (held ∷ maps) tiled own = absurd own
all-own file from to (range ∷ plan) [] tiled own = absurd own
all-own file from to (range ∷ plan) (held ∷ maps) tiled own =
    let rest = all-own file range.to to plan maps tiled.2 own.1 in
    let frames = own.0.filled.done.frames in
    let between : AreBetween file range.from range.to frames = filled-between file range own.0.before held own.0.filled in
    let one : IsImported (placed_from range.from frames) held =
    all-imported range.from frames held between.whole (filled-held file range own.0.before held own.0.filled) (own-only file range held own.0) in
    let reach : from + length (joined frames) ≡ range.to = subst (λ n. n + length (joined frames) ≡ range.to) tiled.0 between.reach in
    record {
      parts = frames ∷ rest.parts;
      each = (between, rest.each);
      follow = (range.to, omega (arith, reach), subst (λ n. LiesIn n range.to held) tiled.0 (own-lies file range held own.0), rest.follow);
      apart = (own-apart file range held own.0, rest.apart);
      deliveries = placed_from from frames ∷ rest.deliveries;
      imported = (subst (λ n. IsImported (placed_from n frames) held) tiled.0 one, rest.imported);
      together = ap (λ (ds : List DeliveryValue). placed_from from frames ++ ds) (rest.together ∙ ap (λ n. placed_from n (frames_in rest.parts)) (sym reach)) ∙ sym (placed-append from frames (frames_in rest.parts));
    }

-- ---- maps that are united

-- all that the one map holds, the other holds
abbrev IsIn : HeldMap → HeldMap → Type 0
IsIn held other = (off : ℕ) (blob : Blob) → get held off ≡ Some blob → get other off ≡ Some blob

source-in : (one source held next : HeldMap) → IsIn source one → IsIn held one → IsUnited source held next → IsIn source next
source-in one source held next within also step off blob there = at (get held off) refl
  where
    at : (o : Option Blob) → get held off ≡ o → get next off ≡ Some blob
    at None free = step.added off blob tt there free
    at (Some other) was = step.kept off other was ∙ sym (also off other was) ∙ within off blob there

united-in : (one source held next : HeldMap) → IsIn source one → IsIn held one → IsUnited source held next → IsIn next one
united-in one source held next within also step off blob is = elim (step.only off blob is) [ inl was ↦ also off blob was | inr (_, there, _) ↦ within off blob there ]

-- within one map a union holds what its sources hold, and nothing else
record IsUnionIn (one : HeldMap) (order : List HeldMap) (held after : HeldMap) : Type 0 where
  within : IsIn after one
  kept : IsIn held after
  all : (source : HeldMap) → Contains order source → IsIn source after

united-all : (one : HeldMap) (order : List HeldMap) (held after : HeldMap) → ((source : HeldMap) → Contains order source → IsIn source one) → IsIn held one → AreUnited order held after → IsUnionIn one order held after
united-all one [] held after within also united = record {
  within = λ off blob is. also off blob (ap (λ (m : HeldMap). get m off) (sym united) ∙ is);
  kept = λ off blob was. ap (λ (m : HeldMap). get m off) united ∙ was;
  all = λ source among. absurd (omega (arith, among.1));
}
united-all one (first ∷ order) held after within also (next, step, rest) =
    let first_in = within first (first-among first order) in
    let it = united-all one order next after (λ source among. within source (later-among first order source among)) (united-in one first held next first_in also step) rest in
    record {
      within = it.within;
      kept = λ off blob was. it.kept off blob (step.kept off blob was);
      all = λ source among. elim (contains-cases first order source among) [
        | inl same ↦ subst (λ (m : HeldMap). IsIn m after) same (λ off blob there. it.kept off blob (source-in one first held next first_in also step off blob there))
        | inr later ↦ it.all source later
      ];
    }

part-in : (maps : List HeldMap) (source : HeldMap) → Contains maps source → (off : ℕ) (blob : Blob) → get source off ≡ Some blob → IsInPart maps off blob
part-in [] source (k, lt, _) off blob there = absurd (omega (arith, lt))
part-in (first ∷ maps) source among off blob there = elim (contains-cases first maps source among) [
  | inl same ↦ inl (ap (λ (m : HeldMap). get m off) same ∙ there)
  | inr later ↦ inr (part-in maps source later off blob there)
]

part-of : (maps : List HeldMap) (off : ℕ) (blob : Blob) → IsInPart maps off blob → (source : HeldMap) × Contains maps source × (get source off ≡ Some blob)
part-of [] off blob held = absurd held
part-of (first ∷ maps) off blob held = elim held [
  | inl here ↦ (first, first-among first maps, here)
  | inr later ↦ (let it = part-of maps off blob later in (it.0, later-among first maps it.0 it.1, it.2))
]

empty-in : (one : HeldMap) → IsIn empty one
empty-in one off blob is = let bad : Some blob ≡ None = sym is ∙ get-empty nat_cmp off in absurd cc

united-one : (maps : List HeldMap) (one : HeldMap) → AreParts maps one → (order : List HeldMap) (after : HeldMap) → All (Contains maps) order → All (Contains order) maps → AreUnited order empty after → after ≡ one
united-one maps one are order after known wanted united =
    let within : (source : HeldMap) → Contains order source → IsIn source one =
    λ source among off blob there. are.kept off blob (part-in maps source (All-contains (Contains maps) order source known among) off blob there) in
    let it = united-all one order empty after within (empty-in one) united in
    one_map after one (λ off blob. (
      it.within off blob,
      (λ is. let source = part-of maps off blob (are.only off blob is) in it.all source.0 (All-contains (Contains order) maps source.0 wanted source.1) off blob source.2),
    ))

pub databases-are-parts : DatabasesAreParts
databases-are-parts file plan maps tiled own =
    let it = all-own file 0 (length file) plan maps tiled own in
    let frames : List (List ℕ) = frames_in it.parts in
    let between : AreBetween file 0 (length file) frames = tiled-between file 0 (length file) plan it.parts tiled it.each in
    let one = whole-exists maps 0 it.follow in
    record {
      frames = frames;
      whole = between.whole;
      are_joined = whole-bytes file frames between;
      one = one.0;
      imported = subst (λ (ds : List DeliveryValue). IsImported ds one.0) it.together (λ off blob. (
        (λ is. (in-good it.deliveries maps off blob it.imported).0 (one.1.only off blob is)),
        (λ good. one.1.kept off blob ((in-good it.deliveries maps off blob it.imported).1 good)),
      ));
      parts = one.1;
      follow = it.follow;
      apart = it.apart;
      united = united-one maps one.0 one.1;
    }
