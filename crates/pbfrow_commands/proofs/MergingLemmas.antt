-- Stores that are copied into one, one after the other.
use Rattle.std.proofs.Common.{◌≡◌, ℕ, zero, suc, ◌+◌, ◌-◌, ◌^◌, ◌<◌, ◌≤◌, min, Bool, List, [], ◌∷◌, ◌++◌, length, take, slice_get, Option, Some, None, Result, Ok, Err, add-one, append_assoc, append-nil, refl, sym, ◌∙◌, ap, subst, inl, inr}
use Rattle.std.specs.Prelude.{sum_by}
use Rattle.std.specs.FinMap.{get, entries}
use Rattle.std.specs.List.{flat_map}
use Rattle.std.proofs.lemmas.List.{flat_map_more}
use Rattle.std.proofs.lemmas.List.Sums.{sum_by_push}
use Rattle.osm_value.specs.Sink.{Wrote, Writes}
use Rattle.osm_value.proofs.SinkLemmas.{Wrote-text}
use Rattle.osm_rows.specs.Held.{Blob, HeldMap}
use Rattle.osm_rows.specs.declared.keeper.BlobReader.{Ghosts}
use Rattle.osm_import.specs.Copies.{IsMerged, IsUnited, Copies, CrashLeavesSome, Stops, held_among, FaultIsCaused, CopyHasCause, IsOwnCopy}
use Rattle.osm_import.specs.Merges.{AreUnited, IsFrontUnited}
use Rattle.osm_import.specs.Stores.{KeepsHeld}
use Rattle.osm_reading.specs.Framings.{Known}
use Rattle.osm_import.specs.declared.copy.CopyCounts.{CopyCounts}
use Rattle.osm_import.specs.declared.copy.CopyFault.{CopyFault}
use Rattle.osm_import.specs.declared.copy.CopyFault.TheVariants.{Refused, Spoiled, Store}
use Rattle.osm_import.specs.declared.copy.CopyStop.{CopyStop}
use Rattle.osm_import.proofs.MergeLemmas.{front_begun, front_behind}
use Rattle.osm_parts.specs.Opening.{AddsUp, OnlyOpens}
use Rattle.osm_parts.specs.Parts.{IsInPart}
use Rattle.osm_parts.proofs.OpeningLemmas.{cause-closed, cause-later}
use Rattle.pbfrow_commands.specs.Copying.{copied_line, outcome_line}
use Rattle.pbfrow_commands.specs.Merging.{TakesOf, IsMergeOf, AreCopied, CopiesAt, Merges, total_of, end_line, merged_of, store_line, MergeHasCause, IsOwnMerge}
use Rattle.pbfrow_commands.specs.declared.merge.MergeStop.{MergeStop}
use Rattle.pbfrow_commands.specs.declared.merge.MergeStop.TheVariants.{Unopened, Stopped}
use Rattle.pbfrow_reading.proofs.CheckLemmas.{capped-more}

-- ---- maps in a list

in-front : (front behind : List HeldMap) (off : ℕ) (blob : Blob) → IsInPart front off blob → IsInPart (front ++ behind) off blob
in-front [] behind off blob found = absurd found
in-front (first ∷ front) behind off blob found = elim found [ inl here ↦ inl here | inr later ↦ inr (in-front front behind off blob later) ]

in-behind : (front behind : List HeldMap) (off : ℕ) (blob : Blob) → IsInPart behind off blob → IsInPart (front ++ behind) off blob
in-behind [] behind off blob found = found
in-behind (first ∷ front) behind off blob found = inr (in-behind front behind off blob found)

-- the list is what stands before a place, what stands there, and the rest
pub parted : (maps : List HeldMap) (place : ℕ) (source : HeldMap) → slice_get maps place ≡ Some source → (behind : List HeldMap) × (maps ≡ take place maps ++ source ∷ behind)
parted [] place source at = absurd (cc)
parted (first ∷ maps) zero source at = let same : first ≡ source = cc in (maps, ap (λ (m : HeldMap). m ∷ maps) same)
parted (first ∷ maps) (suc place) source at = let it = parted maps place source at in (it.0, ap (λ (l : List HeldMap). first ∷ l) it.1)

take-place : (maps : List HeldMap) (place : ℕ) (source : HeldMap) → slice_get maps place ≡ Some source → take (suc place) maps ≡ take place maps ++ source ∷ []
take-place [] place source at = absurd (cc)
take-place (first ∷ maps) zero source at = let same : first ≡ source = cc in ap (λ (m : HeldMap). m ∷ []) same
take-place (first ∷ maps) (suc place) source at = ap (λ (l : List HeldMap). first ∷ l) (take-place maps place source at)

pub take-next : (maps : List HeldMap) (place : ℕ) (source : HeldMap) → slice_get maps place ≡ Some source → take (place + 1) maps ≡ take place maps ++ source ∷ []
take-next maps place source at = ap (λ n. take n maps) (add-one place) ∙ take-place maps place source at

pub take-none : (maps : List HeldMap) → take 0 maps ≡ []
take-none [] = refl
take-none (first ∷ maps) = refl

-- ---- what a map took

unheld-before : (held middle : HeldMap) (off : ℕ) → ((blob : Blob) → get held off ≡ Some blob → get middle off ≡ Some blob) → get middle off ≡ None → get held off ≡ None
unheld-before held middle off kept free = at (get held off) refl
  where
    at : (o : Option Blob) → get held off ≡ o → get held off ≡ None
    at None is = is
    at (Some blob) is = absurd (let bad : Some blob ≡ None = sym (kept blob is) ∙ free in cc)

takes-none : (maps : List HeldMap) (held : HeldMap) → TakesOf maps held held
takes-none maps held = record { kept = λ off blob is. is; only = λ off blob is. inl is }

pub takes-one : (P : ℕ → Type 0) (source held after : HeldMap) → IsMerged P source held after → TakesOf (source ∷ []) held after
takes-one P source held after m = record {
  kept = m.kept;
  only = λ off blob is. elim (m.only off blob is) [ inl was ↦ inl was | inr (_, there, free) ↦ inr (free, inl there) ];
}

pub takes-then : (front behind : List HeldMap) (held middle after : HeldMap) → TakesOf front held middle → TakesOf behind middle after → TakesOf (front ++ behind) held after
takes-then front behind held middle after one two = record {
  kept = λ off blob is. two.kept off blob (one.kept off blob is);
  only = λ off blob is. elim (two.only off blob is) [
    | inl earlier ↦ elim (one.only off blob earlier) [ inl was ↦ inl was | inr (free, found) ↦ inr (free, in-front front behind off blob found) ]
    | inr (free, found) ↦ inr (unheld-before held middle off (one.kept off) free, in-behind front behind off blob found)
  ];
}

pub takes-wider : (front behind : List HeldMap) (held after : HeldMap) → TakesOf front held after → TakesOf (front ++ behind) held after
takes-wider front behind held after one = record {
  kept = one.kept;
  only = λ off blob is. elim (one.only off blob is) [ inl was ↦ inl was | inr (free, found) ↦ inr (free, in-front front behind off blob found) ];
}

-- the blobs of the first map are held afterwards, or others of their digests
united-all : (source held next : HeldMap) → IsUnited source held next → (off : ℕ) (blob : Blob) → get source off ≡ Some blob → (other : Blob) × (get next off ≡ Some other) × (other.digest ≡ blob.digest)
united-all source held next m off blob there = at (get held off) refl
  where
    at : (o : Option Blob) → get held off ≡ o → (other : Blob) × (get next off ≡ Some other) × (other.digest ≡ blob.digest)
    at None free = (blob, m.added off blob tt there free, refl)
    at (Some other) was = (other, m.kept off other was, m.same off blob other tt there was)

-- maps that were united with it, one after the other, were merged with it
pub copied-merges : (maps : List HeldMap) (counts : List CopyCounts) (held after : HeldMap) → AreCopied maps counts held after → IsMergeOf maps held after
copied-merges [] [] held after same = subst (λ (h : HeldMap). IsMergeOf [] held h) (sym same) (record { takes = takes-none [] held; all = λ off blob found. absurd found })
copied-merges [] (first ∷ counts) held after copied = absurd copied
copied-merges (source ∷ maps) [] held after copied = absurd copied
copied-merges (source ∷ maps) (first ∷ counts) held after (next, united, sum, among, rest) =
    let later = copied-merges maps counts next after rest in
    record {
      takes = takes-then (source ∷ []) maps held next after (takes-one (λ off. Unit {0}) source held next united) later.takes;
      all = λ off blob found. elim found [
        | inl here ↦ (let it = united-all source held next united off blob here in (it.0, later.takes.kept off it.0 it.1, it.2))
        | inr behind ↦ later.all off blob behind
      ];
    }

-- one more store was copied
pub copied-more : (front : List HeldMap) (counts : List CopyCounts) (source held middle after : HeldMap) (more : CopyCounts) → AreCopied front counts held middle
    → IsUnited source middle after → more.copied + more.held ≡ length (entries source) → more.held ≡ held_among middle (entries source) → AreCopied (front ++ source ∷ []) (counts ++ more ∷ []) held after
copied-more [] [] source held middle after more same united sum among =
    subst (λ (h : HeldMap). AreCopied (source ∷ []) (more ∷ []) h after) same (after, united, sum, among, refl)
copied-more [] (first ∷ counts) source held middle after more copied united sum among = absurd copied
copied-more (one ∷ front) [] source held middle after more copied united sum among = absurd copied
copied-more (one ∷ front) (first ∷ counts) source held middle after more (next, here, count, known, rest) united sum among =
    (next, here, count, known, copied-more front counts source next middle after more rest united sum among)

-- ---- one store

pub copies-at : (is_open : Type 0) (holds : HeldMap → Type 0) (source held : HeldMap) (outcome : Result CopyCounts CopyStop) → Copies is_open holds source held outcome → CopiesAt is_open holds source held (merged_of outcome)
copies-at is_open holds source held (Ok counts) copies = copies
copies-at is_open holds source held (Err stop) copies = copies

pub crash-front : (leaves : HeldMap → Type 0) (source held left : HeldMap) (outcome : Result CopyCounts CopyStop) → CrashLeavesSome leaves source held outcome → leaves left → IsFrontUnited (source ∷ []) held left
crash-front leaves source held left (Ok counts) crash may = inr (left, crash left may, refl)
crash-front leaves source held left (Err stop) crash may = inl (crash left may)

pub own-merged : (outcome : Result CopyCounts CopyStop) → IsOwnCopy outcome → IsOwnMerge (merged_of outcome)
own-merged (Ok counts) own = tt
own-merged (Err stop) own = own

pub cause-merged : (old lent new first last before now : ℕ) (outcome : Result CopyCounts CopyStop) → lent ≡ old → AddsUp lent last new → CopyHasCause first last before now outcome → MergeHasCause old new before now (merged_of outcome)
cause-merged old lent new first last before now (Ok counts) same adds cause = tt
cause-merged old lent new first last before now (Err stop) same adds cause = at stop.fault cause
  where
    at : (fault : CopyFault) → FaultIsCaused first last before now fault → FaultIsCaused old new before now fault
    at (Refused conflict) cause = tt
    at Spoiled cause = tt
    at (Store fault) cause = elim cause [ inl from ↦ inl (cause-closed old lent new first last fault same adds from) | inr to ↦ inr to ]

pub kept-merged : {S : Type 0} (store : Ghosts S) (new : S) (outcome : Result CopyCounts CopyStop) (held : HeldMap) → KeepsHeld store new outcome held → KeepsHeld store new (merged_of outcome) held
kept-merged store new (Ok counts) held kept = record { ok = kept.ok; err = tt; crash = kept.crash }
kept-merged store new (Err stop) held kept = record { ok = tt; err = kept.err; crash = kept.crash }

pub opens-merged : {S : Type 0} (holds : S → List HeldMap → Type 0) (is_honest is_open : S → Type 0) (old new : S) (outcome : Result CopyCounts CopyStop) → OnlyOpens holds is_honest is_open old outcome new → OnlyOpens holds is_honest is_open old (merged_of outcome) new
opens-merged {S} holds is_honest is_open old new (Ok counts) opens = record { keeps = opens.keeps; ok = opens.ok }
opens-merged {S} holds is_honest is_open old new (Err stop) opens = record { keeps = opens.keeps; ok = tt }

-- over calls before
pub merge-cause-later : (f0 f1 f2 t0 t1 t2 : ℕ) (outcome : Result CopyCounts MergeStop) → f0 ≤ f1 → t0 ≤ t1 → MergeHasCause f1 f2 t1 t2 outcome → MergeHasCause f0 f2 t0 t2 outcome
merge-cause-later f0 f1 f2 t0 t1 t2 (Ok counts) f t cause = tt
merge-cause-later f0 f1 f2 t0 t1 t2 (Err (Unopened fault)) f t cause = cause-later f0 f1 f2 fault f cause
merge-cause-later f0 f1 f2 t0 t1 t2 (Err (Stopped stop)) f t cause = at stop.fault cause
  where
    at : (fault : CopyFault) → FaultIsCaused f1 f2 t1 t2 fault → FaultIsCaused f0 f2 t0 t2 fault
    at (Refused conflict) cause = tt
    at Spoiled cause = tt
    at (Store fault) cause = elim cause [ inl from ↦ inl (cause-later f0 f1 f2 fault f from) | inr to ↦ inr (cause-later t0 t1 t2 fault t to) ]

-- ---- the whole

-- whatever ended it, what is held is what was held with blobs of these maps
pub merges-take : (is_open : Type 0) (holds : HeldMap → Type 0) (maps : List HeldMap) (held : HeldMap) (counts : List CopyCounts) (outcome : Result CopyCounts MergeStop) → Merges is_open holds maps held counts outcome → is_open
    → (after : HeldMap) × TakesOf maps held after × holds after
merges-take is_open holds maps held counts (Ok total) (after, copied, now) up = (after, (copied-merges maps counts held after copied).takes, now)
merges-take is_open holds maps held counts (Err (Unopened fault)) (front, source, behind, is, next, copied, now) up =
    (next, subst (λ (l : List HeldMap). TakesOf l held next) (sym is) (takes-wider front (source ∷ behind) held next (copied-merges front counts held next copied).takes), now)
merges-take is_open holds maps held counts (Err (Stopped stop)) (front, source, behind, is, next, copied, stops) up =
    let it = at stop.fault stops in
    let both : TakesOf (front ++ source ∷ []) held it.0 = takes-then front (source ∷ []) held next it.0 (copied-merges front counts held next copied).takes it.1 in
    let all : (front ++ source ∷ []) ++ behind ≡ maps = append_assoc front (source ∷ []) behind ∙ sym is in
    (it.0, subst (λ (l : List HeldMap). TakesOf l held it.0) all (takes-wider (front ++ source ∷ []) behind held it.0 both), it.2)
  where
    at : (fault : CopyFault) → Stops is_open holds source next stop.off fault → (after : HeldMap) × TakesOf (source ∷ []) next after × holds after
    at (Refused conflict) (after, united, refused, now) = (after, takes-one (λ off. off < stop.off) source next after united, now)
    at Spoiled never = absurd never
    at (Store fault) (after, united, now) = (after, takes-one (λ off. off < stop.off) source next after united, now up)

pub copied-united : (maps : List HeldMap) (counts : List CopyCounts) (held after : HeldMap) → AreCopied maps counts held after → AreUnited maps held after
copied-united [] [] held after same = same
copied-united [] (first ∷ counts) held after copied = absurd copied
copied-united (source ∷ maps) [] held after copied = absurd copied
copied-united (source ∷ maps) (first ∷ counts) held after (next, united, sum, among, rest) = (next, united, copied-united maps counts next after rest)

-- all of them are a front
pub copied-front : (maps : List HeldMap) (counts : List CopyCounts) (held after : HeldMap) → AreCopied maps counts held after → IsFrontUnited maps held after
copied-front maps counts held after copied = subst (λ (l : List HeldMap). IsFrontUnited l held after) (append-nil maps) (front_behind maps [] held after after (copied-united maps counts held after copied) refl)

front-wider : (source : HeldMap) (behind : List HeldMap) (middle left : HeldMap) → IsFrontUnited (source ∷ []) middle left → IsFrontUnited (source ∷ behind) middle left
front-wider source behind middle left (inl part) = inl part
front-wider source behind middle left (inr (next, united, same)) = inr (next, united, subst (λ (h : HeldMap). IsFrontUnited behind next h) (sym same) (front_begun behind next))

-- a crash at a store leaves a front that ends in it
pub left-front : (maps : List HeldMap) (place : ℕ) (source held middle left : HeldMap) (counts : List CopyCounts) → slice_get maps place ≡ Some source → AreCopied (take place maps) counts held middle → IsFrontUnited (source ∷ []) middle left → IsFrontUnited maps held left
left-front maps place source held middle left counts at copied one =
    let it = parted maps place source at in
    subst (λ (l : List HeldMap). IsFrontUnited l held left) (sym it.1)
    (front_behind (take place maps) (source ∷ it.0) held middle left (copied-united (take place maps) counts held middle copied) (front-wider source it.0 middle left one))

-- ---- the counts and the lines

pub total-more : (so_far : List CopyCounts) (total counts : CopyCounts) (copied held : ℕ) → total ≡ total_of so_far → copied ≡ min (total.copied + counts.copied) (2 ^ 64 - 1) → held ≡ min (total.held + counts.held) (2 ^ 64 - 1)
    → (let made : CopyCounts = record { copied = copied; held = held } in made) ≡ total_of (so_far ++ counts ∷ [])
total-more so_far total counts copied held is copied_is held_is =
    let one = capped-more copied total.copied (sum_by (λ (c : CopyCounts). c.copied) so_far) counts.copied copied_is (ap (λ (c : CopyCounts). c.copied) is) in
    let two = capped-more held total.held (sum_by (λ (c : CopyCounts). c.held) so_far) counts.held held_is (ap (λ (c : CopyCounts). c.held) is) in
    let more = sum_by_push (λ (c : CopyCounts). c.copied) so_far counts in
    let also = sum_by_push (λ (c : CopyCounts). c.held) so_far counts in
    let first : copied ≡ min (sum_by (λ (c : CopyCounts). c.copied) (so_far ++ counts ∷ [])) (2 ^ 64 - 1) = one ∙ ap (λ n. min n (2 ^ 64 - 1)) (sym more) in
    let second : held ≡ min (sum_by (λ (c : CopyCounts). c.held) (so_far ++ counts ∷ [])) (2 ^ 64 - 1) = two ∙ ap (λ n. min n (2 ^ 64 - 1)) (sym also) in
    rw (first, second) refl

-- a line more
pub line-more : (start : Known) (before : List ℕ) (counts : List CopyCounts) (more : CopyCounts) (written : Known) (failed : Bool) → Wrote start ((before ++ flat_map copied_line counts) ++ copied_line more) written failed
    → Wrote start (before ++ flat_map copied_line (counts ++ more ∷ [])) written failed
line-more start before counts more written failed h = Wrote-text start _ _ written failed (flat_map_more copied_line before counts more) h

-- the line of the fault behind them
pub lines-end : (start : Known) (before : List ℕ) (counts : List CopyCounts) (stop : MergeStop) (written : Known) (failed : Bool) → Wrote start ((before ++ flat_map copied_line counts) ++ end_line stop) written failed
    → Wrote start (before ++ (flat_map copied_line counts ++ end_line stop)) written failed
lines-end start before counts stop written failed h = Wrote-text start _ _ written failed (append_assoc before (flat_map copied_line counts) (end_line stop)) h

-- the line of a store, by what its copy came to
pub line-merged : (old : Known) (had_failed : Bool) (new : Known) (failed : Bool) (outcome : Result CopyCounts CopyStop) → Writes old had_failed new failed (outcome_line outcome) → Writes old had_failed new failed (store_line (merged_of outcome))
line-merged old had_failed new failed (Ok counts) h = h
line-merged old had_failed new failed (Err stop) h = h
