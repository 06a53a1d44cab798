-- A map in parts that follow one another: its entries, extents, lines and frames are those of the parts in turn.
use Rattle.std.proofs.Common.{◌≡◌, ℕ, ◌+◌, ◌<◌, ◌≤◌, cond, ◌&&◌, T, ◌^◌, List, [], ◌∷◌, ◌++◌, map, Bool, true, false, Ordering, Less, Option, Some, None, refl, sym, ◌∙◌, ap, subst, inl, inr, arith, append_assoc}
use Rattle.std.specs.Ordering.{nat_cmp, is_lt}
use Rattle.std.specs.Cmp.{nat_cmp_total, nat_cmp_is}
use Rattle.std.specs.FinMap.{get, entries, find, is_sorted, get-entries, entries_sorted, nat_cmp-IsAntisymmetric}
use Rattle.std.specs.FinMap.Entries.{same_entries, below_all}
use Rattle.std.proofs.lemmas.Bool.Decides.{eqb_tells}
use Rattle.std.proofs.lemmas.List.{map-append}
use Rattle.osm_rows.specs.Held.{Blob, HeldMap, IsApart}
use Rattle.osm_rows.specs.Keeping.{extents_of, extent_of}
use Rattle.osm_import.specs.Exports.{lines_of, blob_lines, map_lines}
use Rattle.osm_import.specs.Gaps.{AreGaps, ranges_between}
use Rattle.osm_import.specs.Pbf.{data_frames, AreFramesOf}
use Rattle.osm_parts.specs.Parts.{LiesIn, FollowFrom, IsInPart, AreParts, AreApart, entries_in, extents_in, lines_in, AreFramesIn, PartsJoin, ExtentsJoin, LinesJoin, FramesJoin, GapsJoin, ImportsAreParts}
use Rattle.std.specs.Prelude.{◌↔◌}
use Rattle.osm_import.specs.Deliveries.{DeliveryValue}
use Rattle.osm_import.specs.Runs.{IsGoodIn}
use Rattle.osm_import.specs.Merges.{AreImported, all_of}
use Rattle.osm_import.proofs.MergeLemmas.{good_both}
use Rattle.osm_import.proofs.Touching.{find-cons, find-head, find-tail, sorted-tail}
use Rattle.osm_import.proofs.Delivering.{true-of}
use Rattle.osm_import.proofs.MergeLemmas.{same-found}
use Rattle.osm_import.proofs.GapsLemmas.{gaps-between}

-- ---- ascending entries

-- the keys rise, from this one on
abbrev pub Rise : ℕ → List (ℕ × Blob) → Type 0
Rise from [] = Unit {0}
Rise from (e ∷ es) = (from ≤ e.0) × Rise (e.0 + 1) es

abbrev EndBy : ℕ → List (ℕ × Blob) → Type 0
EndBy to [] = Unit {0}
EndBy to (e ∷ es) = (e.0 < to) × EndBy to es

pub rise-later : (from later : ℕ) (es : List (ℕ × Blob)) → from ≤ later → Rise later es → Rise from es
rise-later from later [] le rise = tt
rise-later from later (e ∷ es) le rise = (let h : later ≤ e.0 = rise.0 in omega arith, rise.1)

rise-append : (from to : ℕ) (es fs : List (ℕ × Blob)) → from ≤ to → Rise from es → EndBy to es → Rise to fs → Rise from (es ++ fs)
rise-append from to [] fs le rise end behind = rise-later from to fs le behind
rise-append from to (e ∷ es) fs le rise end behind = (rise.0, rise-append (e.0 + 1) to es fs (let h : e.0 < to = end.0 in omega arith) rise.1 end.1 behind)

less-is : (x y : ℕ) → x < y → T (is_lt (nat_cmp x y))
less-is x y l = subst (λ (r : Ordering). T (is_lt r)) (nat_cmp_is x y Less l) tt

both-hold : (a b : Bool) → T a → T b → T (a && b)
both-hold true b p q = q
both-hold false b p q = p

rise-below : (x from : ℕ) (es : List (ℕ × Blob)) → x < from → Rise from es → T (below_all nat_cmp x es)
rise-below x from [] l rise = tt
rise-below x from (e ∷ es) l rise = let h : from ≤ e.0 = rise.0 in both-hold _ _ (less-is x e.0 (omega arith)) (rise-below x (e.0 + 1) es (omega arith) rise.1)

pub rise-sorted : (from : ℕ) (es : List (ℕ × Blob)) → Rise from es → T (is_sorted nat_cmp es)
rise-sorted from [] rise = tt
rise-sorted from (e ∷ es) rise = both-hold _ _ (rise-below e.0 (e.0 + 1) es (omega arith) rise.1) (rise-sorted (e.0 + 1) es rise.1)

-- from what is found to the keys
sorted-rise : (from to : ℕ) (es : List (ℕ × Blob)) → is_sorted nat_cmp es ≡ true → ((at : ℕ) (blob : Blob) → find nat_cmp at es ≡ Some blob → (from ≤ at) × (at < to)) → Rise from es × EndBy to es
sorted-rise from to [] sorted lies = (tt, tt)
sorted-rise from to (e ∷ es) sorted lies =
    let here = lies e.0 e.1 (find-head e es) in
    let rest = sorted-rise (e.0 + 1) to es (sorted-tail e es sorted) (λ at blob found. let it = find-tail e es sorted at blob found in let h : e.0 < at = it.0 in (omega arith, (lies at blob it.1).1)) in
    ((here.0, rest.0), (here.1, rest.1))

-- ---- the entries of the parts

entries-rise : (from to : ℕ) (part : HeldMap) → LiesIn from to part → Rise from (entries part) × EndBy to (entries part)
entries-rise from to part lies = sorted-rise from to (entries part) (true-of _ (entries_sorted part)) (λ at blob found.
    let it = lies at blob (get-entries part at ∙ found) in let h1 : at < blob.fin = it.1 in let h2 : blob.fin ≤ to = it.2 in (it.0, omega arith))

parts-rise : (from : ℕ) (parts : List HeldMap) → FollowFrom from parts → Rise from (entries_in parts)
parts-rise from [] follow = tt
parts-rise from (part ∷ parts) (to, le, lies, rest) = let it = entries-rise from to part lies in rise-append from to (entries part) (entries_in parts) le it.0 it.1 (parts-rise to parts rest)

-- ---- what is found in joined entries

found-first : (at : ℕ) (blob : Blob) (es fs : List (ℕ × Blob)) → find nat_cmp at es ≡ Some blob → find nat_cmp at (es ++ fs) ≡ Some blob
found-first at blob [] fs found = absurd (cc)
found-first at blob (e ∷ es) fs found = elim (eqb_tells at e.0) [
  | inl (test, _) ↦ find-cons at e (es ++ fs) ∙ ap (λ b. cond b (Some e.1) (find nat_cmp at (es ++ fs))) test
      ∙ sym (find-cons at e es ∙ ap (λ b. cond b (Some e.1) (find nat_cmp at es)) test) ∙ found
  | inr (test, _) ↦ find-cons at e (es ++ fs) ∙ ap (λ b. cond b (Some e.1) (find nat_cmp at (es ++ fs))) test
      ∙ found-first at blob es fs (sym (find-cons at e es ∙ ap (λ b. cond b (Some e.1) (find nat_cmp at es)) test) ∙ found)
]

found-second : (at : ℕ) (es fs : List (ℕ × Blob)) → find nat_cmp at es ≡ None → find nat_cmp at (es ++ fs) ≡ find nat_cmp at fs
found-second at [] fs none = refl
found-second at (e ∷ es) fs none = elim (eqb_tells at e.0) [
  | inl (test, _) ↦ (let bad : Some e.1 ≡ None = sym (find-cons at e es ∙ ap (λ b. cond b (Some e.1) (find nat_cmp at es)) test) ∙ none in absurd (cc))
  | inr (test, _) ↦ find-cons at e (es ++ fs) ∙ ap (λ b. cond b (Some e.1) (find nat_cmp at (es ++ fs))) test
      ∙ found-second at es fs (sym (find-cons at e es ∙ ap (λ b. cond b (Some e.1) (find nat_cmp at es)) test) ∙ none)
]

-- what is in a part lies behind the start, and has bytes
pub in_part-lies : (from : ℕ) (parts : List HeldMap) (off : ℕ) (blob : Blob) → FollowFrom from parts → IsInPart parts off blob → (from ≤ off) × (off < blob.fin)
in_part-lies from [] off blob follow held = absurd held
in_part-lies from (part ∷ parts) off blob (to, le, lies, rest) held = elim held [
  | inl here ↦ (let it = lies off blob here in (it.0, it.1))
  | inr later ↦ (let it = in_part-lies to parts off blob rest later in let h : to ≤ off = it.0 in (omega arith, it.1))
]

pub in_part-found : (from : ℕ) (parts : List HeldMap) (off : ℕ) (blob : Blob) → FollowFrom from parts → IsInPart parts off blob → find nat_cmp off (entries_in parts) ≡ Some blob
in_part-found from [] off blob follow held = absurd held
in_part-found from (part ∷ parts) off blob (to, le, lies, rest) held = elim held [
  | inl here ↦ found-first off blob (entries part) (entries_in parts) (sym (get-entries part off) ∙ here)
  | inr later ↦ found-second off (entries part) (entries_in parts) (free (get part off) refl later) ∙ in_part-found to parts off blob rest later
]
  where
    free : (o : Option Blob) → get part off ≡ o → IsInPart parts off blob → find nat_cmp off (entries part) ≡ None
    free None is later = sym (get-entries part off) ∙ is
    free (Some other) is later =
        let it = lies off other is in let h1 : off < other.fin = it.1 in let h2 : other.fin ≤ to = it.2 in
        let h3 : to ≤ off = (in_part-lies to parts off blob rest later).0 in absurd (omega arith)

pub found-in_part : (parts : List HeldMap) (off : ℕ) (blob : Blob) → find nat_cmp off (entries_in parts) ≡ Some blob → IsInPart parts off blob
found-in_part [] off blob found = absurd (cc)
found-in_part (part ∷ parts) off blob found = at (λ later. found-in_part parts off blob later) (find nat_cmp off (entries part)) refl
  where
    at : (find nat_cmp off (entries_in parts) ≡ Some blob → IsInPart parts off blob) → (o : Option Blob) → find nat_cmp off (entries part) ≡ o → IsInPart (part ∷ parts) off blob
    at behind None is = inr (behind (sym (found-second off (entries part) (entries_in parts) is) ∙ found))
    at behind (Some other) is = inl (get-entries part off ∙ is ∙ sym (found-first off other (entries part) (entries_in parts) is) ∙ found)

pub parts-join : PartsJoin
parts-join parts whole from follow are =
    same_entries nat_cmp nat_cmp_total nat_cmp-IsAntisymmetric (entries whole) (entries_in parts) (entries_sorted whole) (rise-sorted from (entries_in parts) (parts-rise from parts follow))
    (λ off. same-found (find nat_cmp off (entries whole)) (find nat_cmp off (entries_in parts))
    (λ blob found. in_part-found from parts off blob follow (are.only off blob (get-entries whole off ∙ found)))
    (λ blob found. sym (get-entries whole off) ∙ are.kept off blob (found-in_part parts off blob found)))

-- ---- extents, lines and frames

extents-of-parts : (parts : List HeldMap) → map extent_of (entries_in parts) ≡ extents_in parts
extents-of-parts [] = refl
extents-of-parts (part ∷ parts) = map-append extent_of (entries part) (entries_in parts) ∙ ap (λ es. extents_of part ++ es) (extents-of-parts parts)

pub extents-join : ExtentsJoin
extents-join parts whole from follow are = ap (map extent_of) (parts-join parts whole from follow are) ∙ extents-of-parts parts

lines-append : (xs ys : List (ℕ × Blob)) → blob_lines (xs ++ ys) ≡ blob_lines xs ++ blob_lines ys
lines-append [] ys = refl
lines-append (x ∷ xs) ys = ap (λ l. lines_of x.1.elements ++ l) (lines-append xs ys) ∙ sym (append_assoc (lines_of x.1.elements) (blob_lines xs) (blob_lines ys))

lines-of-parts : (parts : List HeldMap) → blob_lines (entries_in parts) ≡ lines_in parts
lines-of-parts [] = refl
lines-of-parts (part ∷ parts) = lines-append (entries part) (entries_in parts) ∙ ap (λ l. map_lines part ++ l) (lines-of-parts parts)

pub lines-join : LinesJoin
lines-join parts whole from follow are = ap blob_lines (parts-join parts whole from follow are) ∙ lines-of-parts parts

frames-append : (xs ys : List (ℕ × Blob)) (front behind : List ℕ) → AreFramesOf xs front → AreFramesOf ys behind → AreFramesOf (xs ++ ys) (front ++ behind)
frames-append [] ys front behind none frames = subst (λ (l : List ℕ). AreFramesOf ys (l ++ behind)) (sym none) frames
frames-append (x ∷ xs) ys front behind (blocks, later, cuts, rest, is) frames =
    (blocks, later ++ behind, cuts, frames-append xs ys later behind rest frames, ap (λ (l : List ℕ). l ++ behind) is ∙ append_assoc (data_frames blocks) later behind)

frames-of-parts : (parts : List HeldMap) (bytes : List ℕ) → AreFramesIn parts bytes → AreFramesOf (entries_in parts) bytes
frames-of-parts [] bytes none = none
frames-of-parts (part ∷ parts) bytes (front, behind, first, rest, is) =
    subst (λ (l : List ℕ). AreFramesOf (entries part ++ entries_in parts) l) (sym is) (frames-append (entries part) (entries_in parts) front behind first (frames-of-parts parts behind rest))

pub frames-join : FramesJoin
frames-join parts whole from bytes follow are frames =
    subst (λ (es : List (ℕ × Blob)). AreFramesOf es bytes) (sym (parts-join parts whole from follow are)) (frames-of-parts parts bytes frames)

-- ---- gaps

in_part-limit : (parts : List HeldMap) (off : ℕ) (blob : Blob) → AreApart parts → IsInPart parts off blob → blob.fin ≤ 2 ^ 62
in_part-limit [] off blob apart held = absurd held
in_part-limit (part ∷ parts) off blob apart held = elim held [ inl here ↦ apart.0.limit off blob here | inr later ↦ in_part-limit parts off blob apart.1 later ]

in_part-apart : (from : ℕ) (parts : List HeldMap) (at next : ℕ) (blob other : Blob) → FollowFrom from parts → AreApart parts → IsInPart parts at blob → IsInPart parts next other → at < next → blob.fin ≤ next
in_part-apart from [] at next blob other follow apart one two low = absurd one
in_part-apart from (part ∷ parts) at next blob other (to, le, lies, rest) apart one two low = elim one [
  | inl here ↦ elim two [
    | inl here_too ↦ apart.0.apart at next blob other here here_too low
    | inr later ↦ (let h : to ≤ next = (in_part-lies to parts next other rest later).0 in let h2 : blob.fin ≤ to = (lies at blob here).2 in omega arith)
  ]
  | inr later ↦ elim two [
    | inl here ↦ (let h : to ≤ at = (in_part-lies to parts at blob rest later).0 in let it = lies next other here in let h1 : next < other.fin = it.1 in let h2 : other.fin ≤ to = it.2 in absurd (omega arith))
    | inr later_too ↦ in_part-apart to parts at next blob other rest apart.1 later later_too low
  ]
]

pub whole-apart : (from : ℕ) (parts : List HeldMap) (whole : HeldMap) → FollowFrom from parts → AreApart parts → AreParts parts whole → IsApart whole
whole-apart from parts whole follow apart are = record {
  filled = λ at blob found. (in_part-lies from parts at blob follow (are.only at blob found)).1;
  limit = λ at blob found. in_part-limit parts at blob apart (are.only at blob found);
  apart = λ at next blob other found also low. in_part-apart from parts at next blob other follow apart (are.only at blob found) (are.only next other also) low;
}

pub gaps-join : GapsJoin
gaps-join parts whole from size follow apart are =
    subst (λ es. AreGaps whole size (ranges_between 0 size es)) (extents-join parts whole from follow are) (gaps-between whole size (whole-apart from parts whole follow apart are))

-- ---- imports

part-good : (parts : List (List DeliveryValue)) (sources : List HeldMap) (off : ℕ) (blob : Blob) → AreImported parts sources → IsInPart sources off blob ↔ IsGoodIn (all_of parts) off blob
part-good [] [] off blob imported = ((λ no. no), (λ no. no))
part-good [] (source ∷ sources) off blob imported = absurd imported
part-good (part ∷ parts) [] off blob imported = absurd imported
part-good (part ∷ parts) (source ∷ sources) off blob imported =
    let split = good_both part (all_of parts) off blob in
    let rest = part-good parts sources off blob imported.1 in (
      (λ held. elim held [ inl here ↦ split.1 (inl ((imported.0 off blob).0 here)) | inr later ↦ split.1 (inr (rest.0 later)) ]),
      (λ good. elim (split.0 good) [ inl here ↦ inl ((imported.0 off blob).1 here) | inr later ↦ inr (rest.1 later) ]),
    )

pub imports-are-parts : ImportsAreParts
imports-are-parts parts sources one imported whole = record {
  kept = λ off blob held. (whole off blob).1 ((part-good parts sources off blob imported).0 held);
  only = λ off blob found. (part-good parts sources off blob imported).1 ((whole off blob).0 found);
}
