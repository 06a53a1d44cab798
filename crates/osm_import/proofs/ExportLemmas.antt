-- From the extents of a map to what an export writes.
use Rattle.std.proofs.Common.{◌≡◌, ◌≢◌, ℕ, suc, zero, cond, ◌+◌, ◌<◌, ◌≤◌, max, Bool, true, false, List, [], ◌∷◌, ◌++◌, map, length, take, slice_get, Option, Some, None, Result, Ok, Err, refl, sym, ◌∙◌, ap, subst, inl, inr, arith, append_assoc, length-append}
use Rattle.std.specs.Prelude.{unwrap_or}
use Rattle.std.specs.FinMap as finite
use Rattle.std.specs.FinMap.{entries, get-entries, entries_sorted, is_sorted}
use Rattle.std.specs.Ordering.{nat_cmp}
use Rattle.std.proofs.lemmas.Bool.Decides.{eqb_tells}
use Rattle.std.specs.Io.KnownBytes.{Appends}
use Rattle.std.proofs.KnownBytes.{Appends-trans, Appends-nil}
use Rattle.osm_value.specs.declared.element.Element.{Element}
use Rattle.osm_import.proofs.WritingLemmas.{lines_of-append, front-of-piece}
use Rattle.osm_reading.proofs.GoodLaws.{frame-filled}
use Rattle.osm_rows.specs.Held.{Blob, HeldMap, IsApart}
use Rattle.osm_rows.specs.Keeping.{extents_of, extent_of}
use Rattle.osm_rows.specs.declared.keeper.Extent.{Extent}
use Rattle.osm_import.specs.Gaps.{AreGaps, Tiles, ranges_between}
use Rattle.osm_import.specs.Files.{AreFrames, StandsAt, IsFile, IsHeldOfFile, joined}
use Rattle.osm_import.specs.Step.{IsEntry}
use Rattle.osm_reading.specs.Framings.{Known}
use Rattle.osm_import.specs.Exports.{lines_of, blob_lines, AreElements, greatest_end, size_of, IsRefusalOf, AreTiling, IsRefusal, WritesLines, WritesFile, IsExport, IsUnbegun, IsAskedFor}
use Rattle.osm_import.specs.Walks.{elements_at, WritesInTurn, Walks}
use Rattle.osm_import.specs.declared.export.fault.ExportFault.{ExportFault}
use Rattle.osm_import.specs.declared.export.fault.ExportFault.TheVariants.{Incomplete, PastEnd, WriteFailed, BlockTooLarge, Miscounted, Store}
use Rattle.osm_import.proofs.Touching.{find-cons, find-tail, find-head, sorted-tail}
use Rattle.osm_import.proofs.Delivering.{true-of}
use Rattle.osm_import.proofs.FilesLemmas.{stands-from}
use Rattle.osm_import.proofs.GapsLemmas.{found-within, IsChain, IsWithin, chain-extents, gaps-between, within-from}

first-some : (rs : List (ℕ × ℕ)) (x : ℕ × ℕ) → Some x ≡ slice_get rs 0 → (rest : List (ℕ × ℕ)) × (rs ≡ x ∷ rest)
first-some [] x is = absurd (cc)
first-some (r ∷ rs) x is = (rs, (let e : Some x ≡ Some r = is in let same : r ≡ x = cc in ap (λ (y : ℕ × ℕ). y ∷ rs) same))

first-none : (rs : List (ℕ × ℕ)) → ((x : ℕ × ℕ) → slice_get rs 0 ≢ Some x) → rs ≡ []
first-none [] none = refl
first-none (r ∷ rs) none = absurd (none r refl)

size-is : (extents : List Extent) (asked : Option ℕ) (g size : ℕ) → g ≡ greatest_end extents → size ≡ unwrap_or asked g → size ≡ size_of asked extents
size-is extents asked g size is_g is = is ∙ ap (λ n. unwrap_or asked n) is_g

pub refused-gap : (extents : List Extent) (asked : Option ℕ) (g size from to : ℕ) → g ≡ greatest_end extents → size ≡ unwrap_or asked g
    → Some (from, to) ≡ slice_get (ranges_between 0 size extents) 0 → IsRefusalOf extents (size_of asked extents) (Incomplete from to)
refused-gap extents asked g size from to is_g is found =
    let it = first-some (ranges_between 0 size extents) (from, to) found in
    inl (it.0, ap (λ n. ranges_between 0 n extents) (sym (size-is extents asked g size is_g is)) ∙ it.1)

pub refused-end : (extents : List Extent) (asked : Option ℕ) (g size : ℕ) → g ≡ greatest_end extents → size ≡ unwrap_or asked g
    → ((x : ℕ × ℕ) → slice_get (ranges_between 0 size extents) 0 ≢ Some x) → size < g → IsRefusalOf extents (size_of asked extents) (PastEnd g)
refused-end extents asked g size is_g is none past =
    (ap (λ n. ranges_between 0 n extents) (sym (size-is extents asked g size is_g is)) ∙ first-none (ranges_between 0 size extents) none, is_g, subst (λ n. n < g) (size-is extents asked g size is_g is) past)

pub tiling : (extents : List Extent) (asked : Option ℕ) (g size : ℕ) → g ≡ greatest_end extents → size ≡ unwrap_or asked g
    → ((x : ℕ × ℕ) → slice_get (ranges_between 0 size extents) 0 ≢ Some x) → (length extents ≡ 0 → ⊥) → g ≤ size → AreTiling extents (size_of asked extents)
tiling extents asked g size is_g is none some within = record {
  some = some;
  whole = ap (λ n. ranges_between 0 n extents) (sym (size-is extents asked g size is_g is)) ∙ first-none (ranges_between 0 size extents) none;
  within = subst (λ n. n ≤ size_of asked extents) is_g (subst (λ n. g ≤ n) (size-is extents asked g size is_g is) within);
}

-- ---- the lines of blobs

lines-in-turn : (es : List (ℕ × Blob)) (before after : Known) → WritesInTurn WritesLines before es after → Appends before after (blob_lines es)
lines-in-turn [] before after turns = subst (λ (o : Known). Appends before o []) (sym turns) (Appends-nil before)
lines-in-turn (e ∷ es) before after turns = Appends-trans before turns.0 after (lines_of e.1.elements) (blob_lines es) turns.1 (lines-in-turn es turns.0 after turns.2)

-- what stands behind the lines of the blob at i
lines-behind : (es : List (ℕ × Blob)) (i : ℕ) → i < length es → (behind : List ℕ) × ((blob_lines (take i es) ++ lines_of (elements_at es i)) ++ behind ≡ blob_lines es)
lines-behind [] i within = absurd (omega arith)
lines-behind (e ∷ es) zero within = (blob_lines es, refl)
lines-behind (e ∷ es) (suc i) within =
    let it = lines-behind es i (omega arith) in (
      it.0,
      ap (λ (l : List ℕ). l ++ it.0) (append_assoc (lines_of e.1.elements) (blob_lines (take i es)) (lines_of (elements_at es i)))
          ∙ append_assoc (lines_of e.1.elements) (blob_lines (take i es) ++ lines_of (elements_at es i)) it.0 ∙ ap (λ (l : List ℕ). lines_of e.1.elements ++ l) it.1,
    )

empty_of : (held : HeldMap) → extents_of held ≡ [] → entries held ≡ []
empty_of held none = no_map (entries held) none
  where
    no_map : (es : List (ℕ × Blob)) → map extent_of es ≡ [] → es ≡ []
    no_map [] e = refl
    no_map (x ∷ es) e = absurd (cc)

-- a refusal by the extents of a map is one of the map
pub refusal-held : (held : HeldMap) (extents : List Extent) (asked : Option ℕ) (fault : ExportFault) → IsApart held → extents ≡ extents_of held
    → IsRefusalOf extents (size_of asked extents) fault → IsRefusal held (size_of asked (extents_of held)) fault
refusal-held held extents asked fault apart are refusal =
    at-held fault (subst (λ (xs : List Extent). IsRefusalOf xs (size_of asked xs) fault) are refusal)
  where
    size : ℕ
    size = size_of asked (extents_of held)

    all : AreGaps held (size_of asked (extents_of held)) (ranges_between 0 (size_of asked (extents_of held)) (extents_of held))
    all = gaps-between held (size_of asked (extents_of held)) apart

    at-held : (fault : ExportFault) → IsRefusalOf (extents_of held) (size_of asked (extents_of held)) fault → IsRefusal held (size_of asked (extents_of held)) fault
    at-held (Incomplete from to) h = elim h [
      | inl (rest, is) ↦ inl (rest, subst (λ (rs : List (ℕ × ℕ)). AreGaps held (size_of asked (extents_of held)) rs) is (gaps-between held (size_of asked (extents_of held)) apart))
      | inr (none, zero_size, f, t) ↦ inr (empty_of held none, zero_size, f, t)
    ]
    at-held (PastEnd fin) h = (subst (λ (rs : List (ℕ × ℕ)). AreGaps held (size_of asked (extents_of held)) rs) h.0 (gaps-between held (size_of asked (extents_of held)) apart), h.1, h.2)
    at-held WriteFailed h = absurd h
    at-held BlockTooLarge h = absurd h
    at-held (Miscounted off) h = absurd h
    at-held (Store fault) h = absurd h

max-parts : (a b n : ℕ) → max a b ≤ n → (a ≤ n) × (b ≤ n)
max-parts a b n le = (omega arith, omega arith)

pub greatest-within : (es : List (ℕ × Blob)) (size : ℕ) → greatest_end (map extent_of es) ≤ size → (at : ℕ) (blob : Blob) → finite.find nat_cmp at es ≡ Some blob → blob.fin ≤ size
greatest-within [] size le at blob found = absurd (cc)
greatest-within (e ∷ es) size le at blob found =
    let parts : (e.1.fin ≤ size) × (greatest_end (map extent_of es) ≤ size) = max-parts e.1.fin (greatest_end (map extent_of es)) size le in
    elim (eqb_tells at e.0) [
      | inl (test, same) ↦ (
          let it : Some e.1 ≡ Some blob = sym (find-cons at e es ∙ ap (λ b. cond b (Some e.1) (finite.find nat_cmp at es)) test) ∙ found in
          let equal : e.1 ≡ blob = cc in subst (λ (b : Blob). b.fin ≤ size) equal parts.0)
      | inr (test, apart) ↦ greatest-within es size parts.1 at blob (sym (find-cons at e es ∙ ap (λ b. cond b (Some e.1) (finite.find nat_cmp at es)) test) ∙ found)
    ]

first-of : (es : List (ℕ × Blob)) → (length (map extent_of es) ≡ 0 → ⊥) → (at : ℕ) × (blob : Blob) × (finite.find nat_cmp at es ≡ Some blob)
first-of [] some = absurd (some refl)
first-of (e ∷ es) some = (e.0, e.1, find-head e es)

-- extents of a map that tile a size
pub tiles-held : (held : HeldMap) (extents : List Extent) (asked : Option ℕ) → IsApart held → extents ≡ extents_of held → AreTiling extents (size_of asked extents) → Tiles held (size_of asked (extents_of held))
tiles-held held extents asked apart are tiling =
    let it : AreTiling (extents_of held) (size_of asked (extents_of held)) = subst (λ (xs : List Extent). AreTiling xs (size_of asked xs)) are tiling in
    let size : ℕ = size_of asked (extents_of held) in
    let first = first-of (entries held) it.some in
    record {
      some = (first.0, first.1, get-entries held first.0 ∙ first.2);
      whole = subst (λ (rs : List (ℕ × ℕ)). AreGaps held size rs) it.whole (gaps-between held size apart);
      within = λ at blob found. greatest-within (entries held) size it.within at blob (sym (get-entries held at) ∙ found);
    }

-- all elements of held blobs, by offset and position
abbrev pub elements_in : List (ℕ × Blob) → List Element
elements_in [] = []
elements_in (e ∷ es) = e.1.elements ++ elements_in es

pub lines-in : (es : List (ℕ × Blob)) → blob_lines es ≡ lines_of (elements_in es)
lines-in [] = refl
lines-in (e ∷ es) = ap (λ l. lines_of e.1.elements ++ l) (lines-in es) ∙ sym (lines_of-append e.1.elements (elements_in es))

-- what tiles the frames that stand from start on has the elements of these frames
tiled-elements : (start : ℕ) (frames : List (List ℕ)) → AreFrames frames → (es : List (ℕ × Blob)) → is_sorted nat_cmp es ≡ true → IsChain start (map extent_of es)
    → ((at : ℕ) (blob : Blob) → finite.find nat_cmp at es ≡ Some blob → (frame : List ℕ) × StandsAt start frames at frame × IsEntry at frame blob)
    → ((byte : ℕ) → start ≤ byte → byte < start + length (joined frames) → IsWithin (map extent_of es) byte)
    → AreElements start frames (elements_in es)
tiled-elements start [] whole [] sorted chain of_file covers = refl
tiled-elements start [] whole (e ∷ es) sorted chain of_file covers = absurd (of_file e.0 e.1 (find-head e es)).1
tiled-elements start (frame ∷ frames) whole [] sorted chain of_file covers =
    let long : 4 ≤ length frame = frame-filled whole.0.0 whole.0.1 frame whole.0.2 in
    absurd (covers start (omega arith) (omega (arith, length-append frame (joined frames))))
tiled-elements start (frame ∷ frames) whole (e ∷ es) sorted chain of_file covers =
    let long : 4 ≤ length frame = frame-filled whole.0.0 whole.0.1 frame whole.0.2 in
    let joint : length (frame ++ joined frames) ≡ length frame + length (joined frames) = length-append frame (joined frames) in
    let c0 : start ≤ e.0 = chain.0 in
    let c1 : e.0 < e.1.fin = chain.1 in
    let begins : e.0 ≡ start = elim (covers start (omega arith) (omega arith)) [
      | inl (starts, ends) ↦ omega arith
      | inr later ↦ (let h : e.1.fin ≤ start = within-from e.1.fin (map extent_of es) start chain.2 later in omega arith)
    ] in
    let it = of_file e.0 e.1 (find-head e es) in
    let same : it.0 ≡ frame = elim it.1 [
      | inl (_, equal) ↦ equal
      | inr later ↦ (let h : start + length frame ≤ e.0 = stands-from (start + length frame) frames e.0 it.0 later in absurd (omega arith))
    ] in
    let entry : IsEntry start frame e.1 = subst (λ n. IsEntry n frame e.1) begins (subst (λ (w : List ℕ). IsEntry e.0 w e.1) same it.2) in
    let fin : e.1.fin ≡ start + length frame = entry.ends in
    let rest : AreElements (start + length frame) frames (elements_in es) =
    tiled-elements (start + length frame) frames whole.1 es (sorted-tail e es sorted) (subst (λ n. IsChain n (map extent_of es)) fin chain.2)
    (λ at blob found. (let tail = find-tail e es sorted at blob found in let place = of_file at blob tail.1 in
    (place.0, elim place.1 [ inl (here, _) ↦ (let h : e.0 < at = tail.0 in absurd (omega arith)) | inr later ↦ later ], place.2)))
    (λ byte low high. elim (covers byte (omega arith) (omega arith)) [ inl (starts, ends) ↦ absurd (omega arith) | inr later ↦ later ]) in
    (e.1.kind, e.1.elements, elements_in es, entry.good, rest, refl)

-- over a map that tiles a file, the held elements are the file's
pub file-elements : (held : HeldMap) (file : List ℕ) (frames : List (List ℕ)) → IsApart held → IsFile file frames → IsHeldOfFile frames held → Tiles held (length file) → AreElements 0 frames (elements_in (entries held))
file-elements held file frames apart is_file of_file tiles =
    tiled-elements 0 frames is_file.whole (entries held) (true-of _ (entries_sorted held)) (chain-extents held apart)
    (λ at blob found. of_file at blob (get-entries held at ∙ found))
    (λ byte low high. elim (tiles.whole.all byte (omega (arith, high, ap length is_file.is_joined))) [
      | inl covered ↦ found-within (entries held) byte covered.at covered.blob (sym (get-entries held covered.at) ∙ covered.found) covered.starts covered.ends
      | inr gap ↦ absurd gap
    ])

max-within : (a b n : ℕ) → a ≤ n → b ≤ n → max a b ≤ n
max-within a b n l r = omega arith

greatest-le : (es : List (ℕ × Blob)) (size : ℕ) → is_sorted nat_cmp es ≡ true → ((at : ℕ) (blob : Blob) → finite.find nat_cmp at es ≡ Some blob → blob.fin ≤ size) → greatest_end (map extent_of es) ≤ size
greatest-le [] size sorted within = omega arith
greatest-le (e ∷ es) size sorted within =
    max-within e.1.fin (greatest_end (map extent_of es)) size (within e.0 e.1 (find-head e es))
    (greatest-le es size (sorted-tail e es sorted) (λ at blob found. within at blob (find-tail e es sorted at blob found).1))

tiles-greatest : (held : HeldMap) (size : ℕ) → Tiles held size → greatest_end (extents_of held) ≤ size
tiles-greatest held size tiles = greatest-le (entries held) size (true-of _ (entries_sorted held)) (λ at blob found. tiles.within at blob (get-entries held at ∙ found))

asked-le : (held : HeldMap) (asked : Option ℕ) (size : ℕ) → Tiles held size → IsAskedFor asked size → size_of asked (extents_of held) ≤ size
asked-le held asked size tiles is = elim is [
  | inl none ↦ subst (λ (o : Option ℕ). size_of o (extents_of held) ≤ size) (sym none) (tiles-greatest held size tiles)
  | inr some ↦ subst (λ (o : Option ℕ). size_of o (extents_of held) ≤ size) (sym some) (omega arith)
]

end-le : (held : HeldMap) (asked : Option ℕ) (size : ℕ) → Tiles held size → IsAskedFor asked size → greatest_end (extents_of held) ≤ size_of asked (extents_of held)
end-le held asked size tiles is = elim is [
  | inl none ↦ subst (λ (o : Option ℕ). greatest_end (extents_of held) ≤ size_of o (extents_of held)) (sym none) (omega arith)
  | inr some ↦ subst (λ (o : Option ℕ). greatest_end (extents_of held) ≤ size_of o (extents_of held)) (sym some) (tiles-greatest held size tiles)
]

-- an export over a map that tiles the size isn't refused
pub unrefused : (held : HeldMap) (asked : Option ℕ) (size : ℕ) (fault : ExportFault) → Tiles held size → IsAskedFor asked size → IsRefusal held (size_of asked (extents_of held)) fault → ⊥
unrefused held asked size (Incomplete from to) tiles is refusal = elim refusal [
  | inl (rest, gaps) ↦ (let low : size_of asked (extents_of held) ≤ size = asked-le held asked size tiles is in
      let filled : from < to = gaps.ranges.1 in let inside : to ≤ size_of asked (extents_of held) = gaps.ranges.2 in
      elim (tiles.whole.all from (omega arith)) [ inl covered ↦ gaps.only from (inl (omega arith, filled)) covered | inr gap ↦ gap ])
  | inr (none, _, _, _) ↦ (let bad : Some tiles.some.1 ≡ None = sym tiles.some.2 ∙ get-entries held tiles.some.0 ∙ ap (λ (es : List (ℕ × Blob)). finite.find nat_cmp tiles.some.0 es) none in cc)
]
unrefused held asked size (PastEnd fin) tiles is refusal =
    let high : greatest_end (extents_of held) ≤ size_of asked (extents_of held) = end-le held asked size tiles is in
    let past : size_of asked (extents_of held) < fin = refusal.2 in let same : fin ≡ greatest_end (extents_of held) = refusal.1 in omega arith
unrefused held asked size WriteFailed tiles is refusal = refusal
unrefused held asked size BlockTooLarge tiles is refusal = refusal
unrefused held asked size (Miscounted off) tiles is refusal = refusal
unrefused held asked size (Store fault) tiles is refusal = refusal

-- an export over a map that tiles a file has written the lines of the file's elements
pub file-lines : (held : HeldMap) (file : List ℕ) (frames : List (List ℕ)) (asked : Option ℕ) (partial : Bool) (before after : Known) (result : Result (Unit {0}) ExportFault)
    → IsApart held → IsFile file frames → IsHeldOfFile frames held → Tiles held (length file) → IsAskedFor asked (length file)
    → IsExport held (size_of asked (extents_of held)) partial before after result → WritesFile frames before after result
file-lines held file frames asked partial before after (Ok _) apart is_file of_file tiles is wrote =
    (elements_in (entries held), file-elements held file frames apart is_file of_file tiles, subst (λ (text : List ℕ). Appends before after text) (lines-in (entries held)) wrote.0)
file-lines held file frames asked partial before after (Err WriteFailed) apart is_file of_file tiles is wrote = tt
file-lines held file frames asked partial before after (Err (Store fault)) apart is_file of_file tiles is wrote = tt
file-lines held file frames asked partial before after (Err BlockTooLarge) apart is_file of_file tiles is wrote = wrote
file-lines held file frames asked partial before after (Err (Miscounted off)) apart is_file of_file tiles is wrote = wrote
file-lines held file frames asked partial before after (Err (Incomplete from to)) apart is_file of_file tiles is wrote = unrefused held asked (length file) (Incomplete from to) tiles is wrote.2
file-lines held file frames asked partial before after (Err (PastEnd fin)) apart is_file of_file tiles is wrote = unrefused held asked (length file) (PastEnd fin) tiles is wrote.2

-- a walk over all blobs
pub exported : (held : HeldMap) (size : ℕ) (partial : Bool) (before after : Known) (result : Result (Unit {0}) ExportFault) → Walks WritesLines before (entries held) after result → (partial ≡ false → Tiles held size) → IsExport held size partial before after result
exported held size partial before after (Ok _) walk tiles = (lines-in-turn (entries held) before after walk, tiles)
exported held size partial before after (Err WriteFailed) walk tiles =
    let behind = lines-behind (entries held) walk.count walk.here in (
      front-of-piece before walk.middle after (blob_lines (take walk.count (entries held))) (lines_of (elements_at (entries held) walk.count)) behind.0 (blob_lines (entries held))
          (lines-in-turn (take walk.count (entries held)) before walk.middle walk.turns) behind.1 walk.stopped,
      tiles,
    )
exported held size partial before after (Err (Store fault)) walk tiles =
    let same : after ≡ walk.middle = elim walk.stopped [ inl is ↦ is | inr is ↦ is ] in (
      walk.count,
      inl walk.here,
      subst (λ (o : Known). Appends before o (blob_lines (take walk.count (entries held)))) (sym same) (lines-in-turn (take walk.count (entries held)) before walk.middle walk.turns),
      λ whole. inl (tiles whole),
    )
exported held size partial before after (Err BlockTooLarge) walk tiles = walk.stopped
exported held size partial before after (Err (Miscounted off)) walk tiles = walk.stopped
exported held size partial before after (Err (Incomplete from to)) walk tiles = absurd walk.stopped
exported held size partial before after (Err (PastEnd fin)) walk tiles = absurd walk.stopped

-- nothing was written
pub export-unbegun : (held : HeldMap) (size : ℕ) (partial : Bool) (text : Known) (fault : ExportFault) → IsUnbegun held size partial fault → IsExport held size partial text text (Err fault)
export-unbegun held size partial text (Store fault) h = (0, inr refl, Appends-nil text, λ whole. inr refl)
export-unbegun held size partial text (Incomplete from to) h = (h.0, refl, h.1)
export-unbegun held size partial text (PastEnd fin) h = (h.0, refl, h.1)
export-unbegun held size partial text WriteFailed h = absurd h
export-unbegun held size partial text BlockTooLarge h = absurd h
export-unbegun held size partial text (Miscounted off) h = absurd h

-- a refusal by the extents of a map
pub unbegun : (held : HeldMap) (size : ℕ) (partial : Bool) (fault : ExportFault) → partial ≡ false → IsRefusal held size fault → IsUnbegun held size partial fault
unbegun held size partial (Incomplete from to) whole refusal = (whole, refusal)
unbegun held size partial (PastEnd fin) whole refusal = (whole, refusal)
unbegun held size partial WriteFailed whole refusal = refusal
unbegun held size partial BlockTooLarge whole refusal = refusal
unbegun held size partial (Miscounted off) whole refusal = refusal
unbegun held size partial (Store fault) whole refusal = tt
