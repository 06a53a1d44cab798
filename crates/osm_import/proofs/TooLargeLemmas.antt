-- A blob's elements are cut in one way: to their end, or to an element that is too large.
use Rattle.std.proofs.Common.{◌≡◌, ◌⊎◌, ℕ, zero, suc, ◌/◌, Bool, List, [], ◌∷◌, length, drop, Result, Ok, Err, refl, sym, ◌∙◌, ap, subst, inl, inr, arith}
use Rattle.std.specs.FinMap.{entries}
use Rattle.osm_value.specs.declared.element.Element.{Element}
use Rattle.osm_write.specs.Cutter.{is_too_large, Halved, Start, Half, first_count, StepOk, ComesToOne}
use Rattle.osm_rows.specs.Held.{Blob, HeldMap}
use Rattle.osm_reading.specs.Framings.{Known}
use Rattle.osm_import.specs.Pbf.{Cuts, AreFramesOf, IsPbfExport}
use Rattle.osm_import.specs.TooLarge.{IsTooLargeExactly, FirstIsTooLarge}
use Rattle.osm_import.specs.Walks.{elements_at}
use Rattle.osm_import.specs.declared.export.fault.ExportFault.{ExportFault}
use Rattle.osm_import.specs.declared.export.fault.ExportFault.TheVariants.{Incomplete, PastEnd, WriteFailed, BlockTooLarge, Miscounted, Store}

-- ---- one row of halves

-- halving that goes on begins with a count that is too large
first-half : (es : List Element) (from to : ℕ) → Halved es from to → (from ≡ to) ⊎ (is_too_large es from × Halved es (from / 2) to)
first-half es from to (Start count) = inl refl
first-half es from to (Half start count halved large) = elim (first-half es start count halved) [
  | inl same ↦ inr (subst (λ (n : ℕ). is_too_large es n) (sym same) large, subst (λ (n : ℕ). Halved es (n / 2) (count / 2)) (sym same) (Start (count / 2)))
  | inr more ↦ inr (more.0, Half (start / 2) count more.1 large)
]

-- of two counts in one row the one comes from the other
in-a-row : (es : List Element) (start a b : ℕ) → Halved es start a → Halved es start b → Halved es a b ⊎ Halved es b a
in-a-row es start a b (Start count) to_b = inl to_b
in-a-row es start a b (Half from count halved large) to_b = elim (in-a-row es from count b halved to_b) [
  | inl after ↦ elim (first-half es count b after) [
    | inl same ↦ inr (subst (λ (n : ℕ). Halved es n (count / 2)) same (Half count count (Start count) large))
    | inr more ↦ inl more.1
  ]
  | inr before ↦ inr (Half b count before large)
]

-- halving stops at 0, and at a count that isn't too large
stays-zero : (es : List Element) (from to : ℕ) → Halved es from to → from ≡ 0 → to ≡ 0
stays-zero es from to (Start count) none = none
stays-zero es from to (Half start count halved large) none = ap (λ (n : ℕ). n / 2) (stays-zero es start count halved none)

stops-here : (es : List Element) (a b : ℕ) → Halved es a b → (is_too_large es a → ⊥) → a ≡ b
stops-here es a b halved fits = elim (first-half es a b halved) [
  | inl same ↦ same
  | inr more ↦ absurd (fits more.0)
]

-- ---- one block

block-fits : (es : List Element) (block : List ℕ) (count : ℕ) → StepOk es block count → is_too_large es count → ⊥
block-fits es block count step large = let l = ap length step.block_is in omega (arith, step.fits)

one-count : (es : List Element) (block other : List ℕ) (a b : ℕ) → StepOk es block a → StepOk es other b → a ≡ b
one-count es block other a b step step' = elim (in-a-row es (first_count es) a b step.halved step'.halved) [
  | inl after ↦ stops-here es a b after (block-fits es block a step)
  | inr before ↦ sym (stops-here es b a before (block-fits es other b step'))
]

block-or-too-large : (es : List Element) (block : List ℕ) (count : ℕ) → StepOk es block count → ComesToOne es → ⊥
block-or-too-large es block count step one = elim (in-a-row es (first_count es) count 1 step.halved one.0) [
  | inl after ↦ block-fits es block count step (subst (λ (n : ℕ). is_too_large es n) (sym (stops-here es count 1 after (block-fits es block count step))) one.1)
  | inr before ↦ elim (first-half es 1 count before) [
    | inl same ↦ block-fits es block count step (subst (λ (n : ℕ). is_too_large es n) same one.1)
    | inr more ↦ let none : count ≡ 0 = stays-zero es (1 / 2) count more.1 refl in omega (arith, step.some)
  ]
]

no-block-of-none : (block : List ℕ) (count : ℕ) → StepOk [] block count → ⊥
no-block-of-none block count step = omega (arith, step.some, step.within)

none-fit : ComesToOne [] → ⊥
none-fit one = omega (arith, stays-zero [] (first_count []) 1 one.0 refl)

-- ---- one blob

cut-once : (es : List Element) (blocks others : List (List ℕ)) (rest : List Element) → Cuts es blocks [] → Cuts es others rest → ComesToOne rest → ⊥
cut-once es [] [] rest whole cuts large = none-fit (subst ComesToOne (cuts ∙ sym whole) large)
cut-once es [] (other ∷ others) rest whole cuts large = no-block-of-none other cuts.0 (subst (λ (xs : List Element). StepOk xs other cuts.0) (sym whole) cuts.1)
cut-once es (block ∷ blocks) [] rest whole cuts large = block-or-too-large es block whole.0 whole.1 (subst ComesToOne cuts large)
cut-once es (block ∷ blocks) (other ∷ others) rest whole cuts large =
    let same = one-count es block other whole.0 cuts.0 whole.1 cuts.1 in
    cut-once (drop whole.0 es) blocks others rest whole.2 (subst (λ (n : ℕ). Cuts (drop n es) others rest) (sym same) cuts.2) large

-- ---- the blobs of a map

cut-to-end : (es : List (ℕ × Blob)) (bytes : List ℕ) (at : ℕ) → AreFramesOf es bytes → (blocks : List (List ℕ)) × Cuts (elements_at es at) blocks []
cut-to-end [] bytes at frames = ([], refl)
cut-to-end (e ∷ es) bytes zero frames = (frames.0, frames.2)
cut-to-end (e ∷ es) bytes (suc at) frames = cut-to-end es frames.1 at frames.3

pub too-large-exactly : (held : HeldMap) (size : ℕ) (partial : Bool) (before after : Known) (result : Result (Unit {0}) ExportFault)
    → IsPbfExport held size partial before after result → IsTooLargeExactly held result
too-large-exactly held size partial before after (Ok done) export =
    λ large.
    let cut = cut-to-end (entries held) export.0 large.0 export.1 in
    cut-once (elements_at (entries held) large.0) cut.0 large.1 large.2 cut.1 large.3 large.4
too-large-exactly held size partial before after (Err BlockTooLarge) export = (export.2.count, export.2.blocks, export.1, export.2.cut, export.3)
too-large-exactly held size partial before after (Err WriteFailed) export = tt
too-large-exactly held size partial before after (Err (Store fault)) export = tt
too-large-exactly held size partial before after (Err (Incomplete from to)) export = tt
too-large-exactly held size partial before after (Err (PastEnd fin)) export = tt
too-large-exactly held size partial before after (Err (Miscounted off)) export = tt

pub first-too-large : (es : List Element) → ComesToOne es → FirstIsTooLarge es
first-too-large [] one = absurd (none-fit one)
first-too-large (e ∷ es) one = (e, es, refl, one.1)
