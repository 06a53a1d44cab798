-- The held map: what a store stands for.
use Rattle.std.specs.Prelude.{◌≡◌, ◌⊎◌, ℕ, ◌^◌, ◌-◌, ◌<◌, ◌≤◌, List, length, Some}
use Rattle.std.specs.List.{AllByRecursion}
use Rattle.osm_write.specs.Canon.{texts_of, first_uses}
use Rattle.std.specs.Ordering.{nat_cmp}
use Rattle.std.specs.FinMap.{FinMap, get}
use Rattle.osm_value.specs.declared.element.Element.{Element}
use Rattle.pbf_frame.specs.declared.kind.Kind.{Kind}
use Rattle.pbf_frame.specs.declared.part.TheConstants.{MAX_OFFSET}

-- a held blob: where its frame ends, the frame's SHA-256, its kind and its elements
pub record Blob : Type 0 where
  pub fin : ℕ
  pub digest : List ℕ
  pub kind : Kind
  pub elements : List Element

-- the element uses fewer than 2 ^ 31 - 1 different texts, so that it has a block of its own
abbrev pub HasFewTexts : Element → Type 0
HasFewTexts e = length (first_uses (texts_of e)) < 2 ^ 31 - 1

-- each of these elements uses fewer than 2^31 - 1 different texts, so that it has a block of its own
abbrev pub HaveFewTexts : List Element → Type 0
HaveFewTexts elements = AllByRecursion HasFewTexts elements

-- the held blobs by the offsets of their frames
abbrev pub HeldMap : Type 0
HeldMap = FinMap nat_cmp Blob

-- no held extent shares a byte with off..fin
abbrev pub IsFree : HeldMap → ℕ → ℕ → Type 0
IsFree held off fin = (at : ℕ) (blob : Blob) → get held at ≡ Some blob → (blob.fin ≤ off) ⊎ (fin ≤ at)

-- held extents have bytes, don't meet, and end at `MAX_OFFSET` at most
pub record IsApart (held : HeldMap) : Type 0 where
  pub filled : (at : ℕ) (blob : Blob) → get held at ≡ Some blob → at < blob.fin
  pub limit : (at : ℕ) (blob : Blob) → get held at ≡ Some blob → blob.fin ≤ MAX_OFFSET
  pub apart : (at next : ℕ) (blob other : Blob) → get held at ≡ Some blob → get held next ≡ Some other → at < next → blob.fin ≤ next
