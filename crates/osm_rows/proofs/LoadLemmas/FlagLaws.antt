-- Whether some held element has a flag, blob by blob.
use Rattle.std.proofs.Common.{◌≡◌, ℕ, ◌+◌, ◌<◌, ◌≤◌, Bool, true, false, ◌||◌, List, [], ◌∷◌, Some, drop, length, get_or, refl, sym, ap, ap₂, ◌∙◌, arith}
use Rattle.std.specs.Prelude.{flat_map}
use Rattle.std.specs.List.{list_any}
use Rattle.std.specs.FinMap.{entries, get}
use Rattle.std.proofs.lemmas.List.{drop_all, length-map}
use Rattle.std.proofs.lemmas.List.Elements.{All-from_recursion}
use Rattle.std.proofs.lemmas.List.Folds.{list_any-append}
use Rattle.osm_value.specs.declared.element.Element.{Element}
use Rattle.osm_rows.specs.declared.keeper.Extent.{Extent}
use Rattle.osm_rows.specs.Flags.{has_flag, has_flags}
use Rattle.osm_rows.specs.Held.{Blob, HeldMap}
use Rattle.osm_rows.specs.Keeping.{extent_of, extents_of}
use Rattle.osm_rows.specs.Rows.{Placed, placed}
use Rattle.osm_rows.proofs.MapLemmas.PlacedLaws.{Entry, within}
use Rattle.osm_rows.proofs.LoadLemmas.ExtentLaws.{held_each}
use Rattle.osm_rows.proofs.LoadLemmas.RowLoops.{row_at}

-- some element of the blob has one
abbrev pub blob_has_flag : Entry → Bool
blob_has_flag entry = list_any has_flag entry.1.elements

flags_placed : (off position : ℕ) (es : List Element) → list_any (λ (p : Placed). has_flag p.2) (placed off position es) ≡ list_any has_flag es
flags_placed off position [] = refl
flags_placed off position (e ∷ es) = ap (λ b. has_flag e || b) (flags_placed off (position + 1) es)

flags_within : (es : List Entry) → list_any (λ (p : Placed). has_flag p.2) (flat_map within es) ≡ list_any blob_has_flag es
flags_within [] = refl
flags_within (e ∷ es) =
    list_any-append (λ (p : Placed). has_flag p.2) (within e) (flat_map within es) ∙ ap₂ ◌||◌ (flags_placed e.0 0 e.1.elements) (flags_within es)

pub flags_by_blob : (held : HeldMap) → has_flags held ≡ list_any blob_has_flag (entries held)
flags_by_blob held = flags_within (entries held)

-- the blob of the extent at this place, which is the next of those that are left
pub record IsNext (held : HeldMap) (at : ℕ) (extent : Extent) : Type 0 where
  pub blob : Blob
  pub found : get held extent.off ≡ Some blob
  pub left : list_any blob_has_flag (drop at (entries held)) ≡ (list_any has_flag blob.elements || list_any blob_has_flag (drop (at + 1) (entries held)))

pub next_blob : (held : HeldMap) (extents : List Extent) (at : ℕ) (extent : Extent) → extents ≡ extents_of held → at < length extents → extent ≡ get_or extents at extent → IsNext held at extent
next_blob held extents at extent are low is =
    let it = row_at (λ (e : Entry). get held e.0 ≡ Some e.1) extent_of (entries held) extents at extent (All-from_recursion _ _ (held_each held)) are low is in
    record {
      blob = it.item.1;
      found = ap (λ (e : Extent). get held e.off) it.is ∙ it.fits;
      left = ap (list_any blob_has_flag) it.rest;
    }

module _ (held : HeldMap) (at : ℕ) (extent : Extent) (next : IsNext held at extent) where
  -- it has no flag, so it is one of those behind it that may have one
  pub flag_behind : list_any has_flag next.blob.elements ≡ false → list_any blob_has_flag (drop (at + 1) (entries held)) ≡ list_any blob_has_flag (drop at (entries held))
  flag_behind none = sym (next.left ∙ ap (λ b. b || list_any blob_has_flag (drop (at + 1) (entries held))) none)

  pub flag_here : list_any has_flag next.blob.elements ≡ true → list_any blob_has_flag (drop at (entries held)) ≡ true
  flag_here some = next.left ∙ ap (λ b. b || list_any blob_has_flag (drop (at + 1) (entries held))) some

-- none is left
pub no_flag_left : (held : HeldMap) (extents : List Extent) (at : ℕ) → extents ≡ extents_of held → length extents ≤ at → list_any blob_has_flag (drop at (entries held)) ≡ false
no_flag_left held extents at are past =
    ap (list_any blob_has_flag) (drop_all at (entries held) (omega (arith, ap length are, length-map (entries held) extent_of)))
