-- Held extents don't meet, so those that start before a held offset end there.
use Rattle.std.proofs.Common.{◌≡◌, inl, inr, ◌<◌, ◌≤◌, List, [], ◌∷◌, Bool, Some, All, cond, refl, ap, ◌∙◌, arith}
use Rattle.std.specs.Prelude.{filter}
use Rattle.std.specs.List.{AllByRecursion}
use Rattle.std.specs.Ordering.{nat_cmp}
use Rattle.std.specs.Cmp.{unsigned_tied}
use Rattle.std.specs.FinMap.{entries, get, find, get-entries}
use Rattle.std.proofs.lemmas.Bool.Decides.{eqb_tells}
use Rattle.std.proofs.lemmas.List.Elements.{All-from_recursion}
use Rattle.sqlite_trees.specs.Tree.{IsAscending}
use Rattle.sqlite_trees.proofs.ListLemmas.{all_weaker, all_both, all-map, ascending-map, ascending-filter, ascending-get_or}
use Rattle.osm_rows.specs.declared.keeper.Extent.{Extent}
use Rattle.osm_rows.specs.Held.{HeldMap, IsApart}
use Rattle.osm_rows.specs.Keeping.{AscendApart, extent_of, extents_of}
use Rattle.osm_rows.specs.declared.schema.layout.Layout.{Layout}
use Rattle.osm_rows.specs.LayoutHolding.{IsBlob, IsKept, IsKeptExtent}
use Rattle.osm_rows.proofs.MapLemmas.PlacedLaws.{Entry, entries_rise}
use Rattle.osm_rows.proofs.LoadLemmas.ShownRows.{ascending_among}

-- ---- each entry is what the map has at its offset

found_first : (e : Entry) (es : List Entry) → find nat_cmp e.0 (e ∷ es) ≡ Some e.1
found_first e es = elim (eqb_tells e.0 e.0) [
  | inl (test, same) ↦ ap (λ b. cond b (Some e.1) (find nat_cmp e.0 es)) (unsigned_tied e.0 e.0 ∙ test)
  | inr (test, apart) ↦ absurd (apart refl)
]

found_later : (e x : Entry) (es : List Entry) → e.0 < x.0 → find nat_cmp x.0 es ≡ Some x.1 → find nat_cmp x.0 (e ∷ es) ≡ Some x.1
found_later e x es low is = elim (eqb_tells x.0 e.0) [
  | inl (test, same) ↦ absurd (omega arith)
  | inr (test, apart) ↦ ap (λ b. cond b (Some e.1) (find nat_cmp x.0 es)) (unsigned_tied x.0 e.0 ∙ test) ∙ is
]

found_each : (es : List Entry) → IsAscending (λ (a b : Entry). a.0 < b.0) es → AllByRecursion (λ (e : Entry). find nat_cmp e.0 es ≡ Some e.1) es
found_each [] up = tt
found_each (e ∷ es) up =
    (found_first e es, all_both _ _ (λ (x : Entry). find nat_cmp x.0 (e ∷ es) ≡ Some x.1) (λ x low is. found_later e x es low is) es up.0 (found_each es up.1))

pub held_each : (held : HeldMap) → AllByRecursion (λ (e : Entry). get held e.0 ≡ Some e.1) (entries held)
held_each held = all_weaker _ _ (λ e is. get-entries held e.0 ∙ is) (entries held) (found_each (entries held) (entries_rise held))

-- ---- the extents as a list

kept_each : (layout : Layout) (held : HeldMap) → IsKept layout held → AllByRecursion (λ (e : Extent). IsKeptExtent e) (extents_of held)
kept_each layout held kept = all-map (λ (e : Extent). IsKeptExtent e) extent_of (entries held)
    (all_both (λ (e : Entry). get held e.0 ≡ Some e.1) (λ (e : Entry). IsBlob layout e.1) (λ (e : Entry). IsKeptExtent (extent_of e))
    (λ e is blob. record { digest = blob.digest; range = (kept.apart.filled e.0 e.1 is, kept.apart.limit e.0 e.1 is) }) (entries held) (held_each held) kept.blobs)

-- what is kept of each extent
pub extents_kept : (layout : Layout) (held : HeldMap) → IsKept layout held → All IsKeptExtent (extents_of held)
extents_kept layout held kept = All-from_recursion _ _ (kept_each layout held kept)

pub apart_each : (held : HeldMap) → IsApart held → IsAscending (λ (a b : Extent). a.fin ≤ b.off) (extents_of held)
apart_each held apart =
    ascending-map (λ (a b : Extent). a.fin ≤ b.off) extent_of (entries held)
    (ascending_among (λ (e : Entry). get held e.0 ≡ Some e.1) (λ (a b : Entry). a.0 < b.0) (λ (a b : Entry). a.1.fin ≤ b.0) (λ a b is_a is_b low. apart.apart a.0 b.0 a.1 b.1 is_a is_b low) (entries held) (held_each held) (entries_rise held))

ascend : (extents : List Extent) → IsAscending (λ (a b : Extent). a.fin ≤ b.off) extents → AscendApart extents
ascend extents up = λ i j d low within. ascending-get_or (λ (a b : Extent). a.fin ≤ b.off) extents i j d up low within

-- held extents ascend and don't meet, and so do some of them
pub held_apart : (held : HeldMap) → IsApart held → AscendApart (extents_of held)
held_apart held apart = ascend (extents_of held) (apart_each held apart)

pub some_apart : (p : Extent → Bool) (held : HeldMap) → IsApart held → AscendApart (filter p (extents_of held))
some_apart p held apart = ascend (filter p (extents_of held)) (ascending-filter (λ (a b : Extent). a.fin ≤ b.off) p (extents_of held) (apart_each held apart))
