-- What is known of each held element.
use Rattle.std.proofs.Common.{ℕ, ◌+◌, List, [], ◌∷◌}
use Rattle.std.specs.List.{AllByRecursion}
use Rattle.std.specs.FinMap.{entries}
use Rattle.sqlite_trees.proofs.ListLemmas.{all_weaker, all_both, all-flat_map}
use Rattle.osm_value.specs.declared.element.Element.{Element}
use Rattle.osm_rows.specs.declared.schema.layout.Layout.{Layout}
use Rattle.osm_rows.specs.Held.{HeldMap, HasFewTexts}
use Rattle.osm_rows.specs.Rows.{Placed, placed, placed_in, CanStore, IsStored}
use Rattle.osm_rows.specs.LayoutHolding.{IsKept}
use Rattle.osm_rows.proofs.MapLemmas.PlacedLaws.{within}

pub stored_both : (layout : Layout) (es : List Element) → AllByRecursion (CanStore layout) es → AllByRecursion HasFewTexts es → AllByRecursion (IsStored layout) es
stored_both layout = all_both (CanStore layout) HasFewTexts (IsStored layout) (λ e can few. (can, few))

placed_stored : (layout : Layout) (off position : ℕ) (es : List Element) → AllByRecursion (IsStored layout) es → AllByRecursion (λ (p : Placed). IsStored layout p.2) (placed off position es)
placed_stored layout off position [] h = tt
placed_stored layout off position (e ∷ es) h = (h.0, placed_stored layout off (position + 1) es h.1)

-- each held element is stored
pub all_stored : (layout : Layout) (held : HeldMap) → IsKept layout held → AllByRecursion (λ (p : Placed). IsStored layout p.2) (placed_in held)
all_stored layout held kept = all-flat_map _ within (entries held) (all_weaker _ _ (λ entry is. placed_stored layout entry.0 0 entry.1.elements (stored_both layout entry.1.elements is.can_store is.few_texts)) (entries held) kept.blobs)
