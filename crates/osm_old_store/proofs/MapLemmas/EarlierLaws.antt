-- Rows that were stored before flags of visibility were read hold the same map.
use Rattle.std.proofs.Common.{◌≡◌, ℕ, ◌+◌, ◌^◌, ◌<◌, List, [], ◌∷◌, ◌++◌, map, length, refl, sym, ap, ◌∙◌, subst}
use Rattle.std.specs.Prelude.{flat_map}
use Rattle.std.specs.List.{AllByRecursion}
use Rattle.std.specs.FinMap.{entries}
use Rattle.std.proofs.lemmas.List.{map-append}
use Rattle.sqlite.specs.Order.{Row}
use Rattle.sqlite.specs.Tree.{Trees}
use Rattle.osm_value.specs.declared.element.Element.{Element}
use Rattle.osm_value.specs.Elements.{kind_of_element, id_of_element}
use Rattle.osm_write.specs.Canon.{canon}
use Rattle.osm_write.specs.EarlierCanon as written
use Rattle.osm_write.proofs.EarlierBlocks.{canon_is}
use Rattle.osm_rows.specs.declared.schema.layout.Layout.{Layout}
use Rattle.osm_rows.specs.declared.schema.layout.Layout.TheVariants.{Bodies, Tables}
use Rattle.osm_rows.specs.Held.{Blob, HeldMap}
use Rattle.osm_rows.specs.Rows.{Placed, placed, placed_in, body_columns, body_row, CanStore}
use Rattle.osm_rows.specs.LayoutHolding.{TablesHold, HoldElements, HasRows, IsBlob, IsKept}
use Rattle.osm_old_store.specs.EarlierRows as earlier

-- ---- elements

body_now : (e : Element) → earlier.IsFlagless e → written.canon (e ∷ []) ≡ canon (e ∷ [])
body_now e h = canon_is (e ∷ []) (h.no_flag, tt)

flagless : (layout : Layout) (e : Element) → earlier.CanStore layout e → earlier.IsFlagless e
flagless Bodies e h = h.element
flagless Tables e h = h

can_store_now : (layout : Layout) (e : Element) → earlier.CanStore layout e → CanStore layout e
can_store_now Bodies e h = record { in_range = h.element.in_range; short = subst (λ (w : List ℕ). length w < 2 ^ 64) (body_now e h.element) h.short }
can_store_now Tables e h = h.in_range

-- ---- maps

all_can_store : (layout : Layout) (es : List Element) → AllByRecursion (earlier.CanStore layout) es → AllByRecursion (CanStore layout) es
all_can_store layout [] all = tt
all_can_store layout (e ∷ es) all = (can_store_now layout e all.0, all_can_store layout es all.1)

abbrev Entry : Type 0
Entry = ℕ × Blob

abbrev AreBlobs : Layout → List Entry → Type 0
AreBlobs layout entries = AllByRecursion (λ (entry : Entry). earlier.IsBlob layout entry.1) entries

blobs_now : (layout : Layout) (all : List Entry) → AreBlobs layout all → AllByRecursion (λ (entry : Entry). IsBlob layout entry.1) all
blobs_now layout [] blobs = tt
blobs_now layout (entry ∷ all) blobs = (
  record { digest = blobs.0.digest; can_store = all_can_store layout entry.1.elements blobs.0.can_store; few_texts = blobs.0.few_texts },
  blobs_now layout all blobs.1,
)

pub kept_now : (layout : Layout) (held : HeldMap) → earlier.IsKept layout held → IsKept layout held
kept_now layout held kept = record { apart = kept.apart; blobs = blobs_now layout (entries held) kept.blobs }

-- ---- bodies

row_now : (layout : Layout) (off position : ℕ) (e : Element) → earlier.CanStore layout e → earlier.body_row (off, position, e) ≡ body_row (off, position, e)
row_now layout off position e can = ap (body_columns off position (kind_of_element e) (id_of_element e)) (body_now e (flagless layout e can))

rows_now : (layout : Layout) (off position : ℕ) (es : List Element) → AllByRecursion (earlier.CanStore layout) es → map earlier.body_row (placed off position es) ≡ map body_row (placed off position es)
rows_now layout off position [] all = refl
rows_now layout off position (e ∷ es) all =
    ap (λ row. row ∷ map earlier.body_row (placed off (position + 1) es)) (row_now layout off position e all.0)
    ∙ ap (λ rows. body_row (off, position, e) ∷ rows) (rows_now layout off (position + 1) es all.1)

abbrev all_placed : List Entry → List Placed
all_placed all = flat_map (λ (entry : Entry). placed entry.0 0 entry.1.elements) all

all_rows_now : (layout : Layout) (all : List Entry) → AreBlobs layout all → map earlier.body_row (all_placed all) ≡ map body_row (all_placed all)
all_rows_now layout [] blobs = refl
all_rows_now layout (entry ∷ all) blobs =
    let here : List Placed = placed entry.0 0 entry.1.elements in
    map-append earlier.body_row here (all_placed all)
    ∙ ap (λ rows. rows ++ map earlier.body_row (all_placed all)) (rows_now layout entry.0 0 entry.1.elements blobs.0.can_store)
    ∙ ap (λ rows. map body_row here ++ rows) (all_rows_now layout all blobs.1)
    ∙ sym (map-append body_row here (all_placed all))

elements_now : (layout : Layout) (held : HeldMap) (db : Trees) → earlier.IsKept layout held → earlier.HoldElements layout (placed_in held) db → HoldElements layout (placed_in held) db
elements_now Bodies held db kept h = subst (λ (rows : List Row). HasRows rows (db 2)) (all_rows_now Bodies (entries held) kept.blobs) h
elements_now Tables held db kept h = h

pub tables_now : (layout : Layout) (held : HeldMap) (db : Trees) → earlier.IsKept layout held → earlier.TablesHold layout held db → TablesHold layout held db
tables_now layout held db kept h = record { sound = h.sound; meta = h.meta; blob = h.blob; elements = elements_now layout held db kept h.elements }
