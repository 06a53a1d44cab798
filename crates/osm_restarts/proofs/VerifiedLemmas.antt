-- A store that keeps the rows of an import, and no others, holds the map of the import.
use Rattle.std.proofs.Common.{◌≡◌, ℕ, List, false, take, sym, subst, inr}
use Rattle.sqlite_trees.specs.declared.store.Shape.{Shape}
use Rattle.sqlite_trees.specs.Objects.{catalog_tree}
use Rattle.sqlite_trees.specs.Tree.{Trees}
use Rattle.sqlite_trees.specs.View.{View, IsClean, IsOrdered, IsShaped}
use Rattle.osm_rows.specs.declared.schema.layout.Layout.TheVariants.{Tables}
use Rattle.osm_rows.specs.Held.{Blob, HeldMap}
use Rattle.osm_rows.specs.Keeping.{extent_of}
use Rattle.osm_tree_writes.specs.Putting.{TreesHold}
use Rattle.osm_tree_writes.proofs.Obeying.{obey, one_map_below}
use Rattle.osm_tree_audits.specs.Auditing.{KeepsBlob}
use Rattle.osm_tree_audits.proofs.Whole.{blobs_are, elements_are}
use Rattle.osm_trees.specs.Below.{HoldsBelow, IsChecked}
use Rattle.osm_tree_writes.specs.Tables.{table_listings}
use Rattle.osm_import.specs.Merges.{IsImported, placed_from}
use Rattle.osm_verify.specs.Audits.{KeepsImport}
use Rattle.osm_verify.proofs.KeptLemmas.{imported-kept}

-- as they are kept
abbrev pub keeps : Trees → ℕ → Blob → Type 0
keeps db off blob = KeepsBlob db (extent_of (off, blob)) blob.elements

pub verified_holds : (v : View) → (v.is_broken ≡ false → IsOrdered v.shape v.trees) → IsClean v → IsChecked v → take 9 (v.trees catalog_tree) ≡ table_listings
    → (frames : List (List ℕ)) → KeepsImport (keeps v.committed) Tables v.committed frames → (held : HeldMap) × IsImported (placed_from 0 frames) held × HoldsBelow Tables v held
verified_holds v ordered clean checked lists frames committed =
    let settled = checked.indexed.settled in
    let keep = subst (λ (db : Trees). KeepsImport (keeps db) Tables db frames) (sym settled) committed in
    let held = keep.held in
    let db = v.trees in
    let sorted = ordered checked.unbroken in
    let shaped = checked.shaped in
    let stands = λ (t : ℕ) (shape : Shape) (is : v.shape t ≡ shape). subst (λ s. IsShaped s (db t)) is (sorted t) in
    let blobs = blobs_are db held keep.kept keep.counted (stands 1 _ shaped.0) in
    let elements = elements_are db held keep.kept keep.counted in
    let kept = imported-kept held frames keep.imported in
    let tables : TreesHold Tables held db = record {
      lists = inr lists;
      obeys = obey held db checked.version blobs elements (stands 2 _ shaped.1.0, stands 4 _ shaped.2.0, stands 6 _ shaped.3.0) checked.indexed.indexed;
      meta = checked.version;
      blob = blobs;
      elements = elements;
    } in (
      held,
      keep.imported,
      record {
        clean = clean;
        unbroken = checked.unbroken;
        settled = settled;
        kept = kept;
        tables = tables;
        only = λ other kept_too tables_too. one_map_below Tables other held db kept_too kept tables_too tables;
      },
    )
