-- What an audit of the trees tells of the last commit, and of a held map.
use Rattle.std.proofs.Common.{◌≡◌, ◌∙◌, ℕ, pos, Bool, IsTrue, List, [], ◌∷◌, map, filter, flat_map, drop, Result, Some, refl, sym, ap, subst}
use Rattle.std.specs.Prelude.{◌==◌, ◌↔◌, IfOk}
use Rattle.std.specs.FinMap.{get}
use Rattle.std.specs.List.{AllByRecursion}
use Rattle.std.proofs.lemmas.List.Sorted.{IsPermutation-sym}
use Rattle.sqlite.specs.Effect.{Database}
use Rattle.sqlite_value.specs.declared.value.Value.TheVariants.{Int}
use Rattle.sqlite_trees.specs.Tree.{Trees, has_rowid}
use Rattle.sqlite_trees.specs.View.{View}
use Rattle.sqlite_trees.proofs.ListLemmas.{filter-map}
use Rattle.osm_value.specs.declared.element.Element.{Element}
use Rattle.osm_value.specs.Elements.{tags_of_element}
use Rattle.osm_rows.specs.declared.audit.counts.Counts.{Counts}
use Rattle.osm_rows.specs.declared.fault.StoreFault.{StoreFault}
use Rattle.osm_rows.specs.declared.keeper.Extent.{Extent}
use Rattle.osm_rows.specs.declared.schema.layout.Layout.TheVariants.{Tables}
use Rattle.osm_rows.specs.Audit.{AreCountable, IsPlain, ShowsCounts, counts_of, elements_held}
use Rattle.osm_rows.specs.Held.{Blob, HeldMap}
use Rattle.osm_rows.specs.Keeping.{extent_of, extents_of}
use Rattle.osm_rows.specs.Rows.{Placed, placed_in, extent_row}
use Rattle.osm_rows.specs.Schema.Tables.{table_schema}
use Rattle.osm_rows.specs.TableRows.{element_row, tags_at, tag_row, links_at, links_of, link_row}
use Rattle.osm_rows.proofs.AuditLemmas.HeldRows.{filter_same, shown_at, entry_at, extents_at, HasRowsOf, shown_held, held_counted}
use Rattle.osm_rows.proofs.ListLemmas.CompareLemmas.{same_number}
use Rattle.osm_rows.proofs.MapLemmas.HeldLemmas.{placed_at}
use Rattle.osm_rows.proofs.MapLemmas.TableHeld.{parts_of_blob}
use Rattle.osm_tree_writes.specs.Putting.{IsIndexedStore, TreesHold}
use Rattle.osm_tree_audits.specs.Auditing.{KeepsBlob}
use Rattle.osm_tree_audits.specs.Looks.{IsLook}
use Rattle.osm_tree_audits.specs.declared.look.Look.{Look}
use Rattle.osm_tree_audits.proofs.AtOffset.{equal_is}
use Rattle.osm_tree_audits.proofs.Shown.{blob_shown}
use Rattle.osm_trees.specs.Below.{HoldsBelow, IsIndexed}

-- where nothing is written, what is told of the trees is told of the last commit
pub told_blob : (v : View) (look : Look) (extent : Extent) (inside : List Element) (r : Result Bool StoreFault) → IsIndexed v → IsLook v.committed look
    → (IsIndexedStore v.trees → IsLook v.trees look → IfOk r (λ told. IsTrue told ↔ KeepsBlob v.trees extent inside)) → IfOk r (λ told. IsTrue told ↔ KeepsBlob v.committed extent inside)
told_blob v look extent inside r is seen told =
    subst (λ (db : Trees). IfOk r (λ told. IsTrue told ↔ KeepsBlob db extent inside)) is.settled (told is.indexed (subst (λ (db : Trees). IsLook db look) (sym is.settled) seen))

pub told_counts : (v : View) (look : Look) (counts : Counts) (r : Result Bool StoreFault) → IsIndexed v → IsLook v.committed look
    → (IsLook v.trees look → IfOk r (λ told. IsTrue told ↔ ShowsCounts Tables v.trees counts)) → IfOk r (λ told. IsTrue told ↔ ShowsCounts Tables v.committed counts)
told_counts v look counts r is seen told =
    subst (λ (db : Trees). IfOk r (λ told. IsTrue told ↔ ShowsCounts Tables db counts)) is.settled (told (subst (λ (db : Trees). IsLook db look) (sym is.settled) seen))

-- ---- a held map

-- a database of these trees
abbrev of_tables : Trees → Database
of_tables db = record { schema = table_schema; trees = db }

rowid_is : (off : ℕ) (e : Extent) → has_rowid (pos off) (extent_row e) ≡ (e.off == off)
rowid_is off e = sym (equal_is (Int (pos e.off)) (pos off)) ∙ same_number e.off off

-- the rows of a held blob are kept at its offset
held_kept : (db : Trees) (held : HeldMap) → TreesHold Tables held db → (off : ℕ) (blob : Blob) → get held off ≡ Some blob → KeepsBlob db (extent_of (off, blob)) blob.elements
held_kept db held tables off blob is =
    let here = placed_at held off blob is in
    record {
      extent = subst (λ (rows : List _). filter (has_rowid (pos off)) rows ≡ extent_row (extent_of (off, blob)) ∷ []) (sym tables.blob)
          (filter-map (has_rowid (pos off)) extent_row (extents_of held)
          ∙ ap (map extent_row) (filter_same (λ (e : Extent). has_rowid (pos off) (extent_row e)) (λ (e : Extent). e.off == off) (rowid_is off) (extents_of held) ∙ extents_at held off ∙ ap (λ o. map extent_of (entry_at off o)) is));
      elements = shown_at element_row (λ (p : Placed). p.0) (λ p. refl) off (map (drop 1) (db 2)) (placed_in held) _ (IsPermutation-sym _ _ tables.elements.0) here;
      tags = shown_at tag_row (λ x. x.off) (λ x. refl) off (map (drop 1) (db 4)) (flat_map tags_at (placed_in held)) _ (IsPermutation-sym _ _ tables.elements.1) (parts_of_blob (λ (p : Placed). tags_of_element p.2) off (placed_in held) ∙ ap (flat_map tags_at) here);
      links = shown_at link_row (λ x. x.off) (λ x. refl) off (map (drop 1) (db 6)) (flat_map links_at (placed_in held)) _ (IsPermutation-sym _ _ tables.elements.2) (parts_of_blob (λ (p : Placed). links_of p.2) off (placed_in held) ∙ ap (flat_map links_at) here);
    }

module _ (v : View) (held : HeldMap) (holds : HoldsBelow Tables v held) where
  pub is_indexed : IsIndexed v
  is_indexed = record { settled = holds.settled; indexed = holds.tables.obeys.indexed }

  committed : TreesHold Tables held v.committed
  committed = subst (TreesHold Tables held) holds.settled holds.tables

  rows : HasRowsOf Tables held v.committed
  rows = record { blob = committed.blob; elements = committed.elements }

  -- rows are those of a blob exactly where the map has it there
  pub kept_is : (off : ℕ) (blob : Blob) → AllByRecursion IsPlain blob.elements → KeepsBlob v.committed (extent_of (off, blob)) blob.elements ↔ (get held off ≡ Some blob)
  kept_is off blob plain = (
    (λ kept. shown_held Tables (of_tables v.committed) held refl rows holds.kept off blob plain (blob_shown v.committed off blob kept)),
    held_kept v.committed held committed off blob,
  )

  pub counted : AreCountable (counts_of (elements_held held)) → ShowsCounts Tables v.committed (counts_of (elements_held held))
  counted few = held_counted Tables (of_tables v.committed) held refl rows few
