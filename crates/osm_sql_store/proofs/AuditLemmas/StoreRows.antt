-- What an audit finds in a store that holds a map.
use Rattle.std.proofs.Common.{◌≡◌, ℕ, Some, sym, ap, subst, ◌∙◌}
use Rattle.std.specs.FinMap.{get}
use Rattle.std.specs.List.{AllByRecursion}
use Rattle.sqlite.specs.Effect.{Database}
use Rattle.sqlite.specs.State.{State}
use Rattle.osm_rows.specs.Audit.{ShowsBlob, ShowsCounts, AreCountable, IsPlain, counts_of, elements_held}
use Rattle.osm_rows.specs.declared.schema.layout.Layout.{Layout}
use Rattle.osm_rows.specs.Held.{Blob, HeldMap}
use Rattle.osm_rows.specs.LayoutHolding.{Holds}
use Rattle.osm_rows.specs.Schema.Layouts.{schema_of}
use Rattle.osm_rows.proofs.AuditLemmas.HeldRows.{HasRowsOf, held_counted, held_shown, shown_held}

-- ---- the same of a store

module _ (layout : Layout) (s : State) (held : HeldMap) (holds : Holds layout s held) where
  still : s.committed ≡ s.now
  still = sym holds.settled

  pub has_schema : s.committed.schema ≡ schema_of layout
  has_schema = ap (λ (d : Database). d.schema) still ∙ holds.schema

  tables : HasRowsOf layout held s.committed.trees
  tables = subst (λ (d : Database). HasRowsOf layout held d.trees) holds.settled (record { blob = holds.tables.blob; elements = holds.tables.elements })

  pub shows_held : (off : ℕ) (blob : Blob) → get held off ≡ Some blob → ShowsBlob layout s.committed.trees off blob
  shows_held = held_shown layout s.committed held has_schema tables

  pub holds_shown : (off : ℕ) (blob : Blob) → AllByRecursion IsPlain blob.elements → ShowsBlob layout s.committed.trees off blob → get held off ≡ Some blob
  holds_shown = shown_held layout s.committed held has_schema tables holds.kept

  pub counts_held : AreCountable (counts_of (elements_held held)) → ShowsCounts layout s.committed.trees (counts_of (elements_held held))
  counts_held = held_counted layout s.committed held has_schema tables
