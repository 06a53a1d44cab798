use Rattle.std.proofs.Common.{◌≡◌, ℕ, [], ◌∷◌, refl, sym, subst}
use Rattle.std.specs.Prelude.{◌↔◌, IfOk, IsTrue}
use Rattle.sqlite.specs.Held.{state}
use Rattle.osm_rows.specs.Audit.{HasAt, ShowElementsAt, ShowsBlob, seen_extents}
use Rattle.osm_rows.specs.declared.schema.layout.Layout.{Layout}
use Rattle.osm_rows.specs.Held.{Blob}
use Rattle.osm_rows.specs.Keeping.{extent_of}
use Rattle.osm_rows.specs.Rows.{extent_columns, placed}
use Rattle.osm_rows.specs.Schema.Layouts.{schema_of}
use Rattle.osm_sql_store.specs.Store.{Store}
use Rattle.sqlite.specs.Tree.{Trees}
use Rattle.osm_rows.proofs.AuditLemmas.Telling.{iff_then, ok_told, both_told}
use Rattle.osm_sql_store.proofs.AuditLemmas.StoreRows.{has_schema, shows_held, holds_shown}
use Rattle.osm_sql_store.proofs.LoadLemmas.ReaderPromises.{reads}
use Rattle.osm_sql_store.proofs.blob_store.BlobStoreAudited.has_blob.Goals as goal

whole : (layout : Layout) (db : Trees) (off : ℕ) (blob : Blob) → (HasAt off (extent_columns (extent_of (off, blob)) ∷ []) (seen_extents db) × ShowElementsAt layout off (placed off 0 blob.elements) db) ↔ ShowsBlob layout db off blob
whole layout db off blob = ((λ parts. record { extent = parts.0; elements = parts.1 }), λ shown. (shown.extent, shown.elements))

pub returns-clause-told : goal.returns-clause-told
returns-clause-told g c clean schema =
    let layout = g.L.StoreLayout.LAYOUT in
    let blob : Blob = record { fin = c.args.fin; digest = c.args.digest.now; kind = c.args.kind; elements = c.args.elements.now } in
    let was = sym c.self.view_is in
    let inside = state g.S.Store c.self.inside.connection in
    let here : inside.committed.schema ≡ schema_of layout = subst (λ (s : Store _). (state g.S.Store s.connection).committed.schema ≡ schema_of layout) was schema in
    subst (λ (s : Store _). IfOk c.has_rows_of-answer.result (λ told. IsTrue told ↔ ShowsBlob layout (state g.S.Store s.connection).committed.trees c.args.off blob)) c.self.view_is
    (ok_told c.has_rows_of-answer.result (λ b told. iff_then told (whole layout inside.committed.trees c.args.off blob)) (c.has_rows_of-answer.ensures.told clean here))

pub returns-clause-opened : goal.returns-clause-opened
returns-clause-opened g c clean = ok_told c.has_rows_of-answer.result (λ b up. (clean, up)) (c.has_rows_of-answer.ensures.opened clean)

pub returns-clause-reads : goal.returns-clause-reads
returns-clause-reads g c =
    reads g.S.Store (record { connection = c.has_rows_of-answer.new.connection; failures = c.failures_after-self-inside.result }) refl c.self.view_is c.has_rows_of-answer.ensures.asks c.has_rows_of-answer.result c.failures_after-self-inside.ensures
    (λ clean held holds. both_told _ _ c.has_rows_of-answer.result (c.has_rows_of-answer.ensures.opened clean) c.has_rows_of-answer.ensures.ours)

pub returns-clause-held : goal.returns-clause-held
returns-clause-held g c held holds clean plain =
    let layout = g.L.StoreLayout.LAYOUT in
    let blob : Blob = record { fin = c.args.fin; digest = c.args.digest.now; kind = c.args.kind; elements = c.args.elements.now } in
    let old = state g.S.Store c.args.self.now.connection in
    ok_told c.has_rows_of-answer.result (λ b told. iff_then told (holds_shown layout old held holds c.args.off blob plain, shows_held layout old held holds c.args.off blob))
    (returns-clause-told g c clean (has_schema layout old held holds))
