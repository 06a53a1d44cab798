use Rattle.std.proofs.Common.{◌≡◌, refl, sym, subst}
use Rattle.std.specs.Prelude.{◌↔◌, IfOk, IsTrue}
use Rattle.sqlite.specs.Held.{state}
use Rattle.osm_rows.specs.Audit.{AreCountable, ShowsCounts}
use Rattle.osm_rows.specs.declared.audit.counts.Counts.{Counts}
use Rattle.osm_rows.specs.Schema.Layouts.{schema_of}
use Rattle.osm_sql_store.specs.Store.{Store}
use Rattle.osm_rows.proofs.AuditLemmas.Telling.{ok_told, both_told}
use Rattle.osm_sql_store.proofs.AuditLemmas.StoreRows.{has_schema, counts_held}
use Rattle.osm_sql_store.proofs.LoadLemmas.ReaderPromises.{reads}
use Rattle.osm_sql_store.proofs.blob_store.BlobStoreAudited.has_counts.Goals as goal

pub returns-clause-told : goal.returns-clause-told
returns-clause-told g c clean schema =
    let layout = g.L.StoreLayout.LAYOUT in
    let inside = state g.S.Store c.self.inside.connection in
    let here : inside.committed.schema ≡ schema_of layout = subst (λ (s : Store _). (state g.S.Store s.connection).committed.schema ≡ schema_of layout) (sym c.self.view_is) schema in
    subst (λ (s : Store _). IfOk c.has_counts_of-answer.result (λ told. IsTrue told ↔ ShowsCounts layout (state g.S.Store s.connection).committed.trees c.args.counts.now)) c.self.view_is
    (c.has_counts_of-answer.ensures.told clean here)

pub returns-clause-opened : goal.returns-clause-opened
returns-clause-opened g c clean = ok_told c.has_counts_of-answer.result (λ b up. (clean, up)) (c.has_counts_of-answer.ensures.opened clean)

pub returns-clause-reads : goal.returns-clause-reads
returns-clause-reads g c =
    reads g.S.Store (record { connection = c.has_counts_of-answer.new.connection; failures = c.failures_after-self-inside.result }) refl c.self.view_is c.has_counts_of-answer.ensures.asks c.has_counts_of-answer.result c.failures_after-self-inside.ensures
    (λ clean held holds. both_told _ _ c.has_counts_of-answer.result (c.has_counts_of-answer.ensures.opened clean) c.has_counts_of-answer.ensures.ours)

pub returns-clause-held : goal.returns-clause-held
returns-clause-held g c held holds clean same few =
    let layout = g.L.StoreLayout.LAYOUT in
    let old = state g.S.Store c.args.self.now.connection in
    let shown = subst (λ (n : Counts). ShowsCounts layout old.committed.trees n) (sym same) (counts_held layout old held holds (subst (λ (n : Counts). AreCountable n) same few)) in
    ok_told c.has_counts_of-answer.result (λ b told. told.1 shown) (returns-clause-told g c clean (has_schema layout old held holds))
