use Rattle.std.proofs.Common.{refl, subst, sym}
use Rattle.sqlite.specs.Held.{state}
use Rattle.osm_rows.specs.LayoutHolding.{Holds}
use Rattle.osm_sql_store.specs.Store.{Store}
use Rattle.osm_sql_store.proofs.LoadLemmas.ReaderPromises.{reads_held, ok_of}
use Rattle.osm_sql_store.proofs.blob_store.BlobStoreBlobReader.extents_touching.Goals as goal

pub returns-clause-reads : goal.returns-clause-reads
returns-clause-reads g c =
    reads_held g.S.Store (record { connection = c.touched_extents-answer.new.connection; failures = c.failures_after-self-inside.result }) refl c.self.view_is c.touched_extents-answer.ensures.asks c.touched_extents-answer.result c.failures_after-self-inside.ensures
    _ (c.touched_extents-answer.ensures.held g.L.StoreLayout.LAYOUT)

pub returns-clause-touching : goal.returns-clause-touching
returns-clause-touching g c held holds clean =
    let was = subst (λ (s : Store _). Holds g.L.StoreLayout.LAYOUT (state g.S.Store s.connection) held) (sym c.self.view_is) holds in
    ok_of _ _ _ c.touched_extents-answer.result (c.touched_extents-answer.ensures.held g.L.StoreLayout.LAYOUT held clean was)
