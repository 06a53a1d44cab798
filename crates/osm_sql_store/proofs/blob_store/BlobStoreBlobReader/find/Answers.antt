use Rattle.std.proofs.Common.{refl}
use Rattle.osm_sql_store.proofs.LoadLemmas.ReaderPromises.{reads_held}
use Rattle.osm_sql_store.proofs.blob_store.BlobStoreBlobReader.find.Goals as goal

pub returns-clause-reads : goal.returns-clause-reads
returns-clause-reads g c =
    reads_held g.S.Store (record { connection = c.find_held-answer.new.connection; failures = c.failures_after-self-inside.result }) refl c.self.view_is c.find_held-answer.ensures.asks c.find_held-answer.result c.failures_after-self-inside.ensures
    _ c.find_held-answer.ensures.held
