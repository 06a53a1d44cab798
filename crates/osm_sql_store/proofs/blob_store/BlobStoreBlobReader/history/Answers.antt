use Rattle.std.proofs.Common.{refl}
use Rattle.osm_sql_store.proofs.LoadLemmas.ReaderPromises.{reads_held}
use Rattle.osm_sql_store.proofs.blob_store.BlobStoreBlobReader.history.Goals as goal

pub returns-clause-reads : goal.returns-clause-reads
returns-clause-reads g c =
    reads_held g.S.Store (record { connection = c.any_flag_held-answer.new.connection; failures = c.failures_after-self-inside.result }) refl c.self.view_is c.any_flag_held-answer.ensures.asks c.any_flag_held-answer.result c.failures_after-self-inside.ensures
    _ c.any_flag_held-answer.ensures.held
