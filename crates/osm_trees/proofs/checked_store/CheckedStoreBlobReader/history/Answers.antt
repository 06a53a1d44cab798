use Rattle.osm_trees.proofs.CheckedReads.{checked_reads}
use Rattle.osm_trees.proofs.checked_store.CheckedStoreBlobReader.history.Goals as goal

pub returns-clause-reads : goal.returns-clause-reads
returns-clause-reads g c = checked_reads g.S.Store g.met.S.Store.broken_if_shut c.self.inside.trees c.history.new.self c.self.inside.look c.args.self.now c.self.view_is c.history.result c.history.ensures.reads
