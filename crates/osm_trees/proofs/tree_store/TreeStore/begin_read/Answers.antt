use Rattle.std.proofs.Common.{Err}
use Rattle.osm_rows.specs.declared.fault.StoreFault.TheVariants.{Disk}
use Rattle.osm_trees.proofs.Answers.{just_reads}
use Rattle.osm_trees.proofs.Mending.{leaves_all}
use Rattle.osm_trees.proofs.tree_store.TreeStore.begin_read.Goals as goal

pub returns-clause-reads : goal.returns-clause-reads
returns-clause-reads g c =
    let old = c.args.self.now in
    just_reads g.S.Store old old.store c.end_read.new.self (leaves_all g.S.Store old.store) c.end_read.ensures.mends (Err Disk) (λ clean held holds foreign. foreign) c.end_read.ensures.counted
