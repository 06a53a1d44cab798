use Rattle.std.proofs.Common.{sym, subst}
use Rattle.std.specs.Prelude.{IfOk, IfSome}
use Rattle.sqlite_store.specs.FileStore.{view}
use Rattle.sqlite_trees.specs.View.{IsClean}
use Rattle.sqlite_wal.specs.Recovery.{Image}
use Rattle.osm_openings.specs.Opened.{IsOpened}
use Rattle.osm_openings.specs.Presumed.{ArePresumedTables}
use Rattle.osm_databases.proofs.files.trees_to_read.Goals as goal

pub trees_in-requires-clause-presumed : goal.trees_in-requires-clause-presumed
trees_in-requires-clause-presumed g c = subst ArePresumedTables (sym c.in_ok-files.ensures.image) c.requires

pub returns-clause-opened : goal.returns-clause-opened
returns-clause-opened g c = subst (λ (image : Image). IfOk c.trees_in.result (λ found. IfSome found (λ store. IsClean (view store) → IsOpened image (view store)))) c.in_ok-files.ensures.image c.trees_in.ensures.opened
