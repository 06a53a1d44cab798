use Rattle.std.proofs.Common.{subst}
use Rattle.std.specs.Prelude.{IfOk, IfSome}
use Rattle.sqlite_store.specs.FileStore.{view}
use Rattle.sqlite_trees.specs.View.{IsClean}
use Rattle.sqlite_wal.specs.Recovery.{Image}
use Rattle.osm_openings.specs.Opened.{IsOpened}
use Rattle.osm_databases.proofs.files.checked_trees_to_read.Goals as goal

pub returns-clause-opened : goal.returns-clause-opened
returns-clause-opened g c = subst (λ (image : Image). IfOk c.checked_trees_in.result (λ found. IfSome found (λ store. IsClean (view store) → IsOpened image (view store)))) c.in_ok-files.ensures.image c.checked_trees_in.ensures.opened
