use Rattle.sqlite_store.specs.FileStore.{view}
use Rattle.sqlite_wal.specs.Files.{seen_image}
use Rattle.osm_databases.proofs.Looked.{found_of_version}
use Rattle.osm_databases.proofs.trees.checked_trees_in.Goals as goal

pub returns-in-Ok-clause-version : goal.returns-in-Ok-clause-version
returns-in-Ok-clause-version g c = found_of_version view (seen_image g.D.Disk c.args.files.log c.args.files.db) c.in-Ok.found c.in-Ok.ensures.opened c.in-Ok.ensures.asked
