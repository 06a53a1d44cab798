use Rattle.std.proofs.Common.{rules}
use Rattle.sqlite_store.specs.Catalog.{describes, is_about}
use Rattle.osm_openings.proofs.catalog.is_of.Goals as goal

pub returns : goal.returns
unfolding describes is_about
returns c = search rules
