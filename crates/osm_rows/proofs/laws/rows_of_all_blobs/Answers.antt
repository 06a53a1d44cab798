use Rattle.osm_rows.proofs.AuditLemmas.AllRows.{shows_map}
use Rattle.osm_rows.proofs.laws.rows_of_all_blobs.Goals as goal

pub returns : goal.returns
returns c = shows_map
