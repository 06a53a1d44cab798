use Rattle.osm_verify.proofs.AuditLemmas.{audited-shows-import}
use Rattle.osm_verify.proofs.laws.an_audited_store_shows_an_import.Goals as goal

pub returns : goal.returns
returns c = audited-shows-import
