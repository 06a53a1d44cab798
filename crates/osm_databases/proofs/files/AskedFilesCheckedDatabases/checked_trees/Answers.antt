use Rattle.osm_databases.specs.declared.reason.Refusal.{Refusal}
use Rattle.osm_databases.proofs.Told.{told_ok}
use Rattle.osm_databases.proofs.files.AskedFilesCheckedDatabases.checked_trees.Goals as goal

pub returns-clause-given : goal.returns-clause-given
returns-clause-given c = told_ok (λ (refusal : Refusal). refusal.fault) _ c.checked_trees_to_read.result c.tell_refusal.result c.tell_refusal.ensures c.checked_trees_to_read.ensures.opened

pub returns-clause-version : goal.returns-clause-version
returns-clause-version c = told_ok (λ (refusal : Refusal). refusal.fault) _ c.checked_trees_to_read.result c.tell_refusal.result c.tell_refusal.ensures c.checked_trees_to_read.ensures.version
