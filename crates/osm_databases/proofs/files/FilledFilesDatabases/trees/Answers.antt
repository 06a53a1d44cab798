use Rattle.osm_databases.specs.declared.reason.Refusal.{Refusal}
use Rattle.osm_databases.proofs.Told.{told_ok}
use Rattle.osm_databases.proofs.files.FilledFilesDatabases.trees.Goals as goal

pub returns-clause-given : goal.returns-clause-given
returns-clause-given c = told_ok (λ (refusal : Refusal). refusal.fault) _ c.trees_to_write.result c.tell_refusal.result c.tell_refusal.ensures c.trees_to_write.ensures.opened

pub returns-clause-version : goal.returns-clause-version
returns-clause-version c = told_ok (λ (refusal : Refusal). refusal.fault) _ c.trees_to_write.result c.tell_refusal.result c.tell_refusal.ensures c.trees_to_write.ensures.version
