use Rattle.osm_verify.proofs.LawLemmas.{verified-is-exact, exact-is-one}
use Rattle.osm_verify.proofs.laws.a_verified_store_is_an_import.Goals as goal

pub returns-clause-exact : goal.returns-clause-exact
returns-clause-exact c = verified-is-exact

pub returns-clause-one : goal.returns-clause-one
returns-clause-one c = exact-is-one
