use Rattle.osm_import.proofs.RepeatLemmas.{repeats-change-nothing}
use Rattle.osm_import.proofs.laws.a_repeated_delivery_changes_nothing.Goals as goal

pub returns : goal.returns
returns c = repeats-change-nothing
