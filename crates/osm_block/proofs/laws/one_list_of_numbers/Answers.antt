use Rattle.osm_block.proofs.DifferencesLemmas.{Diff-unique}
use Rattle.osm_block.proofs.laws.one_list_of_numbers.Goals as goal

pub returns : goal.returns
returns c = Diff-unique
