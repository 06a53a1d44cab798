use Rattle.osm_write.proofs.OneNoLonger.{one_no_longer}
use Rattle.osm_write.proofs.laws.first_element_is_no_longer.Goals as goal

pub returns : goal.returns
returns c = one_no_longer
