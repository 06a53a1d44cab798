use Rattle.osm_write.proofs.Bounds.{few_texts}
use Rattle.osm_write.proofs.laws.block_that_fits_has_few_texts.Goals as goal

pub returns : goal.returns
returns c = few_texts
