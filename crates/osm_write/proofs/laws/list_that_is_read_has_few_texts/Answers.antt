use Rattle.osm_write.proofs.TextsFew.{few_texts_read}
use Rattle.osm_write.proofs.laws.list_that_is_read_has_few_texts.Goals as goal

pub returns : goal.returns
returns c = few_texts_read
