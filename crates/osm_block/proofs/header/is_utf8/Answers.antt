use Rattle.osm_block.proofs.HeaderLemmas.{utf8_test}
use Rattle.osm_block.proofs.header.is_utf8.Goals as goal

pub returns : goal.returns
returns c = utf8_test _ c.args.bytes.now c.is_utf8.ensures
