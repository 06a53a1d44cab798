use Rattle.std.proofs.Common.{◌∙◌}
use Rattle.pbf_wire.specs.Message.{fields_in}
use Rattle.osm_block.proofs.ReadingLemmas.{err-of_gives}
use Rattle.osm_block.proofs.payloads.wire_of.Goals as goal

pub returns : goal.returns
returns c = c.err.ensures.value ∙ err-of_gives fields_in c.new.result c.args.payload.now c.new.ensures.exact
