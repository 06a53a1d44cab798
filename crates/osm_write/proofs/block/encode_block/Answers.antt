use Rattle.std.proofs.Common.{arith}
use Rattle.osm_write.proofs.Bounds.{block_is_read_back}
use Rattle.osm_write.proofs.block.encode_block.Goals as goal

pub returns-clause-read_back : goal.returns-clause-read_back
returns-clause-read_back c = block_is_read_back c.args.elements.now c.in_ok-bytes.bytes.items c.in_ok-bytes.ensures.exact (omega arith) c.in_ok-bytes.ensures.in_range
