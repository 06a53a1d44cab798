use Rattle.std.proofs.Common.{◌∷◌, []}
use Rattle.osm_write.proofs.Bounds.{answer_is_read_back}
use Rattle.osm_write.proofs.block.encode_one.Goals as goal

pub returns-clause-read_back : goal.returns-clause-read_back
returns-clause-read_back c =
    answer_is_read_back (c.args.element.now ∷ []) c.from_ref.result.now c.bytes_of.result c.from_ref.ensures.value c.bytes_of.ensures.exact c.bytes_of.ensures.in_range
