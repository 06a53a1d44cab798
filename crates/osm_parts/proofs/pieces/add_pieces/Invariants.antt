use Rattle.std.proofs.Common.{◌≡◌, ◌++◌, take}
use Rattle.osm_parts.specs.Pieces.{pieces_of}
use Rattle.osm_parts.proofs.pieces.add_pieces.Given as goal

abbrev pub invariant-loop-extent : goal.invariant-loop-extent
invariant-loop-extent l = l.pieces.items ≡ l.fn.pieces.items ++ pieces_of l.place l.history (take l.extent-index l.extents)
