use Rattle.std.proofs.Common.{take}
use Rattle.osm_parts.specs.Pieces.{AreOnce}
use Rattle.osm_parts.proofs.pieces.each_once.Given as goal

abbrev pub invariant-loop-piece : goal.invariant-loop-piece
invariant-loop-piece l = AreOnce (take l.piece-index l.pieces) l.kept.items
