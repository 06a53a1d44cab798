use Rattle.std.proofs.Common.{take}
use Rattle.osm_parts.specs.Runs.{AreCut}
use Rattle.osm_parts.proofs.runs.cut_into_runs.Given as goal

abbrev pub invariant-loop-piece : goal.invariant-loop-piece
invariant-loop-piece l = AreCut l.parts.items (take l.piece-index l.pieces)
