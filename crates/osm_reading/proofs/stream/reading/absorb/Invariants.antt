use Rattle.std.proofs.Common.{length, Some}
use Rattle.osm_reading.specs.Framings.{Moved, IsBegun}
use Rattle.osm_reading.proofs.stream.reading.absorb.Given as goal

abbrev pub invariant-loop-count : goal.invariant-loop-count
invariant-loop-count l = record {
  moved : Moved l.fn.framer l.framer (Some l.fn.piece) (Some l.piece);
  begun : IsBegun l.fn.framer → IsBegun l.framer;
}

abbrev pub decreases-loop-count : goal.decreases-loop-count
decreases-loop-count l = length l.piece
