use Rattle.std.proofs.Common.{◌≡◌, ◌-◌, ◌+◌, ◌*◌, ◌++◌, Some, length}
use Rattle.std.specs.Io.KnownBytes.{prepend_known}
use Rattle.osm_reading.specs.Framings.{Moved, IsBegun, HasFull}
use Rattle.osm_reading.proofs.stream.reading.fill.Given as goal

abbrev pub invariant-loop-piece : goal.invariant-loop-piece
invariant-loop-piece g l = record {
  moved : Moved l.fn.framer l.framer (prepend_known l.fn.piece (g.R.Source.bytes_left l.fn.reader)) (prepend_known l.piece (g.R.Source.bytes_left l.reader));
  begun : IsBegun l.fn.framer → IsBegun l.framer;
  late : IsBegun l.fn.framer → HasFull l.fn.framer.offset (l.fn.framer.rest ++ l.fn.piece) → (l.reader ≡ l.fn.reader) × Moved l.fn.framer l.framer (Some l.fn.piece) (Some l.piece);
}

-- the framer's rest grows with each piece, up to its bound
abbrev pub decreases-loop-piece : goal.decreases-loop-piece
decreases-loop-piece g l = 2 * (33685507 - length l.framer.rest) + (1 - length l.piece)
