use Rattle.std.proofs.Common.{List, ◌-◌}
use Rattle.pbfrow_reading.specs.Listing.{Plain, HasAny, listed_line}
use Rattle.pbfrow_reading.proofs.Walking.{Going}
use Rattle.pbfrow_reading.proofs.list.list_frames.Given as goal

abbrev pub invariant-loop-frames : goal.invariant-loop-frames
invariant-loop-frames g l = (frames : List Plain) × Going HasAny listed_line (g.R.Read.remaining l.fn.input) l.frames (g.W.Write.contents l.fn.out.writer) (g.W.Write.contents l.out.writer) l.out.has_failed frames

-- each frame ends at 2^62 at most
abbrev pub decreases-loop-frames : goal.decreases-loop-frames
decreases-loop-frames g l = 4611686018427387904 - l.frames.offset
