use Rattle.std.proofs.Common.{◌≡◌, List, ◌-◌}
use Rattle.pbfrow_reading.specs.Checking.{checked_line, counts_of}
use Rattle.pbfrow_reading.specs.Verdicts.{Judged, HasVerdict}
use Rattle.pbfrow_reading.proofs.Walking.{Going}
use Rattle.pbfrow_reading.proofs.check.count_blobs.Given as goal

abbrev pub invariant-loop-frames : goal.invariant-loop-frames
invariant-loop-frames g l = (blobs : List Judged) × Going HasVerdict checked_line (g.R.Read.remaining l.fn.input) l.frames (g.W.Write.contents l.fn.out.writer) (g.W.Write.contents l.out.writer) l.out.has_failed blobs
    × (l.counts ≡ counts_of blobs 0)

-- each frame ends at 2^62 at most
abbrev pub decreases-loop-frames : goal.decreases-loop-frames
decreases-loop-frames g l = 4611686018427387904 - l.frames.offset
