use Rattle.std.proofs.Common.{List, ◌-◌}
use Rattle.pbfrow_reading.specs.Listing.{Plain}
use Rattle.pbfrow_reading.proofs.RangesLemmas.{Passing}
use Rattle.pbfrow_reading.proofs.ranges.ends_of.Given as goal

abbrev pub invariant-each : goal.invariant-each
invariant-each g l = (frames : List Plain) × Passing (g.R.Read.remaining l.fn.input) l.frames frames l.ends.items

-- each frame ends at 2^62 at most
abbrev pub decreases-each : goal.decreases-each
decreases-each g l = 4611686018427387904 - l.frames.offset
