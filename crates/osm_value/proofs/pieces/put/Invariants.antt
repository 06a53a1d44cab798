use Rattle.std.proofs.Common.{length, ◌-◌, ℕ, List, ◌++◌, Option, take}
use Rattle.osm_value.specs.Sink.{Wrote}
use Rattle.osm_value.proofs.pieces.put.Given as goal

-- the piece is written up to the place
abbrev pub invariant-loop-at : goal.invariant-loop-at
invariant-loop-at g l = (start : Option (List ℕ)) (text : List ℕ) → Wrote start text (g.S.Sink.written l.fn.sink) (g.S.Sink.has_failed l.fn.sink)
    → Wrote start (text ++ take l.at l.piece) (g.S.Sink.written l.sink) (g.S.Sink.has_failed l.sink)

abbrev pub decreases-loop-at : goal.decreases-loop-at
decreases-loop-at g l = length l.piece - l.at
