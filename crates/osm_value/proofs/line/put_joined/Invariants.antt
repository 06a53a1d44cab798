use Rattle.std.proofs.Common.{ℕ, List, ◌++◌, Option, take, map}
use Rattle.osm_value.specs.Sink.{Wrote, WritesEach}
use Rattle.osm_value.specs.Line.{commas}
use Rattle.osm_value.proofs.line.put_joined.Given as goal

-- written up to the place
abbrev pub invariant-loop-at : goal.invariant-loop-at
invariant-loop-at g l = (text : g.row.T.Denot → List ℕ) → WritesEach g.S.Sink.written g.S.Sink.has_failed g.F.Fn l.put_item text
    → (start : Option (List ℕ)) (before : List ℕ) → Wrote start before (g.S.Sink.written l.fn.sink) (g.S.Sink.has_failed l.fn.sink)
    → Wrote start (before ++ commas (map text (take l.at l.items))) (g.S.Sink.written l.sink) (g.S.Sink.has_failed l.sink)
