use Rattle.std.proofs.Common.{◌≡◌, ℕ, ◌<◌, ◌≤◌, List, ◌++◌, Option, take, false, get_or}
use Rattle.osm_value.specs.Sink.{Wrote}
use Rattle.osm_value.specs.Escape.{is_escaped, escaped}
use Rattle.osm_value.proofs.pieces.put_escaped.Given as goal

-- written up to `plain`, and from there on the bytes stand as they are
abbrev pub invariant-loop-at : goal.invariant-loop-at
invariant-loop-at g l = record {
  in_order : l.plain ≤ l.at;
  plain : (k : ℕ) → l.plain ≤ k → k < l.at → is_escaped (get_or l.bytes k 0) ≡ false;
  wrote : (start : Option (List ℕ)) (before : List ℕ) → Wrote start before (g.S.Sink.written l.fn.sink) (g.S.Sink.has_failed l.fn.sink)
      → Wrote start (before ++ escaped (take l.plain l.bytes)) (g.S.Sink.written l.sink) (g.S.Sink.has_failed l.sink);
}
