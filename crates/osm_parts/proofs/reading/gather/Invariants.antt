use Rattle.std.proofs.Common.{◌≡◌, ◌≤◌, List, length}
use Rattle.osm_rows.specs.Held.{HeldMap}
use Rattle.osm_parts.specs.Pieces.{AreGathered}
use Rattle.osm_parts.proofs.reading.gather.Given as goal

abbrev pub invariant-loop-place : goal.invariant-loop-place
invariant-loop-place g l =
    let O = g.O.Openings in
    record {
      honest : O.is_honest l.openings → O.is_honest l.fn.openings;
      open_if : O.is_open l.openings → O.is_open l.fn.openings;
      kept : O.is_honest l.openings → (maps : List HeldMap) → O.holds l.fn.openings maps → O.holds l.openings maps;
      counted : O.failures l.fn.openings ≤ O.failures l.openings;
      read : (maps : List HeldMap) → O.holds l.fn.openings maps → O.is_honest l.openings → length maps ≡ l.fn.count → AreGathered maps l.fn.asks_history l.place l.pieces.items;
    }
