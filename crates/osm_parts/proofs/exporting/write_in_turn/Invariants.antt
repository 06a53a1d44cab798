use Rattle.std.proofs.Common.{◌≤◌, Bool, List, take}
use Rattle.osm_rows.specs.Held.{HeldMap}
use Rattle.osm_import.specs.Walks.{WritesInTurn}
use Rattle.osm_parts.specs.Parts.{entries_in}
use Rattle.osm_parts.specs.Reading.{AreEach}
use Rattle.osm_parts.proofs.exporting.write_in_turn.Given as goal

abbrev pub invariant-loop-part : goal.invariant-loop-part
invariant-loop-part g l =
    let O = g.O.Openings in
    let S = g.S.Sink in
    record {
      honest : O.is_honest l.openings → O.is_honest l.fn.openings;
      open_if : O.is_open l.openings → O.is_open l.fn.openings;
      kept : O.is_honest l.openings → (maps : List HeldMap) → O.holds l.fn.openings maps → O.holds l.openings maps;
      counted : O.failures l.fn.openings ≤ O.failures l.openings;
      wrote : (maps : List HeldMap) (asked : Bool) (ordered : List HeldMap) → O.holds l.fn.openings maps → O.is_honest l.openings → AreEach maps asked l.parts ordered
          → WritesInTurn g.W.BlobStep.writes (S.written l.fn.out) (entries_in (take l.part-index ordered)) (S.written l.out);
    }
