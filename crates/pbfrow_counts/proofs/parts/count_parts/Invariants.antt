use Rattle.std.proofs.Common.{◌≤◌, Bool, List, take}
use Rattle.osm_rows.specs.Held.{HeldMap}
use Rattle.osm_parts.specs.Parts.{entries_in}
use Rattle.osm_parts.specs.Reading.{AreEach}
use Rattle.pbfrow_counts.specs.Counting.{CountsMore, elements_of}
use Rattle.pbfrow_counts.proofs.parts.count_parts.Given as goal

abbrev pub invariant-loop-part : goal.invariant-loop-part
invariant-loop-part g l =
    let O = g.O.Openings in
    record {
      honest : O.is_honest l.openings → O.is_honest l.fn.openings;
      open_if : O.is_open l.openings → O.is_open l.fn.openings;
      kept : O.is_honest l.openings → (maps : List HeldMap) → O.holds l.fn.openings maps → O.holds l.openings maps;
      counted : O.failures l.fn.openings ≤ O.failures l.openings;
      held : (maps : List HeldMap) (asked : Bool) (ordered : List HeldMap) → O.holds l.fn.openings maps → O.is_honest l.openings → AreEach maps asked l.parts ordered
          → CountsMore l.fn.counts (elements_of (entries_in (take l.part-index ordered))) l.counts;
    }
