use Rattle.std.proofs.Common.{Bool, List}
use Rattle.osm_rows.specs.Held.{HeldMap}
use Rattle.osm_parts.specs.Pieces.{AreGathered}
use Rattle.osm_parts.specs.Reading.{AreStores}
use Rattle.osm_parts.proofs.reading.pieces_of_stores.Given as goal

abbrev pub invariant-loop-own : goal.invariant-loop-own
invariant-loop-own l = (maps : List HeldMap) (asked : Bool) → AreStores asked 0 maps l.stores → AreGathered maps asked l.own-index l.pieces.items
