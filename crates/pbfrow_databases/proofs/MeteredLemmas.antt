-- Copies out of a store that another one wraps, as copies out of the store inside.
use Rattle.std.proofs.Common.{List, [], ◌∷◌, Result, ap}
use Rattle.osm_rows.specs.declared.keeper.BlobReader.{Ghosts}
use Rattle.osm_import.specs.Copies.{BlobCopied}
use Rattle.osm_import.specs.Stores.{CopiesEach, CopiesInTurn, CopiesOne, Stays}
use Rattle.osm_import.specs.declared.copy.CopyCounts.{CopyCounts}
use Rattle.osm_import.specs.declared.copy.CopyStop.{CopyStop}

inner-each : {A B T : Type 0} (wrapped : Ghosts B) (from : Ghosts A) (to : Ghosts T) (inner : B → A)
    → ((first last : B) (old new : T) (copy : BlobCopied) → CopiesOne wrapped to first last old new copy → CopiesOne from to (inner first) (inner last) old new copy)
    → (first last : B) (old new : T) (copies : List BlobCopied) → CopiesEach wrapped to first last old new copies → CopiesEach from to (inner first) (inner last) old new copies
inner-each wrapped from to inner one first last old new [] each = (ap inner each.0, each.1)
inner-each wrapped from to inner one first last old new (copy ∷ copies) each =
    (inner each.0, each.1, one first each.0 old each.1 copy each.2, inner-each wrapped from to inner one each.0 last each.1 new copies each.3)

pub inner-in_turn : {A B T : Type 0} {wrapped : Ghosts B} {to : Ghosts T} {first last : B} {old new : T} {result : Result CopyCounts CopyStop} → CopiesInTurn wrapped to first last old new result
    → (from : Ghosts A) (inner : B → A)
    → ((first last : B) → Stays wrapped first last → Stays from (inner first) (inner last))
    → ((first last : B) (old new : T) (copy : BlobCopied) → CopiesOne wrapped to first last old new copy → CopiesOne from to (inner first) (inner last) old new copy)
    → CopiesInTurn from to (inner first) (inner last) old new result
inner-in_turn {wrapped = wrapped} {to = to} {first = first} {last = last} {old = old} {new = new} turn from inner stays one = record {
  listed = inner turn.listed;
  lists = stays first turn.listed turn.lists;
  copies = turn.copies;
  each = inner-each wrapped from to inner one turn.listed last old new turn.copies turn.each;
  come = turn.come;
}
