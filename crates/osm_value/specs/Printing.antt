-- What a call writes to a sink.
use Rattle.std.specs.Prelude.{◌≡◌, ℕ, List, ◌++◌, length, Option, option_to_list}
use Rattle.osm_value.specs.Line.{commas}
use Rattle.osm_value.specs.Sink.{Writes, Wrote}
use Rattle.osm_value.specs.declared.sink.Sink.{Ghosts}

-- The text follows whatever was written before; where the sink fails, a front of the text does.
abbrev pub Prints : {S : Type 0} → Ghosts S → S → S → List ℕ → Type 0
Prints sink old new text = Writes (sink.written old) (sink.has_failed old) (sink.written new) (sink.has_failed new) text

-- The piece, if there is one, follows so many that were written, each behind a comma but the first.
abbrev pub AddsPiece : {S : Type 0} → Ghosts S → S → S → ℕ → Option (List ℕ) → Type 0
AddsPiece sink old new at piece = (start : Option (List ℕ)) (before : List ℕ) (pieces : List (List ℕ)) → length pieces ≡ at
    → Wrote start (before ++ commas pieces) (sink.written old) (sink.has_failed old)
    → Wrote start (before ++ commas (pieces ++ option_to_list piece)) (sink.written new) (sink.has_failed new)
