-- The line of an answered blob: `OFFSET stored COUNT`, `OFFSET held` or `fault NUMBER NAME at OFFSET`.
use Rattle.std.specs.Prelude.{ℕ, Bool, true, false, List, [], ◌++◌, codes, if◌then◌else◌}
use Rattle.std.specs.Fmt.{decimal}
use Rattle.osm_reading.specs.Faults.{number_of, name_of}
use Rattle.osm_import.specs.Faults.{conflict_number_of, conflict_name_of}
use Rattle.osm_import.specs.declared.answer.Answer.{Answer}
use Rattle.osm_import.specs.declared.answer.Answer.TheVariants.{Stored, AlreadyHeld, Bad, Refused, Fault}
use Rattle.osm_import.specs.declared.stream.teller.Told.{Told}
use Rattle.osm_import.specs.declared.stream.teller.Told.TheVariants.{All, Faults}
use Rattle.osm_reading.specs.Lines.{fault_line}

abbrev pub stored_line : ℕ → ℕ → List ℕ
stored_line off count = decimal off ++ codes " stored " ++ decimal count ++ codes "\n"

abbrev pub held_line : ℕ → List ℕ
held_line off = decimal off ++ codes " held\n"

-- none for a fault of the store
abbrev pub answer_line : ℕ → Answer → List ℕ
answer_line off (Stored count) = stored_line off count
answer_line off AlreadyHeld = held_line off
answer_line off (Bad fault) = fault_line (number_of fault) (name_of fault) off
answer_line off (Refused conflict) = fault_line (conflict_number_of conflict) (conflict_name_of conflict) off
answer_line off (Fault fault) = []

-- the line where answers like this one are told, and none where they aren't
abbrev pub told_line : (Answer → Bool) → ℕ → Answer → List ℕ
told_line tells off answer = if tells answer then answer_line off answer else []

-- All answers are told, or all but `Stored` and `AlreadyHeld`.
abbrev pub is_told : Told → Answer → Bool
is_told All answer = true
is_told Faults (Stored count) = false
is_told Faults AlreadyHeld = false
is_told Faults (Bad fault) = true
is_told Faults (Refused conflict) = true
is_told Faults (Fault fault) = true
