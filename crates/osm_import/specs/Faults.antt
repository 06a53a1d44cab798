-- The numbers and names of a delivery's conflicts with what is held.
use Rattle.std.specs.Prelude.{ℕ, List, codes}
use Rattle.osm_import.specs.declared.answer.Conflict.{Conflict}
use Rattle.osm_import.specs.declared.answer.Conflict.TheVariants.{Differs, Overlap}

-- the number of a conflict
abbrev pub conflict_number_of : Conflict → ℕ
conflict_number_of Differs = 63
conflict_number_of Overlap = 64

-- its name
abbrev pub conflict_name_of : Conflict → List ℕ
conflict_name_of Differs = codes "Differs"
conflict_name_of Overlap = codes "Overlap"
