-- The line of a fault.
use Rattle.std.specs.Prelude.{ℕ, List, ◌++◌, codes}
use Rattle.std.specs.Fmt.{decimal}

abbrev pub fault_text : ℕ → List ℕ → List ℕ
fault_text number name = codes "fault " ++ decimal number ++ codes " " ++ name

-- a fault of the whole store
abbrev pub plain_fault_line : ℕ → List ℕ → List ℕ
plain_fault_line number name = fault_text number name ++ codes "\n"

-- a fault at an offset of a file
abbrev pub fault_line : ℕ → List ℕ → ℕ → List ℕ
fault_line number name off = fault_text number name ++ codes " at " ++ decimal off ++ codes "\n"
