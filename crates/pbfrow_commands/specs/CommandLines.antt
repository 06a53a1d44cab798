-- The lines of commands, beside those of the importer and of commands that only read a file.
use Rattle.std.specs.Prelude.{ℕ, List, ◌++◌, codes}
use Rattle.std.specs.List.{flat_map}
use Rattle.std.specs.Fmt.{decimal}
use Rattle.osm_value.specs.Line.{line}
use Rattle.osm_rows.specs.Faults.{number_of, name_of}
use Rattle.osm_rows.specs.declared.fault.StoreFault.{StoreFault}
use Rattle.osm_rows.specs.Rows.{Placed}
use Rattle.osm_reading.specs.Lines.{plain_fault_line, fault_line}
use Rattle.osm_import.specs.ImportFaults.{import_number_of, import_name_of}
use Rattle.osm_import.specs.declared.stream.fault.ImportFault.{ImportFault}
use Rattle.osm_import.specs.declared.stream.summary.Summary.{Summary}

-- a fault of a whole store
abbrev pub store_fault_line : StoreFault → List ℕ
store_fault_line fault = plain_fault_line (number_of fault) (name_of fault)

-- a fault that the store answered at an offset
abbrev pub broken_line : StoreFault → ℕ → List ℕ
broken_line fault at = fault_line (number_of fault) (name_of fault) at

-- what stopped an import, at an offset
abbrev pub import_stop_line : ImportFault → ℕ → List ℕ
import_stop_line fault at = fault_line (import_number_of fault) (import_name_of fault) at

-- the last line of an import
abbrev pub summary_line : Summary → List ℕ
summary_line s = codes "blobs stored " ++ decimal s.stored ++ codes " held " ++ decimal s.held ++ codes " bad " ++ decimal s.bad ++ codes " refused " ++ decimal s.refused ++ codes "\n"

abbrev pub gap_line : ℕ × ℕ → List ℕ
gap_line gap = codes "gap " ++ decimal gap.0 ++ codes " " ++ decimal gap.1 ++ codes "\n"

abbrev pub gap_lines : List (ℕ × ℕ) → List ℕ
gap_lines gaps = flat_map gap_line gaps

-- the last line of a status: how many blobs are held, the greatest end of one, and how many gaps there are
abbrev pub counts_line : ℕ → ℕ → ℕ → List ℕ
counts_line blobs end gaps = codes "blobs " ++ decimal blobs ++ codes " end " ++ decimal end ++ codes " gaps " ++ decimal gaps ++ codes "\n"

-- a held element: the offset of its blob, its position there, and its line
abbrev pub match_line : Placed → List ℕ
match_line p = decimal p.0 ++ codes " " ++ decimal p.1 ++ codes " " ++ line p.2

abbrev pub match_lines : List Placed → List ℕ
match_lines matches = flat_map match_line matches
