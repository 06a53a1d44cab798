-- A frame around a blob. OpenStreetMap Wiki, "PBF Format", "File format".
use Rattle.std.specs.Prelude.{ℕ, List, ◌++◌, length}
use Rattle.std.specs.Int.{w32, to_be_bytes}
use Rattle.pbf_frame.specs.Write.{header_bytes}

-- the length of the header, the header and the blob
abbrev pub framed : List ℕ → List ℕ → List ℕ
framed type_name blob = to_be_bytes w32 (length (header_bytes type_name (length blob))) ++ header_bytes type_name (length blob) ++ blob
