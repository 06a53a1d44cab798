-- Packed arrays of numbers. Protocol Buffers, Encoding, "Packed Repeated Fields".
use Rattle.std.specs.Prelude.{◌≡◌, ℕ, ◌<◌, List, [], ◌∷◌, ◌++◌, length, take, drop}
use Rattle.pbf_wire.specs.declared.fault.WireFault.{WireFault}
use Rattle.pbf_wire.specs.Number.{Num, NumberFault}

-- w is the joining of one spelling for each number.
abbrev pub Row : List ℕ → List ℕ → Type 0
Row [] w = w ≡ []
Row (n ∷ ns) w = (first rest : List ℕ) × Num n first × Row ns rest × (w ≡ first ++ rest)

-- w is no packed array: its first bytes are one, and no number begins the rest.
abbrev pub RowFault : WireFault → List ℕ → Type 0
RowFault fault w = (ns : List ℕ) × (fault.at < length w) × Row ns (take fault.at w) × NumberFault fault.kind (drop fault.at w)
