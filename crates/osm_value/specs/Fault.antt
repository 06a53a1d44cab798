-- The number and the name of a line's fault.
use Rattle.std.specs.Prelude.{ℕ, List, codes}
use Rattle.osm_value.specs.declared.fault.LineFault.{LineFault}
use Rattle.osm_value.specs.declared.fault.LineFault.TheVariants.{WriteFailed}

-- 24: the sink failed
abbrev pub number_of : LineFault → ℕ
number_of WriteFailed = 24

-- its name
abbrev pub name_of : LineFault → List ℕ
name_of WriteFailed = codes "WriteFailed"
