-- Bytes of a file at an offset.
use Rattle.std.specs.Prelude.{◌≡◌, ℕ, ◌+◌, ◌<◌, Bool, true, false, List, ◌++◌, length, drop, Some, None}
use Rattle.osm_reading.specs.Framings.{Known}

-- the bytes stand in the file, from this offset on
abbrev pub StandsIn : List ℕ → ℕ → List ℕ → Type 0
StandsIn file off bytes = (behind : List ℕ) × (drop off file ≡ bytes ++ behind)

-- so they do where the file is known
abbrev pub IsIn : Known → ℕ → List ℕ → Type 0
IsIn None off bytes = Unit {0}
IsIn (Some file) off bytes = StandsIn file off bytes

-- the file, where it is known, ends before so many bytes behind this offset
abbrev pub EndsBefore : Known → ℕ → ℕ → Type 0
EndsBefore None off count = Unit {0}
EndsBefore (Some file) off count = length file < off + count

-- whether a buffer was filled from this offset on
abbrev pub Fills : Known → ℕ → Bool → List ℕ → Type 0
Fills known off true buffer = IsIn known off buffer
Fills known off false buffer = EndsBefore known off (length buffer)
