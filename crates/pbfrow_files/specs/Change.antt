-- What a change makes of a file.
use Rattle.std.specs.Prelude.{◌≡◌, ℕ, ◌+◌, ◌-◌, ◌<◌, max, ◌&&◌, nat_lt, nat_le, if◌then◌else◌, List, length, slice_index}
use Rattle.sqlite_disk.specs.Events.{overlaid, padded}
use Rattle.pbfrow_files.specs.declared.overlay.Change.{Change}
use Rattle.pbfrow_files.specs.declared.overlay.Change.TheVariants.{Written, Resized}

-- the file after a change
abbrev pub changed : List ℕ → Change → List ℕ
changed file (Written at bytes) = overlaid file at bytes.items
changed file (Resized len) = padded file len

-- the length of a file of this length after a change
abbrev pub len_after : ℕ → Change → ℕ
len_after len (Written at bytes) = max len (at + length bytes.items)
len_after _ (Resized len) = len

-- the byte at this place after a change, where this one was there
abbrev pub byte_after : Change → ℕ → ℕ → ℕ
byte_after (Written at bytes) place byte = if nat_le at place && nat_lt place (at + length bytes.items) then slice_index bytes.items (place - at) else byte
byte_after (Resized len) place byte = if nat_lt place len then byte else 0

-- how much of the room for changes it takes
abbrev pub weight : Change → ℕ
weight (Written at bytes) = length bytes.items + 64
weight (Resized len) = 64

-- these bytes are in the file at this offset, where it has zeros past its end
abbrev pub AreInFile : List ℕ → ℕ → List ℕ → Type 0
AreInFile file at bytes = (i : ℕ) → i < length bytes → slice_index bytes i ≡ slice_index file (at + i)
