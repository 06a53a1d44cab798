-- How much of its input an import reads.
use Rattle.std.specs.Prelude.{ℕ, ◌+◌, ◌-◌, ◌^◌, Option, Some, None}

-- how many bytes are read at most of an input of which so many are dropped, and whose next byte stands at an offset: up to
-- the offset at which it has to end, if there is one
abbrev pub most_bytes : ℕ → ℕ → Option ℕ → ℕ
most_bytes dropped at None = 2 ^ 64 - 1
most_bytes dropped at (Some to) = dropped + (to - at)
