-- A text in a line.
use Rattle.std.specs.Prelude.{ℕ, ◌+◌, ◌/◌, ◌%◌, List, [], ◌∷◌, Bool, ◌||◌, nat_lt, ◌==◌, if◌then◌else◌, codes, flat_map}
use Rattle.std.specs.List.{list_any}
use Rattle.osm_value.specs.Value.{Text}

-- a hexadecimal digit, in upper case
abbrev pub hex_digit : ℕ → ℕ
hex_digit n = if nat_lt n 10 then n + 48 else n + 55

-- control bytes, the space, and what separates
abbrev pub is_escaped : ℕ → Bool
is_escaped b = nat_lt b 33 || b == 127 || list_any (λ c. b == c) (codes "%=,@[]{}()")

abbrev pub escape : ℕ → List ℕ
escape b = if is_escaped b then 37 ∷ hex_digit (b / 16) ∷ hex_digit (b % 16) ∷ [] else b ∷ []

-- a text as it stands in a line: bytes below 33, 127 and `% = , @ [ ] { } ( )` are `%` and two hexadecimal digits
abbrev pub escaped : Text → List ℕ
escaped t = flat_map escape t
