-- What is read from a payload: its field list, its packed arrays, and the values of its fields.
-- Protocol Buffers, Encoding, "Message Structure", "Packed Repeated Fields", "Last One Wins" and "More Integer Types".
-- All of these are functions: of a payload that is no field list they give what stands in front of its first fault.
use Rattle.std.specs.Prelude.{ℕ, zero, suc, ◌+◌, ◌-◌, ◌/◌, ◌%◌, ◌^◌, ◌==◌, List, [], ◌∷◌, length, drop, Option, Some, None, Result, Ok, Err, ℤ, pos, negsuc, Bool, true, false, cond}
use Rattle.std.specs.List.{flat_map, filter_map}
use Rattle.std.specs.Int.{w32, w64, cast_signed}
use Rattle.pbf_wire.specs.declared.fault.WireFault.{WireFault}
use Rattle.pbf_wire.specs.Fault.{placed}
use Rattle.pbf_wire.specs.Number.{number_at}
use Rattle.pbf_wire.specs.Field.{Content, Number, Bytes, Entry}
use Rattle.pbf_wire.specs.FieldList.{items_from, last_or}

-- what stands in front of the first fault
abbrev pub front : {A : Type 0} → List (Result A WireFault) → List A
front [] = []
front (Ok x ∷ rest) = x ∷ front rest
front (Err fault ∷ rest) = []

-- the first fault
abbrev pub first_fault : {A : Type 0} → List (Result A WireFault) → Option WireFault
first_fault [] = None
first_fault (Ok x ∷ rest) = first_fault rest
first_fault (Err fault ∷ rest) = Some fault

-- the fields of a message
abbrev pub fields : List ℕ → List Entry
fields w = front (items_from 0 w)

-- why the message is no field list, if it isn't
abbrev pub wire : List ℕ → Option WireFault
wire w = first_fault (items_from 0 w)

-- a number or its fault, in front of what comes behind it
abbrev pub number_and : Result (ℕ × ℕ) WireFault → (ℕ → List (Result ℕ WireFault)) → List (Result ℕ WireFault)
number_and (Ok n) behind = Ok n.0 ∷ behind n.1
number_and (Err fault) behind = Err fault ∷ []

-- the numbers of a packed payload from an offset on, at most `left`, and last the first fault; each takes one byte or more
unfoldable pub row_within : ℕ → ℕ → List ℕ → List (Result ℕ WireFault)
row_within left at [] = []
row_within zero at (b ∷ bs) = []
row_within (suc left) at (b ∷ bs) = number_and (placed at (number_at (b ∷ bs))) (λ len. row_within left (at + len) (drop (len - 1) bs))

abbrev pub row : List ℕ → List (Result ℕ WireFault)
row w = row_within (length w) 0 w

-- the numbers of a packed payload
abbrev pub numbers : List ℕ → List ℕ
numbers w = front (row w)

-- why the payload is no packed array, if it isn't
abbrev pub packed : List ℕ → Option WireFault
packed w = first_fault (row w)

-- ---- scalar types

abbrev pub int64 : ℕ → ℤ
int64 n = cast_signed w64 n

-- a number as int32: the low 32 bits, in two's complement
abbrev pub int32 : ℕ → ℤ
int32 n = cast_signed w32 (n % 2 ^ 32)

abbrev pub uint32 : ℕ → ℤ
uint32 n = pos (n % 2 ^ 32)

-- a number as sint64: 0, -1, 1, -2, 2 and so on for 0, 1, 2, 3, 4
abbrev pub sint64 : ℕ → ℤ
sint64 n = cond (n % 2 == 0) (pos (n / 2)) (negsuc (n / 2))

abbrev pub sint32 : ℕ → ℤ
sint32 n = sint64 (n % 2 ^ 32)

-- ---- reading a field list

abbrev pub number_of : Content → Option ℕ
number_of (Number n) = Some n
number_of _ = None

abbrev pub bytes_of : Content → Option (List ℕ)
bytes_of (Bytes bs) = Some bs
bytes_of _ = None

-- one number, or a packed array of them
abbrev pub numbers_of : Content → Option (List ℕ)
numbers_of (Number n) = Some (n ∷ [])
numbers_of (Bytes bs) = Some (numbers bs)
numbers_of _ = None

-- what the fields of that number are read as, in order; other fields count for nothing
abbrev pub fitting : {A : Type 0} → (Content → Option A) → ℕ → List Entry → List A
fitting read k fs = filter_map (λ f. cond (f.number == k) (read f.content) None) fs

-- the last occurrence of a scalar counts
abbrev pub last : List Entry → ℕ → Option ℕ
last fs k = last_or None (fitting number_of k fs)

-- all payloads of a field, in order
abbrev pub each : List Entry → ℕ → List (List ℕ)
each fs k = fitting bytes_of k fs

-- the last occurrence of a text or a payload counts
abbrev pub last_bytes : List Entry → ℕ → Option (List ℕ)
last_bytes fs k = last_or None (each fs k)

-- an array of numbers: unpacked, packed or in several pieces, joined in order
abbrev pub nums : List Entry → ℕ → List ℕ
nums fs k = flat_map (λ ns. ns) (fitting numbers_of k fs)

-- all payloads of one message are one field list, each by itself first
abbrev pub sub : List Entry → ℕ → List Entry
sub fs k = flat_map fields (each fs k)

-- whether a list has an item
abbrev pub is_there : {A : Type 0} → List A → Bool
is_there [] = false
is_there (x ∷ xs) = true
