-- What a line of the kernel's list of locks says: a number, the lock's kind, whether programs have to ask for it, its mode,
-- its process, its file, and its first and last byte. They stand between blanks.
use Rattle.std.specs.Prelude.{◌≡◌, ◌⊎◌, ℕ, ◌^◌, ◌+◌, ◌<◌, ◌≤◌, ◌==◌, List, codes}
use Rattle.std.specs.List.{before_first, after_first}
use Rattle.std.specs.Str.{trim_start}
use Rattle.std.specs.Str.Parse.{IsNumeral, digits_value, without_leading_plus}

-- what stands before the first blank, and what follows it
abbrev pub before_blank : List ℕ → List ℕ
before_blank text = before_first (λ b. b == 32) text

abbrev pub after_blank : List ℕ → List ℕ
after_blank text = after_first (λ b. b == 32) text

-- what stands before the first colon, and what follows it
abbrev pub before_colon : List ℕ → List ℕ
before_colon text = before_first (λ b. b == 58) text

abbrev pub after_colon : List ℕ → List ℕ
after_colon text = after_first (λ b. b == 58) text

-- the first word of a line, and what follows it
abbrev pub first_word : List ℕ → List ℕ
first_word line = before_blank (trim_start line)

abbrev pub after_word : List ℕ → List ℕ
after_word line = after_blank (trim_start line)

-- the word is this number's in this radix, where a plus may stand first
abbrev pub IsNumeralOf : ℕ → List ℕ → ℕ → Type 0
IsNumeralOf radix word n = IsNumeral radix (without_leading_plus word) × (digits_value radix (without_leading_plus word) ≡ n)

-- a lock of a program on some bytes, as SQLite takes
abbrev pub IsOnBytes : List ℕ → Type 0
IsOnBytes kind = (kind ≡ codes "POSIX") ⊎ (kind ≡ codes "OFDLCK")

-- the file is this one: the two numbers of its device, and its own
abbrev pub NamesFile : ℕ → ℕ → ℕ → List ℕ → Type 0
NamesFile major minor inode word =
    IsNumeralOf 16 (before_colon word) major × IsNumeralOf 16 (before_colon (after_colon word)) minor × IsNumeralOf 10 (after_colon (after_colon word)) inode

-- some of the 512 bytes from 2 ^ 30 on, which SQLite locks, are from the first to the last one. No number is the end of the file.
abbrev pub MeetsLocks : List ℕ → List ℕ → Type 0
MeetsLocks first last = ((n : ℕ) × IsNumeralOf 10 first n × (n < 2 ^ 30 + 512)) × ((n : ℕ) → IsNumeralOf 10 last n → 2 ^ 30 ≤ n)

-- a program holds a lock by which SQLite writes this file
abbrev pub LocksOut : ℕ → ℕ → ℕ → List ℕ → Type 0
LocksOut major minor inode line =
    let kind = after_word line in
    let mode = after_word (after_word kind) in
    let file = after_word (after_word mode) in
    let first = after_word file in
    IsOnBytes (first_word kind) × (first_word mode ≡ codes "WRITE") × NamesFile major minor inode (first_word file)
    × MeetsLocks (first_word first) (first_word (after_word first))
