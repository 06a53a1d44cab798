-- The texts that name an element: its letter, then `-` or nothing, then decimal digits.
use Rattle.std.specs.Prelude.{◌≡◌, ℕ, ℤ, ◌+◌, ◌-◌, ◌*◌, ◌≤◌, ◌==◌, ◌⊎◌, List, [], ◌∷◌, Option, Some, None, Bool, ◌&&◌, if◌then◌else◌, nat_le, pos, neg_ℤ, option_map, option_and_then, length}
use Rattle.std.specs.Str.Parse.{IsNumeral, digits_value}
use Rattle.osm_value.specs.Line.{letter_of}
use Rattle.osm_value.specs.declared.element.MemberKind.{MemberKind}
use Rattle.osm_value.specs.declared.element.MemberKind.TheVariants.{Node, Way, Relation}

-- The text is the kind's letter, then `-` or nothing, then one or more decimal digits, which write an id from -(2^62 - 1) to 2^62 - 1.
pub record Names (kind : MemberKind) (id : ℤ) (text : List ℕ) : Type 0 where
  pub digits : List ℕ
  pub are_digits : IsNumeral 10 digits
  pub small : digits_value 10 digits ≤ 4611686018427387903
  pub written : ((text ≡ letter_of kind ∷ digits) × (id ≡ pos (digits_value 10 digits)))
      ⊎ ((text ≡ letter_of kind ∷ 45 ∷ digits) × (id ≡ neg_ℤ (pos (digits_value 10 digits))))

-- ---- The plain reading of the same.

abbrev pub kind_at : ℕ → Option MemberKind
kind_at letter = if letter == 110 then Some Node else (if letter == 119 then Some Way else (if letter == 114 then Some Relation else None))

abbrev pub is_digit : ℕ → Bool
is_digit c = nat_le 48 c && nat_le c 57

-- n and the digits behind it, as a number of at most 2^62 - 1
abbrev pub magnitude_from : ℕ → List ℕ → Option ℕ
magnitude_from n [] = Some n
magnitude_from n (c ∷ cs) =
    if is_digit c && nat_le (n * 10 + (c - 48)) 4611686018427387903 then magnitude_from (n * 10 + (c - 48)) cs else None

abbrev pub magnitude_at : List ℕ → Option ℕ
magnitude_at digits = if length digits == 0 then None else magnitude_from 0 digits

-- 45 is '-'
abbrev pub id_at : List ℕ → Option ℤ
id_at [] = None
id_at (c ∷ cs) = if c == 45 then option_map (λ n. neg_ℤ (pos n)) (magnitude_at cs) else option_map pos (magnitude_at (c ∷ cs))

-- The plain reading of ELEMENT: a letter for the kind, and then the id.
abbrev pub element_at : List ℕ → Option (MemberKind × ℤ)
element_at [] = None
element_at (letter ∷ number) = option_and_then (λ kind. option_map (λ id. (kind, id)) (id_at number)) (kind_at letter)
