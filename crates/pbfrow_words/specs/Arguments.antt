-- Arguments that several commands have, as clap's model of a command has them, and what is read of their matches.
use Rattle.std.specs.Prelude.{ℕ, ◌≡◌, ◌≤◌, Option, Some, None, Bool, true, false, codes, option_map}
use Rattle.std.specs.Borrow.{Bor}
use Rattle.std.specs.Str.Parse.{IsNumeral, digits_value, without_leading_plus}
use Rattle.clap.specs.Lexer.{usize_max}
use Rattle.clap.specs.Words.{Rule, Text, new_rule}
use Rattle.clap.specs.declared.builder.action.ArgAction.TheVariants.{SetTrue}
use Rattle.clap.specs.declared.builder.value_parser.ValueParser.TheVariants.{Unsigned}

abbrev pub optional_argument : Text → Rule
optional_argument id = new_rule id

abbrev pub required_argument : Text → Rule
required_argument id = record (new_rule id) { required = true }

-- one text or more
abbrev pub required_arguments : Text → Rule
required_arguments id = record (required_argument id) { range = Some (record { start_inclusive = 1; end_inclusive = usize_max }) }

-- an option with a number from 0 to 2^62
abbrev pub offset_option : Text → Rule
offset_option id = record (new_rule id) {
  long = Some id;
  value_names = 1;
  parser = Some (Unsigned 0 4611686018427387904);
}

-- an option without a value
abbrev pub flag : Text → Rule
flag id = record (new_rule id) { long = Some id; action = Some SetTrue }

abbrev pub text_of : Option (Bor Text) → Option Text
text_of = option_map (λ s. s.now)

-- a number from 0 to 2^62, in decimal digits
abbrev pub IsNumberText : ℕ → Text → Type 0
IsNumberText n text = IsNumeral 10 (without_leading_plus text)
    × (n ≡ digits_value 10 (without_leading_plus text)) × (n ≤ 4611686018427387904)

abbrev pub IsNumber : Option ℕ → Option Text → Type 0
IsNumber None given = given ≡ None
IsNumber (Some n) given = (text : Text) × (given ≡ Some text) × IsNumberText n text

-- a flag is "true" where it was used and "false" where it wasn't
abbrev pub IsFlag : Bool → Option Text → Type 0
IsFlag flag given = (given ≡ Some (codes "true") → flag ≡ true)
    × (given ≡ Some (codes "false") → flag ≡ false) × (given ≡ None → flag ≡ false)
