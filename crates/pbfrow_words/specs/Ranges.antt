-- The command that cuts a file into ranges, as clap's model of a command has it.
use Rattle.std.specs.Prelude.{ℕ, ◌<◌, ◌≤◌, Option, Some, codes}
use Rattle.clap.specs.Words.{App, Rule, Text, new_app, with_rule, with_subcommand}
use Rattle.clap.specs.declared.builder.value_parser.ValueParser.TheVariants.{Unsigned}
use Rattle.pbfrow_words.specs.Arguments.{IsNumber, required_argument}

-- how many ranges: a number from 1 to 4,294,967,295
abbrev pub count_argument : Rule
count_argument = record (required_argument (codes "N")) { parser = Some (Unsigned 1 4294967295) }

abbrev pub ranges_command : App
ranges_command = with_rule (with_rule (new_app (codes "ranges")) (required_argument (codes "FILE"))) count_argument

abbrev pub with_ranges : App → App
with_ranges program = with_subcommand program ranges_command.top

-- a number of ranges
abbrev pub IsCount : ℕ → Option Text → Type 0
IsCount count given = IsNumber (Some count) given × (0 < count) × (count ≤ 4294967295)
