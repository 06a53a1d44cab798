-- The commands that fill a database, as clap's model of a command has them.
use Rattle.std.specs.Prelude.{◌≡◌, ◌<◌, ℕ, Option, Some, None, false, codes}
use Rattle.clap.specs.Words.{App, Rule, Text, new_app, with_rule, with_subcommand}
use Rattle.pbfrow_words.specs.Arguments.{IsNumber, flag, offset_option, required_argument, required_arguments}
use Rattle.pbfrow_words.specs.declared.filling.Start.{Start}
use Rattle.pbfrow_words.specs.declared.filling.Start.TheVariants.{Skip, At}

-- an option that isn't free of others: it can't be used with `from`
abbrev pub at_option : Rule
at_option = record (offset_option (codes "at")) { is_free = false }

abbrev pub import_command : App
import_command = with_rule (with_rule (with_rule (with_rule (with_rule (with_rule (new_app (codes "import"))
    (required_argument (codes "FILE"))) (required_argument (codes "DB"))) (offset_option (codes "from"))) at_option) (offset_option (codes "to"))) (flag (codes "quiet"))

abbrev pub migrate_command : App
migrate_command = with_rule (with_rule (new_app (codes "migrate"))
    (required_argument (codes "OLD"))) (required_argument (codes "NEW"))

abbrev pub merge_command : App
merge_command = with_rule (with_rule (new_app (codes "merge"))
    (required_argument (codes "INTO"))) (required_arguments (codes "FROM"))

abbrev pub with_filling_commands : App → App
with_filling_commands program = with_subcommand (with_subcommand (with_subcommand program import_command.top) migrate_command.top) merge_command.top

-- how many bytes before the import's start are read and dropped
abbrev pub drops : Start → ℕ
drops (Skip n) = n
drops (At n) = 0

-- so many bytes are dropped: none where nothing was given
abbrev pub IsSkipped : ℕ → Option Text → Type 0
IsSkipped n None = n ≡ 0
IsSkipped n (Some text) = IsNumber (Some n) (Some text)

-- the offset in the file at which an import begins
abbrev pub begins_at : Start → ℕ
begins_at (Skip n) = n
begins_at (At n) = n

-- Where an import begins by what was given with `from` and with `at`, of which at most one was.
abbrev pub IsStart : Start → Option Text → Option Text → Type 0
IsStart (Skip n) from at = (at ≡ None) × IsSkipped n from
IsStart (At n) from at = (from ≡ None) × IsNumber (Some n) at

-- Where the input of an import has to end by what was given with `to`: behind its start.
abbrev pub IsEnd : Start → Option ℕ → Option Text → Type 0
IsEnd start None given = given ≡ None
IsEnd start (Some n) given = (begins_at start < n) × IsNumber (Some n) given
