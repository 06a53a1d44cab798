-- The commands that read a PBF file, as clap's model of a command has them.
use Rattle.std.specs.Prelude.{◌≡◌, codes}
use Rattle.clap.specs.Words.{App, Text, new_app, with_rule, with_subcommand}
use Rattle.pbfrow_words.specs.Arguments.{optional_argument}
use Rattle.pbfrow_words.specs.declared.reading.Reading.{Reading}
use Rattle.pbfrow_words.specs.declared.reading.Reading.TheVariants.{List, Check, Show}

abbrev pub reading_command : Text → App
reading_command name = with_rule (new_app name) (optional_argument (codes "FILE"))

abbrev pub with_reading_commands : App → App
with_reading_commands program = with_subcommand (with_subcommand (with_subcommand program
    (reading_command (codes "list")).top) (reading_command (codes "check")).top)
    (reading_command (codes "show")).top

-- the command's name
abbrev pub Reads : Reading → Text → Type 0
Reads List name = name ≡ codes "list"
Reads Check name = name ≡ codes "check"
Reads Show name = name ≡ codes "show"
