-- The command that compares a file and databases, as clap's model of a command has it.
use Rattle.std.specs.Prelude.{codes}
use Rattle.clap.specs.Words.{App, new_app, with_rule, with_subcommand}
use Rattle.pbfrow_words.specs.Arguments.{flag, required_argument, required_arguments}

abbrev pub verify_command : App
verify_command = with_rule (with_rule (with_rule (new_app (codes "verify"))
    (required_argument (codes "FILE"))) (required_arguments (codes "DB"))) (flag (codes "elements"))

abbrev pub with_verify : App → App
with_verify program = with_subcommand program verify_command.top
