-- The program with its commands, as clap's model of a command has it, and what a command says of the matches.
use Rattle.std.specs.Prelude.{◌≡◌, ◌<◌, ◌≤◌, List, Some, IfSome, true, codes, map}
use Rattle.clap.specs.Words.{App, Row, Text, all_of, first_of, new_app, one_of}
use Rattle.pbfrow_words.specs.Arguments.{IsFlag, text_of}
use Rattle.pbfrow_words.specs.Asking.{Asks, IsElementOf, with_asking_commands}
use Rattle.pbfrow_words.specs.Filling.{IsEnd, IsStart, begins_at, with_filling_commands}
use Rattle.pbfrow_words.specs.Ranges.{IsCount, with_ranges}
use Rattle.pbfrow_words.specs.Reading.{Reads, with_reading_commands}
use Rattle.pbfrow_words.specs.Verifying.{with_verify}
use Rattle.pbfrow_words.specs.declared.words.Words.{Words}
use Rattle.pbfrow_words.specs.declared.words.Words.TheVariants as command

-- the program before it has commands
abbrev pub plain_program : App
plain_program = record (new_app (codes "pbfrow")) {
  top = record (new_app (codes "pbfrow")).top { has_version = true; subcommand_required = true };
}

-- the program's commands and their arguments, in the words of `clap`'s model of a command line
abbrev pub program : App
program = with_asking_commands (with_verify (with_filling_commands (with_ranges (with_reading_commands plain_program))))

-- the command and its arguments are those of a subcommand of this name with these matches
abbrev pub Says : Words → Text → List Row → Type 0
Says (command.Read reading file) name rows = Reads reading name × (text_of file ≡ first_of (codes "FILE") rows)
Says (command.Ranges file count) name rows = (name ≡ codes "ranges")
    × (Some file.now ≡ first_of (codes "FILE") rows) × IsCount count (one_of (codes "N") rows)
Says (command.Import file database start to quiet) name rows = (name ≡ codes "import")
    × (Some file.now ≡ first_of (codes "FILE") rows)
    × (Some database.now ≡ first_of (codes "DB") rows) × IsStart start (one_of (codes "from") rows) (one_of (codes "at") rows)
    × IsEnd start to (one_of (codes "to") rows) × IsFlag quiet (one_of (codes "quiet") rows)
Says (command.Migrate old new) name rows = (name ≡ codes "migrate")
    × (Some old.now ≡ first_of (codes "OLD") rows) × (Some new.now ≡ first_of (codes "NEW") rows)
Says (command.Merge into from) name rows = (name ≡ codes "merge")
    × (Some into.now ≡ first_of (codes "INTO") rows) × (Some (map (λ s. s.now) from.items) ≡ all_of (codes "FROM") rows)
Says (command.Verify file databases elements) name rows = (name ≡ codes "verify")
    × (Some file.now ≡ first_of (codes "FILE") rows)
    × (Some (map (λ s. s.now) databases.items) ≡ all_of (codes "DB") rows) × IsFlag elements (one_of (codes "elements") rows)
Says (command.Ask databases question) name rows = (Some (map (λ s. s.now) databases.items) ≡ all_of (codes "DB") rows) × Asks question name rows
Says (command.Find database kind id) name rows = (name ≡ codes "find")
    × (Some database.now ≡ first_of (codes "DB") rows) × IsElementOf kind id (first_of (codes "ELEMENT") rows)

-- an import begins at 2^62 at most
abbrev pub BeginsWithin : Words → Type 0
BeginsWithin (command.Import file database start to quiet) = begins_at start ≤ 4611686018427387904
BeginsWithin _ = Unit {0}

-- an import that has to end somewhere ends behind its start, and at 2^62 at most
abbrev pub EndsWithin : Words → Type 0
EndsWithin (command.Import file database start to quiet) = IfSome to (λ n. (begins_at start < n) × (n ≤ 4611686018427387904))
EndsWithin _ = Unit {0}

-- a file is cut into one range or more
abbrev pub CutsSome : Words → Type 0
CutsSome (command.Ranges file count) = 0 < count
CutsSome _ = Unit {0}
