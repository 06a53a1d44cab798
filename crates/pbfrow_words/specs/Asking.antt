-- The commands that ask a database, as clap's model of a command has them, and what a question says of their matches.
use Rattle.std.specs.Prelude.{◌≡◌, ℤ, true, false, List, Option, Some, [], ◌∷◌, codes}
use Rattle.clap.specs.Words.{App, Row, Rule, Text, first_of, new_app, new_rule, one_of, with_rule, with_subcommand}
use Rattle.osm_value.specs.declared.element.MemberKind.{MemberKind}
use Rattle.osm_value.specs.declared.form.Form.{Form}
use Rattle.osm_value.specs.declared.form.Form.TheVariants as form
use Rattle.pbfrow_words.specs.Arguments.{IsFlag, IsNumber, flag, offset_option, required_argument, required_arguments}
use Rattle.pbfrow_words.specs.Element.{element_at}
use Rattle.pbfrow_words.specs.declared.asking.Question.{Question}
use Rattle.pbfrow_words.specs.declared.asking.Question.TheVariants.{Status, Counts, Export}

abbrev pub form_option : Rule
form_option = record (new_rule (codes "form")) {
  long = Some (codes "form");
  value_names = 1;
  defaults = codes "lines" ∷ [];
}

abbrev pub counts_flag : Rule
counts_flag = flag (codes "counts")

abbrev pub status_command : App
status_command = with_rule (with_rule (with_rule (new_app (codes "status"))
    (required_arguments (codes "DB"))) (offset_option (codes "size"))) counts_flag

abbrev pub with_export_choices : App → App
with_export_choices command = with_rule (with_rule command (flag (codes "partial"))) form_option

abbrev pub export_command : App
export_command = with_export_choices (with_rule (with_rule (new_app (codes "export"))
    (required_arguments (codes "DB"))) (offset_option (codes "size")))

abbrev pub find_command : App
find_command = with_rule (with_rule (new_app (codes "find"))
    (required_argument (codes "DB"))) (required_argument (codes "ELEMENT"))

abbrev pub with_asking_commands : App → App
with_asking_commands program = with_subcommand (with_subcommand (with_subcommand program status_command.top)
    export_command.top) find_command.top

abbrev pub IsForm : Form → Option Text → Type 0
IsForm form.Lines given = given ≡ Some (codes "lines")
IsForm form.Pbf given = given ≡ Some (codes "pbf")

-- the question is that of a subcommand of this name with these matches
abbrev pub Asks : Question → Text → List Row → Type 0
Asks (Status size) name rows = (name ≡ codes "status") × IsNumber size (one_of (codes "size") rows)
    × IsFlag false (one_of (codes "counts") rows)
Asks (Counts size) name rows = (name ≡ codes "status") × IsNumber size (one_of (codes "size") rows)
    × IsFlag true (one_of (codes "counts") rows)
Asks (Export size partial how) name rows = (name ≡ codes "export") × IsNumber size (one_of (codes "size") rows)
    × IsFlag partial (one_of (codes "partial") rows) × IsForm how (first_of (codes "form") rows)

-- the text names an element of this kind and id
abbrev pub IsElementOf : MemberKind → ℤ → Option Text → Type 0
IsElementOf kind id given = (text : Text) × (Some text ≡ given) × (element_at text ≡ Some (kind, id))
