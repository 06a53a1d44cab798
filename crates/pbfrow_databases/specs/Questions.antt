-- What is asked of databases, and what is told.
use Rattle.std.specs.Prelude.{Bool, true, false, List, filter}
use Rattle.osm_rows.specs.Held.{HeldMap}
use Rattle.osm_rows.specs.Rows.{is_of, placed_in}
use Rattle.pbfrow_words.specs.declared.asking.Question.{Question}
use Rattle.pbfrow_words.specs.declared.asking.Question.TheVariants.{Status, Counts, Export}
use Rattle.pbfrow_commands.specs.Counting.{TellsCounts}
use Rattle.pbfrow_commands.specs.Exporting.{TellsExport}
use Rattle.pbfrow_commands.specs.Finding.{TellsMatches}
use Rattle.pbfrow_commands.specs.InParts.{TellsParts, TellsUnionExport}
use Rattle.pbfrow_commands.specs.Status.{TellsStatus}
use Rattle.pbfrow_commands.specs.Telling.{Telling}
use Rattle.pbfrow_databases.specs.declared.questions.Query.{Query}
use Rattle.pbfrow_databases.specs.declared.questions.Query.TheVariants.{Whole, Element}

-- whether the answer goes from blob to blob
abbrev pub goes_by_blobs : Question → Bool
goes_by_blobs (Status size) = false
goes_by_blobs (Counts size) = true
goes_by_blobs (Export size partial form) = true

-- what is told where this is asked of a store that holds the map: what the command of the question tells of it
abbrev pub Answers : Question → HeldMap → Telling → Type 0
Answers (Status size) held t = TellsStatus size held t
Answers (Counts size) held t = TellsCounts size held t
Answers (Export size partial form) held t = TellsExport form size partial held t

-- what is told where this is asked of stores that hold these maps: what would be told of one that holds their union, or why they
-- can't be read as one
abbrev pub AnswersTogether : Question → List HeldMap → Telling → Type 0
AnswersTogether (Status size) maps t = TellsParts (TellsStatus size) maps t
AnswersTogether (Counts size) maps t = TellsParts (TellsCounts size) maps t
AnswersTogether (Export size partial form) maps t = TellsParts (TellsUnionExport form size partial maps) maps t

-- what is told where this is asked of one database alone: the answer to a question, or where an element is held
abbrev pub AnswersQuery : Query → HeldMap → Telling → Type 0
AnswersQuery (Whole question) held t = Answers question held t
AnswersQuery (Element kind id) held t = TellsMatches (filter (is_of kind id) (placed_in held)) t
