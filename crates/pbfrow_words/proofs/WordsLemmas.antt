-- What the words say of where an import begins, and of how many ranges there are to be.
use Rattle.std.proofs.Common.{◌≤◌, ◌<◌, ℕ, List, Option, Some, None, arith}
use Rattle.std.specs.Prelude.{IfSome, IsSomeAnd}
use Rattle.clap.specs.Words.{Row, Text}
use Rattle.pbfrow_words.specs.Filling.{IsEnd, IsStart, begins_at}
use Rattle.pbfrow_words.specs.Words.{BeginsWithin, CutsSome, EndsWithin, Says}
use Rattle.pbfrow_words.specs.declared.filling.Start.{Start}
use Rattle.pbfrow_words.specs.declared.filling.Start.TheVariants.{Skip, At}
use Rattle.pbfrow_words.specs.declared.words.Words.{Words}
use Rattle.pbfrow_words.specs.declared.words.Words.TheVariants as command

start_within : (start : Start) (from at : Option Text) → IsStart start from at → begins_at start ≤ 4611686018427387904
start_within (Skip n) None at is = omega (arith, is.1)
start_within (Skip n) (Some text) at is = is.1.2.2
start_within (At n) from at is = is.1.2.2

begins_within : (w : Words) (name : Text) (rows : List Row) → Says w name rows → BeginsWithin w
begins_within (command.Import file database start to quiet) name rows said = start_within start _ _ said.3
begins_within (command.Read reading file) name rows said = tt
begins_within (command.Ranges file count) name rows said = tt
begins_within (command.Migrate old new) name rows said = tt
begins_within (command.Merge into from) name rows said = tt
begins_within (command.Verify file databases elements) name rows said = tt
begins_within (command.Ask databases question) name rows said = tt
begins_within (command.Find database kind id) name rows said = tt

pub said_begins_within : (w : Words) (o : Option (Text × List Row)) → IsSomeAnd o (λ p. Says w p.0 p.1) → BeginsWithin w
said_begins_within w (Some p) said = begins_within w p.0 p.1 said
said_begins_within w None said = absurd said

cuts_some : (w : Words) (name : Text) (rows : List Row) → Says w name rows → CutsSome w
cuts_some (command.Ranges file count) name rows said = said.2.1
cuts_some (command.Import file database start to quiet) name rows said = tt
cuts_some (command.Read reading file) name rows said = tt
cuts_some (command.Migrate old new) name rows said = tt
cuts_some (command.Merge into from) name rows said = tt
cuts_some (command.Verify file databases elements) name rows said = tt
cuts_some (command.Ask databases question) name rows said = tt
cuts_some (command.Find database kind id) name rows said = tt

pub said_cuts_some : (w : Words) (o : Option (Text × List Row)) → IsSomeAnd o (λ p. Says w p.0 p.1) → CutsSome w
said_cuts_some w (Some p) said = cuts_some w p.0 p.1 said
said_cuts_some w None said = absurd said

end_within : (start : Start) (to : Option ℕ) (given : Option Text) → IsEnd start to given → IfSome to (λ n. (begins_at start < n) × (n ≤ 4611686018427387904))
end_within start None given is = tt
end_within start (Some n) given is = (is.0, is.1.2.2)

ends_within : (w : Words) (name : Text) (rows : List Row) → Says w name rows → EndsWithin w
ends_within (command.Import file database start to quiet) name rows said = end_within start to _ said.4
ends_within (command.Ranges file count) name rows said = tt
ends_within (command.Read reading file) name rows said = tt
ends_within (command.Migrate old new) name rows said = tt
ends_within (command.Merge into from) name rows said = tt
ends_within (command.Verify file databases elements) name rows said = tt
ends_within (command.Ask databases question) name rows said = tt
ends_within (command.Find database kind id) name rows said = tt

pub said_ends_within : (w : Words) (o : Option (Text × List Row)) → IsSomeAnd o (λ p. Says w p.0 p.1) → EndsWithin w
said_ends_within w (Some p) said = ends_within w p.0 p.1 said
said_ends_within w None said = absurd said
