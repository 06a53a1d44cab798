use Rattle.std.proofs.Common.{◌≡◌, ◌∙◌, true, ap, refl, subst, map, List}
use Rattle.std.specs.Prelude.{Option, IfSome, IsSomeAnd}
use Rattle.clap.specs.Words.{Row, Text, app_of, is_simple, subcommand_of, subcommand_rows_of}
use Rattle.pbfrow_words.specs.Words.{Says, program}
use Rattle.pbfrow_words.specs.declared.words.Words.{Words}
use Rattle.pbfrow_words.proofs.WordsLemmas.{said_begins_within, said_cuts_some, said_ends_within}
use Rattle.pbfrow_words.proofs.words.read_words.Goals as goal

program_is_simple : is_simple program ≡ true
program_is_simple = refl

pub returns-in-Some-clause-named : goal.returns-in-Some-clause-named
returns-in-Some-clause-named c =
    let shape = c.in_ok-command.ensures.shape in
    let simple : is_simple (app_of c.in_ok-command.command) ≡ true = ap is_simple shape ∙ program_is_simple in
    let exact = (c.in_ok-matches.ensures.ok.2 simple).1 in
    let said : IsSomeAnd (subcommand_rows_of c.in_ok-matches.matches) (λ p. Says c.in-Some.words p.0 p.1)
    = subst (λ (o : Option Words). IfSome o (λ w. IsSomeAnd (subcommand_rows_of c.in_ok-matches.matches) (λ p. Says w p.0 p.1))) c.in-Some.is c.in_ok-entered.ensures in
    subst (λ (o : Option (Text × List Row)). IsSomeAnd o (λ p. Says c.in-Some.words p.0 p.1))
    (exact ∙ ap (λ a. subcommand_of a (map (λ s. s.now) c.args.words.now)) shape) said

pub returns-in-Some-clause-within : goal.returns-in-Some-clause-within
returns-in-Some-clause-within c =
    let said : IsSomeAnd (subcommand_rows_of c.in_ok-matches.matches) (λ p. Says c.in-Some.words p.0 p.1)
    = subst (λ (o : Option Words). IfSome o (λ w. IsSomeAnd (subcommand_rows_of c.in_ok-matches.matches) (λ p. Says w p.0 p.1))) c.in-Some.is c.in_ok-entered.ensures in
    said_begins_within c.in-Some.words _ said

pub returns-in-Some-clause-some : goal.returns-in-Some-clause-some
returns-in-Some-clause-some c =
    let said : IsSomeAnd (subcommand_rows_of c.in_ok-matches.matches) (λ p. Says c.in-Some.words p.0 p.1)
    = subst (λ (o : Option Words). IfSome o (λ w. IsSomeAnd (subcommand_rows_of c.in_ok-matches.matches) (λ p. Says w p.0 p.1))) c.in-Some.is c.in_ok-entered.ensures in
    said_cuts_some c.in-Some.words _ said

pub returns-in-Some-clause-ends : goal.returns-in-Some-clause-ends
returns-in-Some-clause-ends c =
    let said : IsSomeAnd (subcommand_rows_of c.in_ok-matches.matches) (λ p. Says c.in-Some.words p.0 p.1)
    = subst (λ (o : Option Words). IfSome o (λ w. IsSomeAnd (subcommand_rows_of c.in_ok-matches.matches) (λ p. Says w p.0 p.1))) c.in-Some.is c.in_ok-entered.ensures in
    said_ends_within c.in-Some.words _ said
