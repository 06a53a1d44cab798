-- Commands that are made argument by argument, and subcommand by subcommand.
use Rattle.std.proofs.Common.{◌≡◌, ◌+◌, ◌∙◌, ap, refl, Bool, true, false, ◌&&◌, not, List, [], ◌∷◌, ◌++◌, length, length-append, arith, Result, Ok, Err}
use Rattle.std.proofs.lemmas.Bool.Decides.{nat_tests}
use Rattle.std.specs.Borrow.{Bor}
use Rattle.std.specs.Prelude.{IfOk}
use Rattle.clap.specs.Walk.{is_empty, is_free_arg}
use Rattle.clap.specs.Words.{AddsConflicts, App, Rule, Text, app_of, rule_of, with_rule, with_subcommand}
use Rattle.clap.specs.declared.builder.arg.Arg.{Arg}
use Rattle.clap.specs.declared.builder.command.Command.{Command}

pub ruled : {x y : App} {q p : Rule} → x ≡ y → q ≡ p → with_rule x q ≡ with_rule y p
ruled {x} {y} {q} {p} xs qs = ap (λ z. with_rule z q) xs ∙ ap (λ z. with_rule y z) qs

pub gained : {x y a b : App} → x ≡ y → a ≡ b → with_subcommand x a.top ≡ with_subcommand y b.top
gained {x} {y} {a} {b} xs is = ap (λ z. with_subcommand z a.top) xs ∙ ap (λ (z : App). with_subcommand y z.top) is

pub made : {E : Type 0} (r : Result Command E) {x y : App} → IfOk r (λ n. app_of n ≡ x) → x ≡ y → IfOk r (λ n. app_of n ≡ y)
made (Ok n) is same = is ∙ same
made (Err e) is same = tt

-- ---- an argument that can't be used with another

some-left : {X : Type 0} (xs ys : List X) (x : X) → xs ≡ ys ++ x ∷ [] → is_empty xs ≡ false
some-left xs ys x is =
    let many : length xs ≡ length ys + 1 = omega (arith, ap length is, length-append ys (x ∷ [])) in
    grind (arith, nat_tests)

never : (a : Bool) → (a && false) ≡ false
never true = refl
never false = refl

pub bound : (old new : Arg) (x : Bor Text) → AddsConflicts old new (x ∷ []) → rule_of new ≡ record (rule_of old) { is_free = false }
bound old new x adds =
    let some : is_empty new.conflicts.items ≡ false = some-left new.conflicts.items old.conflicts.items x adds.1 in
    let free : is_free_arg (record old { conflicts = new.conflicts }) ≡ false = rw some (never (not old.exclusive)) in
    ap rule_of adds.0 ∙ ap (λ (b : Bool). record (rule_of old) { is_free = b }) free

pub bound_if : {E : Type 0} (old : Arg) (r : Result Arg E) (x : Bor Text) (rule : Rule) → rule_of old ≡ rule → IfOk r (λ a. AddsConflicts old a (x ∷ [])) → IfOk r (λ a. rule_of a ≡ record rule { is_free = false })
bound_if old (Ok new) x rule is adds = bound old new x adds ∙ ap (λ (q : Rule). record q { is_free = false }) is
bound_if old (Err e) x rule is adds = tt
