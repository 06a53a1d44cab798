use Rattle.std.proofs.Common.{◌++◌, ℤ, Some, sym, subst, rules, FitsSigned, w64}
use Rattle.std.specs.Prelude.{option_to_list}
use Rattle.std.proofs.lemmas.Int.{to_z-of_z}
use Rattle.pbfrow_counts.specs.Counting.{IsOldest}
use Rattle.pbfrow_counts.proofs.CountLemmas.{is-at-most, is-below, older-keeps, older-takes}
use Rattle.pbfrow_counts.proofs.elements.older.Goals as goal

pub returns-then-time-oldest : goal.returns-then-time-oldest
returns-then-time-oldest c = λ times was.
    let at : FitsSigned w64 c.in-Some.time = search rules in
    let of : FitsSigned w64 c.in-Some-oldest.oldest = search rules in
    subst (λ (z : ℤ). IsOldest (times ++ option_to_list c.args.time) (Some z)) (sym (to_z-of_z w64 _ at))
    (older-takes times c.args.oldest c.args.time c.in-Some-oldest.oldest c.in-Some.time c.in-Some.is c.in-Some-oldest.is
    (is-below _ _ c.in-Some.time c.in-Some-oldest.oldest (to_z-of_z w64 _ at) (to_z-of_z w64 _ of) c.if-time-oldest.true) was)

pub returns-else-time-oldest : goal.returns-else-time-oldest
returns-else-time-oldest c = λ times was.
    let at : FitsSigned w64 c.in-Some.time = search rules in
    let of : FitsSigned w64 c.in-Some-oldest.oldest = search rules in
    subst (λ (z : ℤ). IsOldest (times ++ option_to_list c.args.time) (Some z)) (sym (to_z-of_z w64 _ of))
    (older-keeps times c.args.oldest c.args.time c.in-Some-oldest.oldest c.in-Some.time c.in-Some.is c.in-Some-oldest.is
    (is-at-most _ _ c.in-Some.time c.in-Some-oldest.oldest (to_z-of_z w64 _ at) (to_z-of_z w64 _ of) c.if-time-oldest.false) was)
