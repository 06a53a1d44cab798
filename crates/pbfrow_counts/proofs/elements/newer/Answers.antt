use Rattle.std.proofs.Common.{◌++◌, ℤ, Some, sym, subst, rules, FitsSigned, w64}
use Rattle.std.specs.Prelude.{option_to_list}
use Rattle.std.proofs.lemmas.Int.{to_z-of_z}
use Rattle.pbfrow_counts.specs.Counting.{IsNewest}
use Rattle.pbfrow_counts.proofs.CountLemmas.{is-at-most, is-below, newer-keeps, newer-takes}
use Rattle.pbfrow_counts.proofs.elements.newer.Goals as goal

pub returns-then-newest-time : goal.returns-then-newest-time
returns-then-newest-time c = λ times was.
    let at : FitsSigned w64 c.in-Some.time = search rules in
    let of : FitsSigned w64 c.in-Some-newest.newest = search rules in
    subst (λ (z : ℤ). IsNewest (times ++ option_to_list c.args.time) (Some z)) (sym (to_z-of_z w64 _ at))
    (newer-takes times c.args.newest c.args.time c.in-Some-newest.newest c.in-Some.time c.in-Some.is c.in-Some-newest.is
    (is-below _ _ c.in-Some-newest.newest c.in-Some.time (to_z-of_z w64 _ of) (to_z-of_z w64 _ at) c.if-newest-time.true) was)

pub returns-else-newest-time : goal.returns-else-newest-time
returns-else-newest-time c = λ times was.
    let at : FitsSigned w64 c.in-Some.time = search rules in
    let of : FitsSigned w64 c.in-Some-newest.newest = search rules in
    subst (λ (z : ℤ). IsNewest (times ++ option_to_list c.args.time) (Some z)) (sym (to_z-of_z w64 _ of))
    (newer-keeps times c.args.newest c.args.time c.in-Some-newest.newest c.in-Some.time c.in-Some.is c.in-Some-newest.is
    (is-at-most _ _ c.in-Some-newest.newest c.in-Some.time (to_z-of_z w64 _ of) (to_z-of_z w64 _ at) c.if-newest-time.false) was)
