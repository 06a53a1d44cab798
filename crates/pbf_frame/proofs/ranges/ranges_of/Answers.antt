use Rattle.std.proofs.Common.{◌≡◌, ◌<◌, ◌≤◌, ◌+◌, ◌-◌, ◌*◌, ◌/◌, length, take, get_or, Some, refl, subst, List, ℕ, ◌++◌, [], ◌∷◌, arith}
use Rattle.std.specs.Prelude.{slice_get}
use Rattle.pbf_frame.proofs.CuttingLemmas.{Cutting, cutting-at, cutting-ends, cutting-on, cutting-whole, next_end, size-is, size-some, taken}
use Rattle.pbf_frame.specs.Cutting.{last_end}
use Rattle.std.proofs.lemmas.List.{take_all}
use Rattle.pbf_frame.proofs.ranges.ranges_of.Goals as goal
use Rattle.pbf_frame.proofs.ranges.ranges_of.Goals.{then-share_of+in_ok-push, else-share_of}

pub share_of-requires : goal.share_of-requires
share_of-requires c = size-some c.in-Some.size c.args.ends.now c.requires.ends (cc (c.last.ensures.value, c.copied.ensures, c.in-Some.is))

pub share_of-requires-in-loop-end : goal.share_of-requires-in-loop-end
share_of-requires-in-loop-end c = size-some c.in-Some.size c.args.ends.now c.requires.ends (cc (c.last.ensures.value, c.copied.ensures, c.in-Some.is))

pub loop-end-preserved : goal.loop-end-preserved
loop-end-preserved c =
    let ends : List ℕ = c.args.ends.now in
    let i = c.loop-end.end-index in
    let end : ℕ = get_or ends i 0 in
    let so_far : Cutting c.in-Some.size c.args.count (take i ends) c.loop-end.from c.loop-end.ranges.items = c.loop-end.invariant in
    let next : last_end 0 (take i ends) < end = next_end 0 ends i 0 c.requires.ends c.loop-end-test.true in
    let some : 0 < c.in-Some.size = size-some c.in-Some.size ends c.requires.ends (cc (c.last.ensures.value, c.copied.ensures, c.in-Some.is)) in
    let seen : take (i + 1) ends ≡ take i ends ++ end ∷ [] = taken ends i end c.loop-end-test.true refl in
    elim c.if-share_of.branch [
      | then-share_of+in_ok-push w ↦
          let later : c.loop-end.from * c.args.count / c.in-Some.size < end * c.args.count / c.in-Some.size = omega (arith, w.if-share_of.true, c.share_of.ensures, c.share_of-in-loop-end.ensures) in
          let pushed : c.if-share_of.ranges.items ≡ c.loop-end.ranges.items ++ record { from = c.loop-end.from; to = end } ∷ [] = cc (w.ranges-is, w.in_ok-push.ensures.items) in
          cutting-at c.in-Some.size c.args.count (take i ends ++ end ∷ []) (take (i + 1) ends) end c.if-share_of.from _ c.if-share_of.ranges.items seen w.from-is pushed
          (cutting-ends c.in-Some.size c.args.count (take i ends) end c.loop-end.from c.loop-end.ranges.items some next later so_far)
      | else-share_of w ↦
          let same : end * c.args.count / c.in-Some.size ≤ c.loop-end.from * c.args.count / c.in-Some.size = omega (arith, w.if-share_of.false, c.share_of.ensures, c.share_of-in-loop-end.ensures) in
          let kept : c.if-share_of.ranges.items ≡ c.loop-end.ranges.items = cc w.ranges-is in
          cutting-at c.in-Some.size c.args.count (take i ends ++ end ∷ []) (take (i + 1) ends) c.loop-end.from c.if-share_of.from _ c.if-share_of.ranges.items seen w.from-is kept
          (cutting-on c.in-Some.size c.args.count (take i ends) end c.loop-end.from c.loop-end.ranges.items next same so_far)
    ]

pub returns : goal.returns
returns c =
    let ends : List ℕ = c.args.ends.now in
    let last : slice_get ends (length ends - 1) ≡ Some c.in-Some.size = cc (c.last.ensures.value, c.copied.ensures, c.in-Some.is) in
    let all : take c.loop-end.end-index ends ≡ ends = take_all c.loop-end.end-index ends c.loop-end-test.false in
    cutting-whole c.in-Some.size c.args.count ends c.loop-end.from c.loop-end.ranges.items (size-is c.in-Some.size ends last) (size-some c.in-Some.size ends c.requires.ends last) c.requires.some
    (subst (λ (seen : List ℕ). Cutting c.in-Some.size c.args.count seen c.loop-end.from c.loop-end.ranges.items) all c.loop-end.invariant)
