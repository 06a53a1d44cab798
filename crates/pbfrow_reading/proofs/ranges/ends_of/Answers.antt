use Rattle.std.proofs.Common.{◌≡◌, ◌+◌, false, length, [], ◌∷◌, ◌++◌, refl, rules}
use Rattle.osm_reading.specs.FrameReads.{GivesFrame, Halts}
use Rattle.pbfrow_reading.specs.Listing.{HasAny}
use Rattle.pbfrow_reading.proofs.RangesLemmas.{given, passing-more, passing-none, passed-early}
use Rattle.pbfrow_reading.proofs.Walking.{walks-nothing}
use Rattle.pbfrow_reading.proofs.ranges.ends_of.Goals as goal

pub returns-in-Err-clause-err : goal.returns-in-Err-clause-err
returns-in-Err-clause-err g c = ([], walks-nothing HasAny (g.R.Read.remaining c.args.input.now) false c.in-Err.stop c.in-Err.ensures.err)

pub each-init : goal.each-init
each-init g c =
    let here : c.in-Ok.frames.offset ≡ 0 = search rules in
    let same : c.in-Ok.frames.left ≡ g.R.Read.remaining c.args.input.now = search rules in
    ([], passing-none (g.R.Read.remaining c.args.input.now) c.in-Ok.frames c.new-ends.result.items here same c.new-ends.ensures.items)

pub each-preserved : goal.each-preserved
each-preserved g c =
    let left = g.R.Read.remaining c.args.input.now in
    let was = c.each.frames in
    let now = c.next.follows.lender-at-none in
    let so_far = c.each.invariant in
    let gives : GivesFrame was now c.in-Ok-Some.at c.in-Ok-Some.bytes.now = rw (c.in-Ok-Some.is, c.in-Ok-Some.field-0-is) at c.next.follows.holds-at-none in
    let pushed : c.push.new.self.items ≡ c.each.ends.items ++ (c.in-Ok-Some.at + length c.in-Ok-Some.bytes.now) ∷ [] = cc c.in-Ok-push.ensures.items in (
      so_far.0 ++ given was now c.in-Ok-Some.at c.in-Ok-Some.bytes.now gives ∷ [],
      passing-more left was now c.in-Ok-Some.at (c.in-Ok-Some.at + length c.in-Ok-Some.bytes.now) c.in-Ok-Some.bytes.now so_far.0 c.each.ends.items c.push.new.self.items gives refl pushed so_far.1,
    )

pub returns-in-Err-next-clause-err : goal.returns-in-Err-next-clause-err
returns-in-Err-next-clause-err g c =
    let left = g.R.Read.remaining c.args.input.now in
    let was = c.each.frames in
    let now = c.next.follows.lender-at-none in
    let so_far = c.each.invariant in
    let halts : Halts was now c.in-Err-next.stop = rw c.in-Err-next.is at c.next.follows.holds-at-none in
    (so_far.0, passed-early left was now so_far.0 c.each.ends.items c.in-Err-next.stop so_far.1 halts)
