use Rattle.std.proofs.Common.{◌≡◌, ◌-◌, refl, ◌∙◌, arith}
use Rattle.std.proofs.lemmas.Result.{on_ok_weaker}
use Rattle.osm_tree_writes.proofs.Places.{one_more_column, no_more_columns}
use Rattle.osm_tree_writes.proofs.append.make_entry.Goals as goal

pub loop-at-init : goal.loop-at-init
loop-at-init c =
    let all : c.in-Some.end - c.args.index.first ≡ c.args.index.width = omega (arith, c.in-Some.ensures) in
    rw (c.clear.ensures, all) refl

pub loop-at-preserved : goal.loop-at-preserved
loop-at-preserved c =
    rw (c.in_ok-push.ensures.ok, c.get.ensures) (one_more_column c.args.row.now c.loop-at.entry _ c.loop-at.at c.in-Some.end c.loop-at-test.true c.loop-at.invariant)

pub returns : goal.returns
returns c =
    let row = c.args.row.now in
    let columns = no_more_columns row c.loop-at.entry _ c.loop-at.at c.in-Some.end c.loop-at-test.false c.loop-at.invariant in
    on_ok_weaker c.push-2.result (λ pushed. pushed ∙ rw (columns, c.get-2.ensures) refl) c.push-2.ensures.ok
