use Rattle.std.proofs.Common.{sym, subst, inl}
use Rattle.osm_openings.specs.Asked.{IsFoundAgain}
use Rattle.osm_restarts.proofs.MergeLemmas.{merge_goes_on}
use Rattle.osm_restarts.proofs.merging.a_merge_goes_on.Goals as goal

pub returns-clause-opens : goal.returns-clause-opens
returns-clause-opens g c rows lists found clean image crashed =
    c.what_is_left_may_be_opened.ensures (λ db left. inl (subst IsFoundAgain (sym (lists.left db left)) found)) image crashed

pub returns-clause-goes_on : goal.returns-clause-goes_on
returns-clause-goes_on g c sources held leaves again =
    let found = c.a_restart_holds_what_was_left.ensures leaves.whole again in
    let left = found.0 in
    (left, found.1, merge_goes_on g.met.E.Disk.seen_may_stay c.args.after.now sources held left (leaves.front left found.1) found.2)
