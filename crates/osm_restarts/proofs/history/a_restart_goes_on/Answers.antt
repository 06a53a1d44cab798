use Rattle.std.proofs.Common.{[], ◌∷◌}
use Rattle.osm_import.specs.Histories.{answered, broken}
use Rattle.osm_restarts.proofs.Events.{goes_further, one_event}
use Rattle.osm_restarts.proofs.history.a_restart_goes_on.Goals as goal

pub returns-clause-events : goal.returns-clause-events
returns-clause-events g c frames events more behind again =
    let found = c.a_restart_holds_what_was_left.ensures behind.leaves.whole again in
    let left = found.0 in
    (left, found.1, goes_further g.met.E.Disk.seen_may_stay c.args.after.now frames events more behind.held left behind.comes_of behind.of_file (behind.leaves.history left found.1) found.2)

pub returns-clause-broken : goal.returns-clause-broken
returns-clause-broken g c frames events delivery answer behind again =
    let found = c.a_restart_holds_what_was_left.ensures behind.whole again in
    let left = found.0 in
    let event = one_event behind.held (broken delivery) left (behind.leaves.of_broken left found.1) in
    (left, found.1, goes_further g.met.E.Disk.seen_may_stay c.args.after.now frames events (broken delivery ∷ []) behind.held left behind.comes_of (behind.of_file, tt) event found.2)

pub returns-clause-answered : goal.returns-clause-answered
returns-clause-answered g c frames events delivery answer behind sound again =
    let found = c.a_restart_holds_what_was_left.ensures behind.whole again in
    let left = found.0 in
    let event = one_event behind.held (answered delivery answer) left (behind.leaves.of_answered sound left found.1) in
    (left, found.1, goes_further g.met.E.Disk.seen_may_stay c.args.after.now frames events (answered delivery answer ∷ []) behind.held left behind.comes_of (behind.of_file, tt) event found.2)
