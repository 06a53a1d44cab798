use Rattle.std.proofs.Common.{inl, inr}
use Rattle.osm_restarts.proofs.Begun.{begins, leaves_nothing}
use Rattle.osm_restarts.proofs.PremiseLemmas.{left_may_be_opened}
use Rattle.sqlite_store.specs.Laws.{settled_at}
use Rattle.osm_restarts.proofs.creation.create_before_a_restart.Goals as goal

pub returns-in-Ok-clause-opens : goal.returns-in-Ok-clause-opens
returns-in-Ok-clause-opens g c none clean image crash =
    let store = c.in-Ok.store.connection.store in
    left_may_be_opened store crash.plain
    (λ db left. inl (inl (inl (leaves_nothing _ (c.in-Ok.ensures.empty clean) (λ db there. settled_at store g.met.D.Disk.seen_may_stay db there) db left).sound.lists))) image crash.left

pub returns-in-Ok-clause-begins : goal.returns-in-Ok-clause-begins
returns-in-Ok-clause-begins g c none frames whole clean again =
    let store = c.in-Ok.store.connection.store in
    begins {h = g.E.Disk} g.met.E.Disk.seen_may_stay store c.args.after.now again
    (λ db left. inr (leaves_nothing _ (c.in-Ok.ensures.empty clean) (λ db there. settled_at store g.met.D.Disk.seen_may_stay db there) db left)) frames whole

pub returns-in-Err-clause-opens : goal.returns-in-Err-clause-opens
returns-in-Err-clause-opens g c none clean image crash =
    left_may_be_opened c.in-Err.refusal.1.store crash.plain
    (λ db left. elim (c.in-Err.ensures.crash clean db left) [ inl before ↦ inr (none db before) | inr holds ↦ inl (inl (inl holds.sound.lists)) ]) image crash.left

pub returns-in-Err-clause-begins : goal.returns-in-Err-clause-begins
returns-in-Err-clause-begins g c none frames whole clean again =
    begins {h = g.E.Disk} g.met.E.Disk.seen_may_stay c.in-Err.refusal.1.store c.args.after.now again
    (λ db left. elim (c.in-Err.ensures.crash clean db left) [ inl before ↦ inl (none db before) | inr holds ↦ inr holds ]) frames whole
