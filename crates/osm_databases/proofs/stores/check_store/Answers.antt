use Rattle.osm_databases.proofs.Looked.{checked_on, reads_from, seen_on}
use Rattle.osm_databases.proofs.stores.check_store.Goals as goal

pub returns-clause-checked : goal.returns-clause-checked
returns-clause-checked g c = rw (c.new-2.ensures, c.new.ensures) (λ clean found shaped. checked_on _ _ _ c.in_ok-whole.ensures.reads _ c.in_ok-whole.ensures.whole (c.in_ok-kept.ensures.reads clean) clean found shaped)

pub returns-clause-look : goal.returns-clause-look
returns-clause-look g c = rw (c.new-2.ensures, c.new.ensures) (λ clean. seen_on (g.S.Store.view c.in_ok-whole.whole) (g.S.Store.view c.in_ok-kept.kept) c.in_ok-whole.look c.in_ok-whole.ensures.whole (c.in_ok-kept.ensures.reads clean).0 clean)

pub returns-clause-added : goal.returns-clause-added
returns-clause-added g c = rw (c.new-2.ensures, c.new.ensures) (λ clean. c.in_ok-kept.ensures.whole clean)

pub returns-clause-reads : goal.returns-clause-reads
returns-clause-reads g c = rw (c.new-2.ensures, c.new.ensures) (λ clean. reads_from (g.S.Store.view c.args.trees) (g.S.Store.view c.in_ok-whole.whole) (g.S.Store.view c.in_ok-kept.kept) c.in_ok-whole.ensures.reads (c.in_ok-kept.ensures.reads clean).0 clean)
