use Rattle.std.proofs.Common.{subst, IsTrue}
use Rattle.sqlite_wal.specs.Reads.{AreClean}
use Rattle.osm_openings.proofs.opening.prepare.Goals as goal

pub returns-clause-honest : goal.returns-clause-honest
returns-clause-honest g c clean = subst (λ p. AreClean g.D.Disk p.0 p.1) c.in_ok-pager.ensures.files (subst IsTrue c.in_ok-unopened.ensures.honest clean)
