use Rattle.std.proofs.Common.{[]}
use Rattle.osm_value.proofs.SinkLemmas.{started}
use Rattle.osm_import.proofs.CopiesLemmas.{held-still}
use Rattle.pbfrow_commands.proofs.migrate.migrate.Goals as goal

pub returns-clause-copies : goal.returns-clause-copies
returns-clause-copies g c = (
  c.copy_held-outcome.result,
  record { copies = c.copy_held-outcome.ensures.copies; crash = c.copy_held-outcome.ensures.crash; kept = c.copy_held-outcome.ensures.kept; whole = c.copy_held-outcome.ensures.whole; list = c.copy_held-outcome.ensures.list; own = c.copy_held-outcome.ensures.own; cause = c.copy_held-outcome.ensures.cause; told = c.copy_held-outcome.ensures.told; each = c.copy_held-outcome.ensures.each; same = c.copy_held-outcome.ensures.same; counted = c.copy_held-outcome.ensures.counted },
  c.put_outcome.ensures.line _ [] (started _ _),
  c.put_outcome.ensures.status,
)

pub returns-clause-source : goal.returns-clause-source
returns-clause-source g c = c.copy_held-outcome.ensures.source.stays

pub returns-clause-stays : goal.returns-clause-stays
returns-clause-stays g c = λ held holds honest. held-still g.T.BlobReader c.copy_held-outcome.new.to c.copy_held-outcome.result held (c.copy_held-outcome.ensures.kept held holds honest)

pub returns-clause-left : goal.returns-clause-left
returns-clause-left g c = λ held holds honest. (c.copy_held-outcome.ensures.kept held holds honest).crash
