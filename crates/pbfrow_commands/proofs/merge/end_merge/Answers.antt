use Rattle.std.proofs.Common.{append_assoc}
use Rattle.std.specs.Prelude.{codes}
use Rattle.osm_value.proofs.SinkLemmas.{Wrote-text}
use Rattle.pbfrow_commands.specs.Copying.{copied_line}
use Rattle.pbfrow_commands.proofs.merge.end_merge.Goals as goal

pub returns-then-failed-clause-line : goal.returns-then-failed-clause-line
returns-then-failed-clause-line g c = λ start before h.
    Wrote-text start _ _ _ _ (append_assoc before (codes "blobs ") (copied_line c.args.counts)) (c.put_copied.ensures start _ (c.put.ensures start before h))

pub returns-else-failed-clause-line : goal.returns-else-failed-clause-line
returns-else-failed-clause-line g c = λ start before h.
    Wrote-text start _ _ _ _ (append_assoc before (codes "blobs ") (copied_line c.args.counts)) (c.put_copied.ensures start _ (c.put.ensures start before h))
