use Rattle.sqlite_exec.proofs.CheckLemmas.{stepped}
use Rattle.osm_tree_audits.proofs.Walks.{among_rest}
use Rattle.osm_tree_audits.proofs.walk.next_has.Goals as goal

pub returns-in-Ok-true-clause-left : goal.returns-in-Ok-true-clause-left
returns-in-Ok-true-clause-left g c clean =
    among_rest _ _ c.next.new.row (stepped _ _ 1 c.next.new.row (rw c.in-Ok-true.field-0-test at (c.in-Ok-true.ensures.ok clean)))
