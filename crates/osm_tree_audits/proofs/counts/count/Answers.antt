use Rattle.std.proofs.Common.{rules, arith}
use Rattle.sqlite_exec.proofs.CheckLemmas.{from_no_key}
use Rattle.osm_tree_audits.proofs.counts.count.Goals as goal

pub rows-init : goal.rows-init
rows-init g c = (
  search rules,
  search rules,
  search rules,
  λ clean. rw (c.in_default.ensures.ok clean, c.new-row.ensures, from_no_key) (omega arith),
)
