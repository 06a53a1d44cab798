use Rattle.std.proofs.Common.{arith}
use Rattle.osm_tree_audits.proofs.Columns.{one_more, all_copied}
use Rattle.osm_tree_audits.proofs.keyed.copy_columns.Goals as goal

pub loop-at-preserved : goal.loop-at-preserved
loop-at-preserved c = one_more c.args.row.now c.loop-at.at _ _ _ (omega arith) c.get.ensures c.in_ok-push.ensures.ok c.loop-at.invariant

pub returns : goal.returns
returns c = all_copied c.args.row.now c.loop-at.at _ (omega arith) c.loop-at.invariant
