use Rattle.std.proofs.Common.{◌-◌, length}
use Rattle.osm_columns.proofs.PairLemmas.{PairsPushed}
use Rattle.osm_columns.proofs.dense_texts.push_pairs.Given as goal

abbrev pub invariant-loop-index : goal.invariant-loop-index
invariant-loop-index l = PairsPushed l.table l.keys_vals l.at l.index l.fn.keys.items l.fn.values.items l.keys.items l.values.items

abbrev pub decreases-loop-index : goal.decreases-loop-index
decreases-loop-index l = length l.keys_vals - l.index
