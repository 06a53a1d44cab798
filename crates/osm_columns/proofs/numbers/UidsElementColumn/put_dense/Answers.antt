use Rattle.std.proofs.Common.{rules, ◌≡◌, ◌<◌, ◌∙◌, ap, length, replicate}
use Rattle.osm_columns.specs.Values.{no_int}
use Rattle.osm_columns.proofs.AddLemmas.{adds-same}
use Rattle.osm_columns.proofs.DenseLemmas.{uids-there, uids-missing}
use Rattle.osm_columns.proofs.numbers.UidsElementColumn.put_dense.Goals as goal

pub returns-then-is_empty : goal.returns-then-is_empty
returns-then-is_empty c = λ ns h.
    let count : c.len.result ≡ length c.args.arrays.now.ids.items = search rules in
    let none : length c.args.arrays.now.uids.items ≡ 0 = search rules in
    adds-same c.args.at _ _ c.args.array.now c.put_same.new.array (ap (λ k. replicate k no_int) count ∙ uids-missing _ _ ns h none) c.put_same.ensures

pub returns-else-is_empty : goal.returns-else-is_empty
returns-else-is_empty c = λ ns h.
    let some : 0 < length c.args.arrays.now.uids.items = search rules in
    adds-same c.args.at _ _ c.args.array.now c.put_uids.new.array (c.deref.ensures.value ∙ uids-there _ _ ns h some) c.put_uids.ensures
