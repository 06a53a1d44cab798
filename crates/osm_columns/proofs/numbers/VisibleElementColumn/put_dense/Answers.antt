use Rattle.std.proofs.Common.{rules, ◌≡◌, ◌<◌, ◌∙◌, ap, length, map, replicate}
use Rattle.std.proofs.Common.{Some}
use Rattle.osm_columns.specs.Values.{number_of_flag}
use Rattle.osm_columns.proofs.AddLemmas.{adds-same}
use Rattle.osm_columns.proofs.DenseLemmas.{flags-there, flags-missing}
use Rattle.osm_columns.proofs.numbers.VisibleElementColumn.put_dense.Goals as goal

pub returns-then-is_empty : goal.returns-then-is_empty
returns-then-is_empty c = λ ns h.
    let count : c.len.result ≡ length c.args.arrays.now.ids.items = search rules in
    let none : length c.args.arrays.now.visible.items ≡ 0 = search rules in
    adds-same c.args.at _ _ c.args.array.now c.put_same.new.array (ap (λ k. replicate k 2) count ∙ flags-missing _ _ ns h none) c.put_same.ensures

pub returns-else-is_empty : goal.returns-else-is_empty
returns-else-is_empty c = λ ns h.
    let some : 0 < length c.args.arrays.now.visible.items = search rules in
    adds-same c.args.at _ _ c.args.array.now c.put_flags.new.array (ap (map (λ f. number_of_flag (Some f))) c.deref.ensures.value ∙ flags-there _ _ ns h some) c.put_flags.ensures
