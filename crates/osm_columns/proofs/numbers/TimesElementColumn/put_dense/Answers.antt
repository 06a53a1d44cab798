use Rattle.std.proofs.Common.{rules, ◌≡◌, ◌<◌, ◌∙◌, ap, length, map, replicate, true, FitsSigned, w32}
use Rattle.std.specs.List.{list_all}
use Rattle.std.proofs.lemmas.Int.{to_z-of_z}
use Rattle.osm_value.specs.Ranges.{is_wide}
use Rattle.osm_block.specs.Block.{time}
use Rattle.osm_block.proofs.IndexesLemmas.{and_left, and_right}
use Rattle.osm_columns.specs.Values.{no_long}
use Rattle.osm_columns.proofs.AddLemmas.{adds-same}
use Rattle.osm_columns.proofs.DenseLemmas.{times-there, times-missing}
use Rattle.osm_columns.proofs.numbers.TimesElementColumn.put_dense.Goals as goal

pub returns-then-is_empty : goal.returns-then-is_empty
returns-then-is_empty c = λ ns h.
    let count : c.len.result ≡ length c.args.arrays.now.ids.items = search rules in
    let none : length c.args.arrays.now.timestamps.items ≡ 0 = search rules in
    adds-same c.args.at _ _ c.args.array.now c.put_same.new.array (ap (λ k. replicate k no_long) count ∙ times-missing _ _ ns h none) c.put_same.ensures

pub returns-else-is_empty : goal.returns-else-is_empty
returns-else-is_empty c = λ ns h.
    let date : FitsSigned w32 c.args.scale.now.date_granularity = search rules in
    let put = simp to_z-of_z at c.put_times.ensures in
    let some : 0 < length c.args.arrays.now.timestamps.items = search rules in
    adds-same c.args.at _ _ c.args.array.now c.put_times.new.array (ap (map (time c.args.scale.now.date_granularity)) c.deref.ensures.value ∙ times-there _ _ ns h some) put

pub put_times-requires-clause-in_range : goal.put_times-requires-clause-in_range
put_times-requires-clause-in_range c =
    let date : FitsSigned w32 c.args.scale.now.date_granularity = search rules in
    let ready : list_all (λ t. is_wide (time c.args.scale.now.date_granularity t)) c.args.arrays.now.timestamps.items ≡ true = and_right _ _ (and_left _ _ (and_left _ _ (and_right _ _ c.requires.held.1.ready.in_range))) in
    simp to_z-of_z (rw c.deref.ensures.value ready)
