use Rattle.std.proofs.Common.{rules, ◌≡◌, ◌∙◌, ap, length, replicate}
use Rattle.osm_columns.proofs.AddLemmas.{adds-same}
use Rattle.osm_columns.proofs.DenseLemmas.{kinds-of}
use Rattle.osm_columns.proofs.numbers.KindsElementColumn.put_dense.Goals as goal

pub returns : goal.returns
returns c = λ ns h.
    let count : c.len.result ≡ length c.args.arrays.now.ids.items = search rules in
    adds-same c.args.at _ _ c.args.array.now c.put_same.new.array (ap (λ k. replicate k 0) count ∙ kinds-of _ _ ns h) c.put_same.ensures
