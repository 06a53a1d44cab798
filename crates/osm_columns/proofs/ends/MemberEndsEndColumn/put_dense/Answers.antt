use Rattle.std.proofs.Common.{rules, ◌≡◌, ◌∙◌, length, map, replicate, sum, ap, sym, arith}
use Rattle.osm_columns.proofs.AddLemmas.{adds-same}
use Rattle.osm_columns.proofs.DenseLemmas.{node-count, sums-of-none, sum-of-none}
use Rattle.osm_columns.proofs.ends.MemberEndsEndColumn.put_dense.Goals as goal

pub returns-clause-end : goal.returns-clause-end
returns-clause-end c = λ ns h.
    let none : sum (map (λ n. 0) ns) ≡ 0 = sum-of-none ns in
    omega arith

pub returns-clause-column : goal.returns-clause-column
returns-clause-column c = λ ns h.
    let count : c.len.result ≡ length c.args.arrays.now.ids.items = search rules in
    adds-same c.args.at _ _ c.args.ends.now c.put_same.new.array (ap (λ k. replicate k c.args.end) (count ∙ sym (node-count _ _ ns h)) ∙ sym (sums-of-none c.args.end ns)) c.put_same.ensures
