use Rattle.std.proofs.Common.{rules, ◌≡◌, ◌<◌, ◌∙◌, ap, sym, length, replicate, negsuc, arith}
use Rattle.osm_columns.proofs.AddLemmas.{adds-same, none-or-some}
use Rattle.osm_columns.proofs.DenseLemmas.{versions-there, versions-missing}
use Rattle.osm_columns.proofs.numbers.VersionsElementColumn.put_dense.Goals as goal

pub returns : goal.returns
returns c = λ ns h.
    let count : c.len.result ≡ length c.args.arrays.now.ids.items = search rules in
    none-or-some c.deref.result.now c.args.at _ c.args.array.now c.put_items_or_same.new.array
    (λ none. adds-same c.args.at _ _ c.args.array.now c.put_items_or_same.new.array (ap (λ k. replicate k (negsuc 0)) count ∙ versions-missing _ _ ns h (sym (ap length c.deref.ensures.value) ∙ none)) (c.put_items_or_same.ensures.same none))
    (λ some. adds-same c.args.at _ _ c.args.array.now c.put_items_or_same.new.array (c.deref.ensures.value ∙ versions-there _ _ ns h (let there : 0 < length c.args.arrays.now.versions.items = omega (arith, ap length c.deref.ensures.value) in there)) (c.put_items_or_same.ensures.items some))
