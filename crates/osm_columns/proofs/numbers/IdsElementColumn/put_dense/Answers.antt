use Rattle.std.proofs.Common.{◌∙◌}
use Rattle.osm_columns.proofs.AddLemmas.{adds-same}
use Rattle.osm_columns.proofs.DenseLemmas.{ids-of}
use Rattle.osm_columns.proofs.numbers.IdsElementColumn.put_dense.Goals as goal

pub returns : goal.returns
returns c = λ ns h. adds-same c.args.at _ _ c.args.array.now c.put_items.new.array (c.deref.ensures.value ∙ ids-of _ _ ns h) c.put_items.ensures
