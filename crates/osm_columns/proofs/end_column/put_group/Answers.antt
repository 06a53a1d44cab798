use Rattle.std.proofs.Common.{◌∙◌, map, ap, sym}
use Rattle.osm_value.specs.declared.element.Element.TheVariants as elements
use Rattle.osm_columns.specs.Lists.{sums_from}
use Rattle.osm_columns.proofs.AddLemmas.{adds-same}
use Rattle.osm_columns.proofs.GroupLemmas.{mapped-twice}
use Rattle.osm_columns.proofs.end_column.put_group.Goals as goal

pub returns-in-Dense-clause-column : goal.returns-in-Dense-clause-column
returns-in-Dense-clause-column g c = λ es h.
    let held = rw c.in-Dense.is at h in
    adds-same c.args.at _ _ c.args.ends.now c.put_dense-last.new.ends (ap (sums_from c.args.end) (sym (mapped-twice elements.Node g.E.EndColumn.count held.0) ∙ sym (ap (map g.E.EndColumn.count) held.1))) (c.put_dense-last.ensures.column held.0 held.2)
