use Rattle.std.proofs.Common.{◌∙◌, map, ap, sym}
use Rattle.osm_value.specs.declared.element.Element.TheVariants as elements
use Rattle.osm_columns.proofs.AddLemmas.{adds-same}
use Rattle.osm_columns.proofs.GroupLemmas.{mapped-twice}
use Rattle.osm_columns.proofs.element_column.put_group.Goals as goal

pub returns-in-Dense-clause-column : goal.returns-in-Dense-clause-column
returns-in-Dense-clause-column g c = λ es h.
    let held = rw c.in-Dense.is at h in
    adds-same c.args.at _ _ c.args.array.now c.put_dense.new.array (sym (mapped-twice elements.Node g.C.ElementColumn.item held.0) ∙ sym (ap (map g.C.ElementColumn.item) held.1)) (c.put_dense.ensures held.0 held.2)
