use Rattle.std.proofs.Common.{◌≡◌, ◌∙◌, [], length, map, ap, sym, arith}
use Rattle.osm_value.specs.declared.element.Element.TheVariants as elements
use Rattle.osm_columns.specs.Lists.{joined}
use Rattle.osm_columns.proofs.AddLemmas.{adds-none, adds-same}
use Rattle.osm_columns.proofs.GroupLemmas.{none-of-nodes}
use Rattle.osm_columns.proofs.list_column.put_group.Goals as goal

pub returns-in-Dense-clause-count : goal.returns-in-Dense-clause-count
returns-in-Dense-clause-count g c = λ b es h.
    let held = rw c.in-Dense.is at h in
    let none : joined (map g.L.ListColumn.items es) ≡ [] = ap (λ l. joined (map g.L.ListColumn.items l)) held.1 ∙ none-of-nodes g.L.ListColumn.items elements.Node g.met.L.ListColumn.nodes_have_none held.0 in
    let zero : length (joined (map g.L.ListColumn.items es)) ≡ 0 = ap length none in
    omega arith

pub returns-in-Dense-clause-column : goal.returns-in-Dense-clause-column
returns-in-Dense-clause-column g c = λ b es h.
    let held = rw c.in-Dense.is at h in
    let none : joined (map g.L.ListColumn.items es) ≡ [] = ap (λ l. joined (map g.L.ListColumn.items l)) held.1 ∙ none-of-nodes g.L.ListColumn.items elements.Node g.met.L.ListColumn.nodes_have_none held.0 in
    adds-same c.args.at [] _ c.args.array.now c.args.array.now (sym none) (adds-none c.args.at c.args.array.now)
