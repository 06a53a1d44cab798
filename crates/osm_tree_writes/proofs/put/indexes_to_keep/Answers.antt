use Rattle.std.proofs.Common.{◌∙◌, sym, subst}
use Rattle.sqlite_trees.specs.Objects.{catalog_tree}
use Rattle.osm_tree_writes.specs.Appending.{RiseFrom}
use Rattle.osm_tree_writes.proofs.ToKeep.{refused_alike, indexes_alike}
use Rattle.osm_tree_writes.proofs.put.indexes_to_keep.Goals.{else-has_tables-via-then-has_tables+else-has_more, else-has_tables-via-else-has_tables}
use Rattle.osm_tree_writes.proofs.put.indexes_to_keep.Goals as goal

pub returns-in_default-clause-none : goal.returns-in_default-clause-none
returns-in_default-clause-none g c clean takes =
    let rows = (g.S.Store.view c.args.store.now).trees catalog_tree in
    let same = refused_alike rows c.in_ok-objects.objects.items c.as_slice.result.now c.as_slice.ensures.value (c.in_ok-objects.ensures clean) in
    sym takes.kept ∙ sym same ∙ (rw c.in_default.is at c.in_ok-more.ensures)

pub returns-then-has_more-clause-all : goal.returns-then-has_more-clause-all
returns-then-has_more-clause-all g c clean =
    let rows = (g.S.Store.view c.args.store.now).trees catalog_tree in
    let same = refused_alike rows c.in_ok-objects.objects.items c.as_slice.result.now c.as_slice.ensures.value (c.in_ok-objects.ensures clean) in
    let told = rw c.in-Some.is at c.in_ok-more.ensures in
    (sym same ∙ told.0, told.1 ∙ indexes_alike rows c.in_ok-objects.objects.items c.as_slice.result.now c.as_slice.ensures.value (c.in_ok-objects.ensures clean))

pub returns-clause-none : goal.returns-clause-none
returns-clause-none g c clean takes =
    let rows = (g.S.Store.view c.args.store.now).trees catalog_tree in
    let shapes = (g.S.Store.view c.args.store.now).shape in
    let told = rw c.in-Some.is at c.in_ok-more.ensures in
    let more = told.1 ∙ indexes_alike rows c.in_ok-objects.objects.items c.as_slice.result.now c.as_slice.ensures.value (c.in_ok-objects.ensures clean) in
    elim c.else-has_tables.branch [
      | else-has_tables-via-then-has_tables+else-has_more w ↦
          let rise = subst (RiseFrom shapes 9) (sym (w.as_slice-then-has_tables.ensures.value ∙ more)) takes.more in
          absurd (let yes_it = w.has_more.ensures.1 rise in let no = w.if-has_more.false in cc)
      | else-has_tables-via-else-has_tables w ↦ absurd (let yes_it = c.has_tables.ensures.1 takes.store in let no = w.if-has_tables.false in cc)
    ]
