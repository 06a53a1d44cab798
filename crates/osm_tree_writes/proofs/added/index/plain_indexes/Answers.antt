use Rattle.std.proofs.Common.{◌≡◌, ◌∙◌, ◌<◌, length, false, sym, arith}
use Rattle.osm_tree_writes.specs.Added as spec
use Rattle.osm_tree_writes.proofs.Telling.{told_more, told_still}
use Rattle.osm_tree_writes.proofs.added.index.plain_indexes.Goals.{in-Some+in_ok-push-in-Some, in-None+else-is_on_a_store}
use Rattle.osm_tree_writes.proofs.added.index.plain_indexes.Goals as goal

pub loop-row-preserved : goal.loop-row-preserved
loop-row-preserved c =
    let at = c.loop-row.row-index in
    let rows = c.args.rows.now in
    let row = c.row-item.result in
    let within : at < length rows = omega arith in
    elim c.match-branch-2.branch [
      | in-Some+in_ok-push-in-Some w ↦
          rw (w.indexes-is, w.in_ok-push-in-Some.ensures.items)
          (told_more c.loop-row.indexes.items w.in-Some.index rows at row within c.row-item.is (sym c.in_ok-index.ensures ∙ w.in-Some.is) c.loop-row.invariant)
      | in-None+else-is_on_a_store w ↦
          let off : spec.is_on_a_store row ≡ false = let no = w.if-is_on_a_store.false in let same = w.is_on_a_store.ensures in cc in
          rw w.indexes-is (told_still c.loop-row.indexes.items rows at row within c.row-item.is (sym c.in_ok-index.ensures ∙ w.in-None.is) off c.loop-row.invariant)
    ]
