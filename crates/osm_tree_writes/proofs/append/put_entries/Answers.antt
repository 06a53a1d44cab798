use Rattle.std.proofs.Common.{List, ap, ◌<◌, ◌+◌, ◌∙◌, rules, arith, length, drop}
use Rattle.sqlite_schema.specs.declared.schema.Index.{Index}
use Rattle.osm_tree_writes.specs.Appending.{with_entries}
use Rattle.osm_tree_writes.proofs.AppendLemmas.{next_index, with_entry, without_entry}
use Rattle.osm_tree_writes.proofs.append.put_entries.Goals.{then-index-table+in_ok-put_entry_of, else-index-table}
use Rattle.osm_tree_writes.proofs.append.put_entries.Goals as goal

pub loop-index-preserved : goal.loop-index-preserved
loop-index-preserved g c =
    let at = c.loop-index.index-index in
    let within : at < length c.args.more.now = omega arith in
    let db = (g.S.Store.view c.loop-index.store).trees in
    let row = c.args.row.now in
    let later = drop (at + 1) c.args.more.now in
    let index = c.index-item.result in
    let step = ap (λ (is : List Index). with_entries c.args.table row is db) (next_index c.args.more.now at index within c.index-item.is) in
    elim c.if-index-table.branch [
      | then-index-table+in_ok-put_entry_of w ↦ (
        rw w.store-is (λ clean.
            rw (w.in_ok-put_entry_of.ensures.ok clean).is
            (with_entry c.args.table row index later db w.if-index-table.true ∙ (rw step at (c.loop-index.invariant.0 (omega (arith, clean, w.put_entry_of.ensures.harmless.quiet.clean)))))),
        search rules,
        search rules,
        search rules,
      )
      | else-index-table w ↦ (rw w.store-is (λ clean. without_entry c.args.table row index later db w.if-index-table.false ∙ (rw step at (c.loop-index.invariant.0 clean))), search rules, search rules, search rules)
    ]
