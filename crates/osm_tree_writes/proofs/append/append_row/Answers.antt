use Rattle.std.proofs.Common.{◌≡◌, ◌∙◌, ℕ, false, ap, sym, subst, refl, arith}
use Rattle.std.proofs.lemmas.Result.{on_ok_weaker}
use Rattle.sqlite_trees.specs.declared.store.Shape.{Shape}
use Rattle.sqlite_trees.specs.declared.store.Shape.TheVariants.{Table}
use Rattle.sqlite_trees.specs.View.{View, IsClean, IsShaped}
use Rattle.osm_tree_writes.proofs.AppendLemmas.{EntersOther, appended_more, appended_row}
use Rattle.osm_tree_writes.proofs.append.append_row.Goals.{in-Some+in_ok-put_entry-2, in_default}
use Rattle.osm_tree_writes.proofs.append.append_row.Goals as goal

pub returns-clause-appended : goal.returns-clause-appended
returns-clause-appended g c =
    let table = c.args.table.now in
    let row = c.args.row.now in
    let old = g.S.Store.view c.args.store.now in
    let put = g.S.Store.view c.put_table_row.new.store in
    let keyed = g.S.Store.view c.put_entry.new.store in
    let mid = g.S.Store.view c.match-table.store in
    let new = g.S.Store.view c.put_entries.new.store in
    on_ok_weaker c.put_entries.result (λ goes clean next columns is after.
    let clean_mid : IsClean mid = omega (arith, clean, c.put_entries.ensures.harmless.quiet.clean) in
    let entered : IsClean keyed × (mid.shape ≡ keyed.shape) × EntersOther table.by_id row keyed mid = elim c.match-table.branch [
      | in-Some+in_ok-put_entry-2 w ↦ (
          let last = g.S.Store.view w.put_entry-in-Some.new.store in
          let same : mid ≡ last = ap g.S.Store.view w.store-is in
          let clean_last : IsClean last = subst IsClean same clean_mid in
          let clean_keyed : IsClean keyed = omega (arith, clean_last, w.put_entry-in-Some.ensures.harmless.quiet.clean) in (
            clean_keyed,
            ap (λ (v : View). v.shape) same ∙ w.put_entry-in-Some.ensures.harmless.schema.shape,
            subst (λ (v : View). EntersOther table.by_id row keyed v) (sym same) (subst (λ o. EntersOther o row keyed last) (sym w.in-Some.is) (w.in_ok-put_entry-2.ensures.ok clean_last)),
          ))
      | in_default w ↦ (
          let same : mid ≡ keyed = ap g.S.Store.view w.store-is in (
            subst IsClean same clean_mid,
            ap (λ (v : View). v.shape) same,
            subst (λ (v : View). EntersOther table.by_id row keyed v) (sym same) (subst (λ o. EntersOther o row keyed keyed) (sym w.in_default.is) refl),
          ))
    ] in
    let clean_keyed = entered.0 in
    let clean_put : IsClean put = omega (arith, clean_keyed, c.put_entry.ensures.harmless.quiet.clean) in
    let clean_old : IsClean old = omega (arith, clean_put, c.put_table_row.ensures.harmless.quiet.clean) in
    let puts = c.in_ok-put_table_row.ensures.ok clean_put in
    let shaped_old : IsShaped Table (old.trees table.tree) = subst (λ s. IsShaped s (old.trees table.tree)) (c.requires.shaped clean_old).0 (g.met.S.Store.ordered c.args.store.now puts.sound table.tree) in
    let own = appended_row table row next columns old put keyed mid c.requires.apart is shaped_old after puts (c.in_ok-put_entry.ensures.ok clean_keyed) entered.2 in
    let up : mid.is_broken ≡ false = ap (λ (v : View). v.is_broken) own.0.rest ∙ own.0.sound in
    let shapes : mid.shape ≡ old.shape = entered.1 ∙ c.put_entry.ensures.harmless.schema.shape ∙ c.put_table_row.ensures.harmless.schema.shape in
    let shape : mid.shape table.tree ≡ Table = ap (λ (f : ℕ → Shape). f table.tree) shapes ∙ (c.requires.shaped clean_old).0 in
    let shaped : IsShaped Table (mid.trees table.tree) = subst (λ s. IsShaped s (mid.trees table.tree)) shape (g.met.S.Store.ordered c.match-table.store up table.tree) in
    appended_more table c.args.more.now row columns old mid new c.requires.apart_of (subst (IsShaped Table) own.1 shaped) own.0 own.1 (goes clean)) c.put_entries.ensures.ok
