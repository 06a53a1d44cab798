use Rattle.std.proofs.Common.{◌≡◌, true, rules, arith, FitsSigned, w64, subst}
use Rattle.std.proofs.lemmas.Int.{to_z-of_z}
use Rattle.sqlite_trees.specs.declared.store.Shape.TheVariants.{Table}
use Rattle.sqlite_trees.specs.View.{IsShaped}
use Rattle.sqlite_exec.specs.Write.{IsLast}
use Rattle.osm_tree_writes.proofs.AppendLemmas.{next_after, after_last}
use Rattle.osm_tree_writes.proofs.rowid.next_rowid.Goals as goal

pub returns-in-Int-clause-after : goal.returns-in-Int-clause-after
returns-in-Int-clause-after g c =
    let old = g.S.Store.view c.args.store.now in
    let rows = old.trees c.args.table in
    let row = c.last.new.row in
    let fits : FitsSigned w64 c.in-Int.id = search rules in
    next_after c.ok_or.result _ c.checked_add.result c.in-Int.id _ _ c.ok_or.ensures.value (rw (to_z-of_z w64 c.in-Int.id fits) at c.checked_add.ensures) (λ next is clean.
    let table : old.shape c.args.table ≡ Table = c.requires (omega (arith, clean, c.last.ensures.quiet.clean)) in
    let shaped : IsShaped Table rows = subst (λ s. IsShaped s rows) table (g.met.S.Store.ordered c.args.store.now (c.in-Ok-true.ensures.sound clean) c.args.table) in
    let last : IsLast rows row true = subst (λ b. IsLast rows row b) c.in-Ok-true.field-0-test (c.in-Ok-true.ensures.ok clean) in
    after_last rows row c.in-Int.id next shaped last c.in-Int.ensures is)
