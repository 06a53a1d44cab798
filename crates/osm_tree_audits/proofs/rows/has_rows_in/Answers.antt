use Rattle.std.proofs.Common.{rules, arith, ◌≡◌, ◌∙◌, pos, [], ◌∷◌, sym, ap, subst}
use Rattle.sqlite_value.specs.declared.value.Value.TheVariants.{Int}
use Rattle.sqlite_value.specs.Keys.{plain}
use Rattle.sqlite_trees.specs.declared.store.Shape.TheVariants.{Table, Index}
use Rattle.sqlite_trees.specs.View.{IsClean, IsShaped}
use Rattle.osm_rows.proofs.AuditLemmas.Telling.{iff_then, ok_told}
use Rattle.osm_tree_audits.specs.ElementTables.{index_of, table_of, width_of}
use Rattle.osm_tree_audits.specs.Finding.{Finds}
use Rattle.osm_tree_audits.specs.Walking.{all_reached, reached_by}
use Rattle.osm_tree_audits.proofs.AtOffset.{rows_told}
use Rattle.osm_tree_audits.proofs.Looking.{up_before}
use Rattle.osm_tree_audits.proofs.Orders.{same_all}
use Rattle.osm_tree_audits.proofs.rows.has_rows_in.Goals as goal

pub returns-clause-told : goal.returns-clause-told
returns-clause-told g c clean indexed in_order =
    let of = c.args.of in
    let old = g.S.Store.view c.args.store.now in
    let begun = g.S.Store.view c.begin.new.store in
    let clean_1 : IsClean begun = omega (arith, clean, c.finds_each.ensures.looks.quiet.clean) in
    let kept = c.begin.ensures.looks.reads clean_1 (c.in_ok-way.ensures.ready.sound clean_1) in
    let sorted = g.met.S.Store.ordered c.args.store.now (up_before old begun kept (c.in_ok-way.ensures.ready.sound clean_1)) in
    let shaped : old.shape c.table.result ≡ Table = search rules in
    let table : old.shape (table_of of) ≡ Table = subst (λ t. old.shape t ≡ Table) c.table.ensures shaped in
    let ordered : old.shape c.index.result ≡ Index plain = search rules in
    let order : old.shape (index_of of) ≡ Index plain = subst (λ t. old.shape t ≡ Index plain) c.index.ensures ordered in
    let walk = c.in_ok-way.ensures.walk clean_1 in_order in
    let key = Int (pos c.args.off) ∷ [] in
    let is_key : c.in_ok-key.key ≡ key = c.in_ok-key.ensures in
    let rows = reached_by c.in_ok-way.way begun of c.in_ok-key.key in
    let finds : Finds (λ r. r) old.trees (index_of of) (table_of of) (width_of of) key rows = record {
      shaped = subst (λ s. IsShaped s (old.trees (table_of of))) table (sorted (table_of of));
      ordered = subst (λ s. IsShaped s (old.trees (index_of of))) order (sorted (index_of of));
      are = c.in_ok-way.ensures.all clean_1 in_order ∙ ap (all_reached old.trees of) is_key ∙ sym (same_all _);
    } in
    ok_told c.finds_each.result (λ b told. iff_then (told clean walk) (rows_told old.trees indexed c.args.off c.args.elements.now rows of finds)) c.finds_each.ensures.told
