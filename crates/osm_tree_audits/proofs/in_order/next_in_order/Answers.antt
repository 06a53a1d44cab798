use Rattle.std.proofs.Common.{◌≡◌, ◌∙◌, ◌∷◌, map, drop, filter, sym, ap, ap₂, subst}
use Rattle.sqlite_value.specs.Order.{column, value_cmp}
use Rattle.sqlite_value.specs.Keys.{plain, prefix_cmp}
use Rattle.sqlite_trees.specs.Tree.{IsIndex}
use Rattle.sqlite_sql.specs.Catalog.{entry_of}
use Rattle.sqlite_exec.specs.Loops.{left_of}
use Rattle.sqlite_exec.proofs.CheckLemmas.{stepped}
use Rattle.osm_tree_audits.specs.ElementTables.{key_of}
use Rattle.osm_tree_audits.specs.Finding.{starts}
use Rattle.osm_tree_audits.proofs.InOrder.{by_first, none_found, one_found, one_value}
use Rattle.osm_tree_audits.proofs.in_order.next_in_order.Goals as goal

pub returns-in-Greater-clause-told : goal.returns-in-Greater-clause-told
returns-in-Greater-clause-told g c clean of in_order =
    let cs = key_of of in
    let key = c.args.key.now in
    let row = c.next.new.row in
    let left = left_of (g.S.Store.view c.next.new.self) 1 in
    let step : left_of (g.S.Store.view c.args.store.now) 1 ≡ row ∷ left = stepped _ _ 1 row (rw c.in-Ok-true.field-0-test at (c.in-Ok-true.ensures.ok clean)) in
    let above : prefix_cmp plain (entry_of cs row) key ≡ _ = ap (prefix_cmp plain (entry_of cs row)) (one_value key c.requires.one) ∙ by_first of row (column key 0) ∙ ap₂ value_cmp (sym c.get.ensures) (sym c.get-2.ensures) ∙ sym c.compare.ensures ∙ c.in-Greater.is in
    ap (λ l. map (drop 1) (filter (λ r. starts key (entry_of cs r)) l)) step ∙ none_found cs key row left (subst (λ l. IsIndex plain (map (entry_of cs) l)) step in_order) above

pub returns-in-Equal-clause-told : goal.returns-in-Equal-clause-told
returns-in-Equal-clause-told g c clean of in_order =
    let cs = key_of of in
    let key = c.args.key.now in
    let row = c.next.new.row in
    let left = left_of (g.S.Store.view c.next.new.self) 1 in
    let step : left_of (g.S.Store.view c.args.store.now) 1 ≡ row ∷ left = stepped _ _ 1 row (rw c.in-Ok-true.field-0-test at (c.in-Ok-true.ensures.ok clean)) in
    let tied : prefix_cmp plain (entry_of cs row) key ≡ _ = ap (prefix_cmp plain (entry_of cs row)) (one_value key c.requires.one) ∙ by_first of row (column key 0) ∙ ap₂ value_cmp (sym c.get.ensures) (sym c.get-2.ensures) ∙ sym c.compare.ensures ∙ c.in-Equal.is in
    ap (λ l. map (drop 1) (filter (λ r. starts key (entry_of cs r)) l)) step ∙ one_found cs key row left tied
