use Rattle.std.proofs.Common.{arith, ◌≡◌, ◌∙◌, List, Bool, IsTrue, Contains, sym, subst}
use Rattle.std.specs.Prelude.{◌↔◌}
use Rattle.std.proofs.lemmas.Result.{on_ok_weaker}
use Rattle.sqlite_value.specs.Order.{Row}
use Rattle.sqlite_trees.specs.Tree.{order_of, from_key}
use Rattle.sqlite_trees.specs.View.{IsClean, IsShaped}
use Rattle.sqlite_exec.specs.Loops.{left_of}
use Rattle.sqlite_exec.proofs.CheckLemmas as lemma
use Rattle.osm_rows.proofs.AuditLemmas.Telling.{ok_told}
use Rattle.osm_tree_audits.specs.Walking.{IsNext}
use Rattle.osm_tree_audits.proofs.Walks.{among_sought}
use Rattle.osm_tree_audits.proofs.indexes.seek_is.Goals as goal

pub returns-clause-told : goal.returns-clause-told
returns-clause-told g c =
    let Next = λ (told : Bool). IsClean (g.S.Store.view c.next_is.new.store) → IsTrue told ↔ IsNext (g.S.Store.view c.seek.new.self) c.args.entry.now in
    let Has = λ (told : Bool). IsClean (g.S.Store.view c.next_is.new.store) → IsTrue told ↔ Contains ((g.S.Store.view c.args.store.now).trees c.args.tree) c.args.entry.now in
    ok_told {A = Next} {B = Has} _ (λ b next clean.
    let old = g.S.Store.view c.args.store.now in
    let entries = old.trees c.args.tree in
    let clean_1 : IsClean (g.S.Store.view c.seek.new.self) = omega (arith, clean, c.next_is.ensures.looks.quiet.clean) in
    let clean_0 : IsClean old = omega (arith, clean_1, c.seek.ensures.quiet.clean) in
    let sought : left_of (g.S.Store.view c.seek.new.self) 1 ≡ from_key (order_of (old.shape c.args.tree)) c.args.entry.now entries = rw (c.in_default.ensures.ok clean_1) (lemma.placed old 1 _) in
    let ordered = subst (λ x. IsShaped x entries) (c.requires clean_0) (g.met.S.Store.ordered c.args.store.now (c.in_default.ensures.sound clean_1) c.args.tree) in
    let is = next clean in (
      (λ yes. let there = is.0 yes in lemma.head_is_there _ c.args.entry.now entries there.0 c.args.entry.now (sym sought ∙ there.1)),
      (λ there. let first = lemma.found_first _ c.args.entry.now entries ordered there in is.1 (first.0, sought ∙ first.1)),
    )) c.next_is.ensures.told

pub returns-clause-left : goal.returns-clause-left
returns-clause-left g c =
    on_ok_weaker c.next_is.result (λ left clean x there.
    let old = g.S.Store.view c.args.store.now in
    let clean_1 : IsClean (g.S.Store.view c.seek.new.self) = omega (arith, clean, c.next_is.ensures.looks.quiet.clean) in
    let sought : left_of (g.S.Store.view c.seek.new.self) 1 ≡ from_key (order_of (old.shape c.args.tree)) c.args.entry.now (old.trees c.args.tree) = rw (c.in_default.ensures.ok clean_1) (lemma.placed old 1 _) in
    among_sought _ c.args.entry.now (old.trees c.args.tree) x (subst (λ (l : List Row). Contains l x) sought (left clean x there))) c.next_is.ensures.left
