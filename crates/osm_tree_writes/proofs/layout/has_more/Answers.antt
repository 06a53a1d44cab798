use Rattle.std.proofs.Common.{◌<◌, ◌≤◌, ◌+◌, length, drop, sym, subst, arith, rules}
use Rattle.std.proofs.lemmas.List.{drop_all}
use Rattle.osm_tree_writes.specs.Appending.{RiseFrom}
use Rattle.osm_tree_writes.proofs.AppendLemmas.{next_index}
use Rattle.osm_tree_writes.proofs.layout.has_more.Goals as goal

pub loop-index-preserved : goal.loop-index-preserved
loop-index-preserved g c =
    let at = c.loop-index.index-index in
    let shapes = (g.S.Store.view c.args.store.now).shape in
    let within : at < length c.args.more.now = omega arith in
    let left = drop (at + 1) c.args.more.now in
    let more = next_index c.args.more.now at c.index-item.result within c.index-item.is in
    let facts = c.is_behind.ensures.0 c.if-not-is_behind.false in
    let it = c.loop-index.invariant in (
      λ rest. it.0 (subst (RiseFrom shapes c.loop-index.low) (sym more) (facts.0, facts.1, facts.2, facts.3, subst (λ n. RiseFrom shapes (n + 1) left) c.from-low.ensures rest)),
      λ all. subst (λ n. RiseFrom shapes (n + 1) left) (sym c.from-low.ensures) (subst (RiseFrom shapes c.loop-index.low) more (it.1 all)).4,
    )

pub returns : goal.returns
returns g c =
    let shapes = (g.S.Store.view c.args.store.now).shape in
    let past : length c.args.more.now ≤ c.loop-index.index-index = omega arith in
    (λ _. c.loop-index.invariant.0 (subst (RiseFrom shapes c.loop-index.low) (sym (drop_all c.loop-index.index-index c.args.more.now past)) tt), λ _. search rules)
