use Rattle.std.proofs.Common.{◌≡◌, ap, subst}
use Rattle.sqlite_value.specs.Keys.{plain}
use Rattle.sqlite_trees.specs.Tree.{from_key}
use Rattle.sqlite_trees.specs.View.{View}
use Rattle.sqlite_exec.specs.Loops.{left_of}
use Rattle.osm_tree_audits.specs.ElementTables.{index_of, table_of, width_of}
use Rattle.osm_tree_audits.proofs.Reaching.{begins_with}
use Rattle.osm_tree_audits.proofs.ways.begin_by_index.Goals as goal

pub returns-clause-all : goal.returns-clause-all
returns-clause-all g c clean =
    let of = c.args.of in
    let key = c.args.key.now in
    let old = g.S.Store.view c.args.store.now in
    let new = g.S.Store.view c.begin_walk.new.store in
    let trees : new.trees ≡ old.trees = ap (λ (v : View). v.trees) (c.begin_walk.ensures.looks.reads clean (c.in_ok-begin_walk.ensures.ready.sound clean)) in
    let placed = subst (λ t. left_of new 0 ≡ from_key plain key (old.trees t)) c.index.ensures (c.in_ok-begin_walk.ensures.placed clean) in
    begins_with old new (index_of of) (table_of of) (width_of of) key trees placed
