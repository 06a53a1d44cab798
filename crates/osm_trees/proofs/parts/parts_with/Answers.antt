use Rattle.std.proofs.Common.{arith, subst}
use Rattle.sqlite_value.specs.Order.{Row}
use Rattle.sqlite_trees.specs.Tree.{Trees}
use Rattle.sqlite_trees.specs.View.{IsClean}
use Rattle.osm_tree_audits.specs.Finding.{Finds}
use Rattle.osm_tree_audits.proofs.Looking.{looks_then}
use Rattle.osm_trees.proofs.Looking.{same_trees}
use Rattle.osm_trees.proofs.parts.parts_with.Goals as goal

pub returns-clause-found : goal.returns-clause-found
returns-clause-found g c clean =
    let old = g.S.Store.view c.args.store.now in
    let one = g.S.Store.view c.rows_with.new.store in
    let clean_one : IsClean one = omega (arith, clean, c.rows_with-2.ensures.looks.quiet.clean) in
    let reads = c.rows_with.ensures.looks.reads clean_one (c.in_ok-tags.ensures.sound clean_one) in
    (c.in_ok-tags.ensures.rows clean_one, subst (λ (trees : Trees). Finds (λ (r : Row). r) trees 7 6 3 c.args.key.now c.in_ok-links.links.items) (same_trees old one reads) (c.in_ok-links.ensures.rows clean))

pub returns-clause-looks : goal.returns-clause-looks
returns-clause-looks g c =
    looks_then g.S.Store _ _ _ c.rows_with.ensures.looks
    c.rows_with-2.ensures.looks

pub returns-in_err-links-clause-looks : goal.returns-in_err-links-clause-looks
returns-in_err-links-clause-looks g c =
    looks_then g.S.Store _ _ _ c.rows_with.ensures.looks
    c.rows_with-2.ensures.looks
