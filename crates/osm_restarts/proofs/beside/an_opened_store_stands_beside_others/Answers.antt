use Rattle.std.proofs.Common.{sym, subst}
use Rattle.sqlite_trees.specs.Tree.{Trees}
use Rattle.sqlite_trees.specs.Objects.{catalog_tree}
use Rattle.sqlite_store.specs.FileStore.{state}
use Rattle.sqlite_store.specs.Laws.{not_broken, settled_at}
use Rattle.osm_openings.specs.Asked.{ListsAsAsked}
use Rattle.osm_restarts.proofs.beside.an_opened_store_stands_beside_others.Goals as goal

pub returns : goal.returns
returns g c unbroken settled asked =
    let it = c.args.store.now in
    let committed = subst (λ (f : Trees). ListsAsAsked (f catalog_tree)) settled asked in
    let open_now = (not_broken it.has_failed (state it).is_open unbroken).1 in
    record {
      settled = λ up sound. settled;
      committed = λ up. committed;
      left = λ db left. subst (λ (f : Trees). ListsAsAsked (f catalog_tree)) (sym (settled_at it g.met.D.Disk.seen_may_stay db open_now left)) committed;
    }
