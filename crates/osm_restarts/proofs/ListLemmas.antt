-- What a crash leaves of a store lists what the store lists.
use Rattle.std.proofs.Common.{List, inl, subst, sym}
use Rattle.sqlite_disk.specs.declared.Disk.{Ghosts}
use Rattle.sqlite_value.specs.Order.{Row}
use Rattle.sqlite_wal.proofs.LogLemmas.{SeenMayStay}
use Rattle.sqlite_trees.specs.Objects.{catalog_tree}
use Rattle.sqlite_store.specs.declared.store.FileStore.{FileStore}
use Rattle.sqlite_store.specs.FileStore.{view, recovers}
use Rattle.sqlite_store.specs.Laws.{settled_at, shut_is_broken}
use Rattle.osm_rows.specs.declared.schema.layout.Layout.TheVariants.{Tables}
use Rattle.osm_rows.specs.Held.{HeldMap}
use Rattle.osm_trees.specs.Below.{HoldsBelow, ListsAlways}
use Rattle.osm_trees.specs.Reading.{lists_always}
use Rattle.osm_openings.specs.Asked.{IsFoundAgain}
use Rattle.osm_restarts.specs.Left.{MayBeOpened}
use Rattle.osm_restarts.proofs.PremiseLemmas.{left_may_be_opened}

-- where it holds a map
pub lists_still : {D : Type 0} {g : Ghosts D} → SeenMayStay g → (it : FileStore D g) (held : HeldMap) → HoldsBelow Tables (view it) held → ListsAlways (view it) (recovers it) ((view it).trees catalog_tree)
lists_still stays it held holds = lists_always (view it) (recovers it) holds.unbroken holds.settled (settled_at it stays) (shut_is_broken it)

-- and if an opening finds that again, what is left may be opened
pub listed_opens : {D : Type 0} {g : Ghosts D} (it : FileStore D g) (rows : List Row) → ListsAlways (view it) (recovers it) rows → IsFoundAgain rows → MayBeOpened it
listed_opens it rows lists found clean image crash = left_may_be_opened it crash.plain (λ db left. inl (subst IsFoundAgain (sym (lists.left db left)) found)) image crash.left
