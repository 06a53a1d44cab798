-- What a crash leaves of a store that is being made is no store, or one that holds no blob.
use Rattle.std.proofs.Common.{◌≡◌, ◌⊎◌, [], refl, subst, inl, inr}
use Rattle.std.specs.FinMap.{empty}
use Rattle.sqlite_disk.specs.declared.Disk.{Ghosts}
use Rattle.sqlite_wal.proofs.LogLemmas.{SeenMayStay}
use Rattle.sqlite.specs.State.{State}
use Rattle.sqlite.specs.Tree.{Trees as Database}
use Rattle.sqlite_trees.specs.Objects.{catalog_tree}
use Rattle.sqlite_trees.specs.Tree.{Trees}
use Rattle.sqlite_store.specs.declared.store.FileStore.{FileStore}
use Rattle.sqlite_store.specs.FileStore.{view, recovers}
use Rattle.osm_rows.specs.declared.schema.layout.Layout.TheVariants.{Tables}
use Rattle.osm_rows.specs.LayoutHolding.{TablesHold, Holds}
use Rattle.osm_rows.specs.StoreLaws.{IsSettled, leaves_held, leaves_held_alone}
use Rattle.osm_rows.proofs.MapLemmas.OneMore.{nothing_kept}
use Rattle.osm_tree_writes.proofs.Obeying.{trees_of}
use Rattle.osm_trees.specs.Below.{HoldsBelow}
use Rattle.osm_import.specs.Files.{AreFrames}
use Rattle.osm_restarts.specs.Left.{GoesOn, IsReopened}
use Rattle.osm_restarts.proofs.Events.{goes_on}
use Rattle.osm_restarts.proofs.Held.{left, may_be_left, left_lists, holds_left}

-- of a store that holds no blob a crash leaves the rows of no blob
pub leaves_nothing : (s : State) → Holds Tables s empty → IsSettled s → (db : Database) → s.may_leave db → TablesHold Tables empty db
leaves_nothing s holds settles db may =
    let l = leaves_held Tables s empty holds settles db may in
    let same = leaves_held_alone Tables s empty holds settles l.0 (record { kept = l.1; trees = db; left = may; tables = l.2 }) in
    subst (λ map. TablesHold Tables map db) same l.2

pub begins : {D : Type 0} {g : Ghosts D} {E : Type 0} {h : Ghosts E} → SeenMayStay h → (it : FileStore D g) (after : FileStore E h) → IsReopened it after
    → ((db : Trees) → recovers it db → (db catalog_tree ≡ []) ⊎ TablesHold Tables empty db) → (frames : _) → AreFrames frames → GoesOn frames [] empty after
begins stays it after again leaves frames whole =
    let v = view after in
    let image = again.image in
    let crash = again.crashed in
    let opened = again.opened in
    let db = left it v crash.plain image crash.left opened.reads opened.listed in
    let holds : HoldsBelow Tables v empty = elim (leaves db (may_be_left it v crash.plain image crash.left opened.reads opened.listed)) [
      | inl none ↦ absurd (left_lists it v crash.plain image crash.left opened.reads opened.listed none)
      | inr tables ↦ holds_left it v crash.plain image crash.left opened.reads opened.listed opened.clean opened.unbroken opened.settled empty (nothing_kept Tables) (trees_of Tables empty db tables)
    ] in
    goes_on stays after frames [] empty whole tt refl holds
