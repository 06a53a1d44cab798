-- A store that is opened after a crash has one of the maps that the crash may leave.
use Rattle.std.proofs.Common.{◌≡◌, ◌∙◌, false, [], refl, sym, subst, ap, inr}
use Rattle.std.specs.Prelude.{take}
use Rattle.std.proofs.Math.Logic.{∥∥₁_elim}
use Rattle.sqlite_disk.specs.declared.Disk.{Ghosts}
use Rattle.sqlite_wal.specs.Recovery.{Image}
use Rattle.sqlite_pages.specs.PageMap.{PageMap}
use Rattle.sqlite_pool.specs.Stored.{Recovers}
use Rattle.sqlite_trees.specs.Objects.{catalog_tree}
use Rattle.sqlite_trees.specs.Props.{Trees-set}
use Rattle.sqlite_trees.specs.Tree.{Trees}
use Rattle.sqlite_trees.specs.View.{View, IsClean}
use Rattle.sqlite_store.specs.Db.{IsFile}
use Rattle.sqlite_store.specs.Listing.{listed_from, file_trees}
use Rattle.sqlite_store.specs.declared.store.FileStore.{FileStore}
use Rattle.sqlite_store.specs.FileStore.{state, view, schema_in, reading, recovers}
use Rattle.osm_rows.specs.declared.schema.layout.Layout.TheVariants.{Tables}
use Rattle.osm_rows.specs.Held.{HeldMap}
use Rattle.osm_rows.specs.LayoutHolding.{IsKept}
use Rattle.osm_tree_writes.specs.Beside.{HasAStore}
use Rattle.osm_tree_writes.specs.Putting.{TreesHold}
use Rattle.osm_tree_writes.specs.Tables.{table_listings}
use Rattle.osm_tree_writes.proofs.Obeying.{one_map_below}
use Rattle.osm_trees.specs.Below.{HoldsBelow, LeavesAMap, MayLeave}
use Rattle.osm_openings.specs.Presumed.{ReadsAs}
use Rattle.osm_openings.proofs.OpeningLemmas.{listed_in, same_pages}
use Rattle.osm_restarts.specs.Left.{IsReopened}
use Rattle.osm_restarts.proofs.NineTrees.{own_trees, hold_again}
use Rattle.osm_restarts.proofs.NoStore.{no_store}
use Rattle.osm_restarts.proofs.OneList.{one_store}
use Rattle.osm_restarts.proofs.Sizes.{names_size}

module _ {D : Type 0} {g : Ghosts D} (it : FileStore D g) (v : View) (plain : (view it).has_sums ≡ false) (image : Image) (may : (state it).may_leave image)
    (reads : ReadsAs image v.trees) (lists : take 9 (v.trees catalog_tree) ≡ table_listings) where
  size_is : reads.size ≡ (state it).page_size
  size_is = names_size it plain image may reads.size reads.names

  found : Recovers (state it).page_size image reads.pages
  found = subst (λ n. Recovers n image reads.pages) size_is reads.found

  -- what the store that crashed reads these pages as
  abbrev pub left : Trees
  left = reading it reads.pages

  pub may_be_left : recovers it left
  may_be_left = (image, reads.pages, may, ∣ found ∣₁, refl)

  first_own : take 9 (listed_from 0 reads.schema) ≡ table_listings
  first_own = ap (take 9) (sym (listed_in reads.size reads.schema reads.pages) ∙ ap (λ (trees : Trees). trees catalog_tree) (sym reads.read)) ∙ lists

  reads_same : HasAStore Tables (left catalog_tree) → own_trees left ≡ own_trees v.trees
  reads_same listed =
      ∥∥₁_elim it.safe (Trees-set _ _) (λ all.
      let there = all image may in
      let pages : there.0 ≡ reads.pages = same_pages (state it).page_size image there.0 reads.pages there.1 found in
      ∥∥₁_elim there.2 (Trees-set _ _) (λ ours. ∥∥₁_elim reads.sound (Trees-set _ _) (λ file.
      one_store (state it).page_size (schema_in it reads.pages) reads.schema reads.pages
      (subst (λ (p : PageMap). IsFile (state it).page_size (schema_in it p) p) pages ours.file) (subst (λ n. IsFile n reads.schema reads.pages) size_is file)
      (subst (HasAStore Tables) (listed_in (state it).page_size (schema_in it reads.pages) reads.pages) listed) first_own
      ∙ ap own_trees (ap (λ n. file_trees n reads.schema reads.pages) (sym size_is) ∙ sym reads.read))))

  -- it is no database without a tree
  pub left_lists : left catalog_tree ≡ [] → ⊥
  left_lists none =
      ∥∥₁_elim it.safe (λ a. absurd a) (λ all.
      let there = all image may in
      let pages : there.0 ≡ reads.pages = same_pages (state it).page_size image there.0 reads.pages there.1 found in
      ∥∥₁_elim there.2 (λ a. absurd a) (λ ours. ∥∥₁_elim reads.sound (λ a. absurd a) (λ file.
      no_store (state it).page_size (schema_in it reads.pages) reads.schema reads.pages
      (subst (λ (p : PageMap). IsFile (state it).page_size (schema_in it p) p) pages ours.file) (subst (λ n. IsFile n reads.schema reads.pages) size_is file)
      (sym (listed_in (state it).page_size (schema_in it reads.pages) reads.pages) ∙ none) first_own)))

  module _ (clean : IsClean v) (unbroken : v.is_broken ≡ false) (settled : v.trees ≡ v.committed) where
    -- the map whose rows are left
    pub holds_left : (held : HeldMap) → IsKept Tables held → TreesHold Tables held left → HoldsBelow Tables v held
    holds_left held kept tables =
        let now = hold_again held left v.trees (reads_same tables.lists) (inr lists) tables in
        record {
          clean = clean;
          unbroken = unbroken;
          settled = settled;
          kept = kept;
          tables = now;
          only = λ other kept_too tables_too. one_map_below Tables other held v.trees kept_too kept tables_too now;
        }

  pub restart_holds : LeavesAMap (recovers it) → IsClean v → v.is_broken ≡ false → v.trees ≡ v.committed → (held : HeldMap) × MayLeave (recovers it) held × HoldsBelow Tables v held
  restart_holds leaves clean unbroken settled =
      let (held, kept, tables) = leaves left may_be_left in
      (held, record { kept = kept; trees = left; left = may_be_left; tables = tables }, holds_left clean unbroken settled held kept tables)

-- a store that was opened over what a crash left of another
pub reopened_holds : {D : Type 0} {g : Ghosts D} {E : Type 0} {h : Ghosts E} (before : FileStore D g) (after : FileStore E h) → LeavesAMap (recovers before) → IsReopened before after
    → (held : HeldMap) × MayLeave (recovers before) held × HoldsBelow Tables (view after) held
reopened_holds before after leaves again =
    let opened = again.opened in
    restart_holds before (view after) again.crashed.plain again.image again.crashed.left opened.reads opened.listed leaves opened.clean opened.unbroken opened.settled
