-- That the files of a store meet the premise of its opening.
use Rattle.std.proofs.Common.{◌⊎◌, ◌≡◌, ◌∙◌, ◌≤◌, ◌%◌, ℕ, false, eqb, List, [], refl, sym, ap, subst, inl, inr, arith}
use Rattle.std.proofs.Math.Logic.{∥∥₁_elim, ∥∥₁_map}
use Rattle.std.proofs.lemmas.Bool.{cases_Bool, cases_eq, cond-true, cond-false, false≢true}
use Rattle.sqlite_trees.specs.declared.schema.Object.{Object}
use Rattle.sqlite_pages.specs.PageMap.{PageMap}
use Rattle.sqlite_pool.specs.File.{in_use, IsSoundFile}
use Rattle.sqlite_pool.specs.Pool as pool
use Rattle.sqlite_pool.specs.Stored.{Recovers, is_summed, reserved, stored_size}
use Rattle.sqlite_pool.specs.StoredLaws.{recovers_once}
use Rattle.sqlite_pool.proofs.ProbeLemmas.{size_by_log, size_by_file}
use Rattle.sqlite_pool.proofs.ResealLemmas.{adopts_of}
use Rattle.sqlite_wal.specs.Recovery.{Image, IsIgnored}
use Rattle.sqlite_store.specs.declared.catalog.Wanted.{Wanted}
use Rattle.sqlite_store.specs.Db.{roots_of, IsFile}
use Rattle.sqlite_disk.specs.declared.Disk.{Ghosts}
use Rattle.sqlite_trees.specs.Tree.{Trees}
use Rattle.sqlite_store.specs.declared.store.FileStore.{FileStore}
use Rattle.sqlite_store.specs.FileStore.{state, recovers, schema_in}
use Rattle.sqlite_store.specs.Listed.{catalog_rows}
use Rattle.sqlite_store.specs.Listing.{listed_from, file_trees}
use Rattle.osm_openings.specs.Asked.{ListsAsAsked, IsFoundAgain}
use Rattle.osm_openings.specs.Catalog.{listings, AreListed, StandApart}
use Rattle.osm_openings.proofs.KnownLemmas.{known_parts, none_at_zero}
use Rattle.osm_tree_writes.specs.Tables.{table_listings}
use Rattle.osm_openings.specs.Presumed.{AreSound, NamesSize, ArePresumedTables, root_order, schema_rows, other_rows, trees_in}
use Rattle.osm_restarts.specs.Left.{ListsAStore}
use Rattle.osm_restarts.proofs.FoundLemmas.{file_found}
use Rattle.osm_restarts.proofs.SchemaLemmas.{Relisting, HasOnly, object_real}
use Rattle.osm_restarts.proofs.MovedLemmas.{relisted}
use Rattle.osm_restarts.proofs.ObjectLemmas.{have_pages, names_apart, only_own}
use Rattle.osm_restarts.proofs.ToldLemmas.{only_told_own, only_told_other, asked_told_own, asked_told_other}

-- the files of pages with no sums name the size of the pages
no_sum : (size : ℕ) → is_summed size ≡ false → stored_size size ≡ size
no_sum size plain = elim (cases_Bool (eqb (size % 16) 8)) [
  | inl eight ↦ absurd (false≢true (sym plain ∙ ap (λ n. eqb n 8) (cond-true (eqb (size % 16) 8) 8 0 eight)))
  | inr other ↦ let none : reserved size ≡ 0 = cond-false (eqb (size % 16) 8) 8 0 other in omega (arith, none)
]

one_size : (image : Image) (size other : ℕ) (pages : PageMap) → Recovers size image pages → 504 ≤ size → is_summed size ≡ false → IsSoundFile size pages → NamesSize image other → other ≡ size
one_size image size other pages found large plain sound names =
    let adopted = adopts_of size image pages found in
    let whole = no_sum size plain in
    elim (cases_eq other size) [
      | inl same ↦ same
      | inr apart ↦
          let unread = λ (read : ¬ IsIgnored image.log). apart (names.by_log read ∙ size_by_log size image pages adopted read ∙ whole) in
          absurd (unread (λ ignored. apart (names.by_file ignored ∙ size_by_file size image pages adopted large sound ignored ∙ whole)))
    ]

-- what is known of the rows of a file of a schema
abbrev Known : List Object → ℕ → List Wanted → PageMap → Type 0
Known objects size schema pages = Relisting (root_order (schema_rows size pages) (in_use size pages)) objects (schema_rows size pages) schema

-- where the schema has these objects and nothing else
known_alone : (objects : List Object) → listings 0 objects ≡ table_listings → (size : ℕ) (schema : List Wanted) (pages : PageMap) → HasOnly objects schema → IsFile size schema pages
    → AreListed objects (schema_rows size pages) → StandApart objects (other_rows objects size pages) (schema_rows size pages) → Known objects size schema pages
known_alone objects are size schema pages only file listed apart =
    let known = known_parts schema (schema_rows size pages) file.db.known in
    record {
      listed = listed;
      apart = apart;
      sized = have_pages objects are;
      named = names_apart objects are;
      known = known;
      told_own = only_told_own known only (names_apart objects are) (λ t o row at h. object_real o row (have_pages objects are t o at) h);
      told_other = λ k row at foreign real. only_told_other known only (names_apart objects are) listed k row at foreign real _;
    }

-- where it has others as their rows ask
known_beside : (objects : List Object) → listings 0 objects ≡ table_listings → (size : ℕ) (schema : List Wanted) (pages : PageMap) → ListsAsAsked (listed_from 0 schema) → IsFile size schema pages
    → AreListed objects (schema_rows size pages) → StandApart objects (other_rows objects size pages) (schema_rows size pages) → Known objects size schema pages
unfolding roots_of
known_beside objects are size schema pages asked file listed apart =
    let known = known_parts schema (schema_rows size pages) file.db.known in
    record {
      listed = listed;
      apart = apart;
      sized = have_pages objects are;
      named = names_apart objects are;
      known = known;
      told_own = asked_told_own objects known are asked;
      told_other = asked_told_other objects known are asked size (in_use size pages) file.db.layouts file.db.trees (none_at_zero size pages file.sound);
    }

-- what the list says of the schema
abbrev Lists : List Wanted → Type 0
Lists schema = IsFoundAgain (listed_from 0 schema) ⊎ (listed_from 0 schema ≡ [])

-- the pages are a database of the list of trees that is made of their rows
pub sound_again : (objects : List Object) → listings 0 objects ≡ table_listings → (size : ℕ) (schema : List Wanted) (pages : PageMap) → Lists schema → IsFile size schema pages → AreSound objects size pages
sound_again objects are size schema pages (inl (inl alone)) file listed apart ordered =
    relisted objects size pages schema (known_alone objects are size schema pages (only_own objects schema are (inl alone)) file listed apart) file
sound_again objects are size schema pages (inl (inr asked)) file listed apart ordered = relisted objects size pages schema (known_beside objects are size schema pages asked file listed apart) file
sound_again objects are size schema pages (inr none) file listed apart ordered =
    relisted objects size pages schema (known_alone objects are size schema pages (only_own objects schema are (inr none)) file listed apart) file

pub presumed_again : (objects : List Object) → listings 0 objects ≡ table_listings → (image : Image) (size : ℕ) (schema : List Wanted) (pages : PageMap) → Recovers size image pages → 504 ≤ size
    → is_summed size ≡ false → Lists schema → IsFile size schema pages
    → (other : ℕ) (others : PageMap) → NamesSize image other → Recovers other image others → AreSound objects other others
presumed_again objects are image size schema pages found large plain lists file other others names again =
    let same : size ≡ other = sym (one_size image size other pages found large plain file.sound names) in
    let at = subst (λ n. Recovers n image others) (sym same) again in
    subst (λ n. AreSound objects n others) same
    (subst (AreSound objects size) (recovers_once size image pages others found at) (sound_again objects are size schema pages lists file))

module _ {D : Type 0} {g : Ghosts D} (it : FileStore D g) where
  abbrev bytes : ℕ
  bytes = (state it).page_size

  large_enough : 504 ≤ bytes
  unfolding pool.state
  large_enough = subst (λ n. 504 ≤ n) it.pool.sized it.pool.large

  -- files that a crash may leave hold a database of the schema that their pages tell
  file_left : (image : Image) → (state it).may_leave image → ∥ ((pages : PageMap) × Recovers bytes image pages × IsFile bytes (schema_in it pages) pages) ∥₁
  file_left image may = ∥∥₁_elim it.safe squash₁ (λ all. let left = all image may in ∥∥₁_map left.2 (λ ours. (left.0, left.1, ours.file)))

  pub left_may_be_opened : is_summed bytes ≡ false → ((db : Trees) → recovers it db → ListsAStore db) → (image : Image) → (state it).may_leave image → ArePresumedTables image
  left_may_be_opened plain lists image may objects are other others names again listed apart ordered =
      file_found other (trees_in objects other others) others (∥∥₁_map (file_left image may) (λ left.
      let pages = left.0 in
      let schema = schema_in it pages in
      let read = subst (λ rows. IsFoundAgain rows ⊎ (rows ≡ [])) (catalog_rows bytes schema (in_use bytes pages)) (lists (file_trees bytes schema pages) (image, pages, may, ∣ left.1 ∣₁, refl)) in
      presumed_again objects are image bytes schema pages left.1 large_enough plain read left.2 other others names again listed apart ordered))
