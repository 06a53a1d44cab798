-- The list of a file's trees, as the store that is opened shows it.
use Rattle.std.proofs.Common.{◌≡◌, ◌∙◌, ◌+◌, ◌%◌, ℕ, zero, suc, pos, List, [], ◌∷◌, ◌++◌, length, map, take, refl, ap, ap₂, subst, sym, inl, inr, arith}
use Rattle.std.specs.Prelude.{Bool, true, false, slice_get, Option, Some, None, Result, Ok, Err, IsTrue, IfSome, IfOk}
use Rattle.std.specs.Borrow.{Bor}
use Rattle.std.specs.List.{list_any}
use Rattle.std.proofs.Math.Logic.{∥∥₁_map}
use Rattle.std.proofs.lemmas.Bool.{cond-true, and_parts, or_cases}
use Rattle.std.proofs.lemmas.Option.{none-some, same_Some}
use Rattle.sqlite_value.specs.declared.value.Value.TheVariants.{Int, Text}
use Rattle.sqlite_value.specs.Order.{Row}
use Rattle.sqlite_trees.specs.declared.schema.Object.{Object}
use Rattle.sqlite_trees.specs.declared.store.Shape.{Shape}
use Rattle.sqlite_trees.specs.declared.store.Shape.TheVariants.{Absent, Table, Index, Pageless, FrozenTable, FrozenIndex}
use Rattle.sqlite_trees.specs.Objects.{catalog_tree, shape_code, listing, object_row, text_or_null}
use Rattle.sqlite_trees.specs.Tree.{no_trees}
use Rattle.sqlite_trees.proofs.Doubt.{no_doubt, clean_of}
use Rattle.sqlite_disk.specs.declared.Disk.{Ghosts}
use Rattle.sqlite_pool.specs.Pool as pool
use Rattle.sqlite_wal.specs.Reads.{AreClean}
use Rattle.sqlite_store.specs.declared.store.open.Unopened.{Unopened}
use Rattle.sqlite_store.specs.Unopened.{files_of, state_of}
use Rattle.sqlite_pages.specs.PageMap.{PageMap}
use Rattle.sqlite_pool.specs.Stored.{Recovers, trimmed, stored_size, is_summed}
use Rattle.sqlite_wal.specs.Recovery.{Image}
use Rattle.sqlite_wal.proofs.RecoveryLemmas.{recovers_once}
use Rattle.sqlite_store.specs.declared.catalog.Wanted.{Wanted}
use Rattle.sqlite_store.specs.Catalog.{is_present, describes, wanted_of}
use Rattle.sqlite_store.specs.Catalog.{text_or_null as wanted_text}
use Rattle.sqlite_store.specs.Listing.{listed, listed_from, all_trees, file_trees}
use Rattle.sqlite_store.specs.Db.{IsFile}
use Rattle.sqlite_store.specs.Saved.{kept_schema}
use Rattle.sqlite_store.specs.declared.store.FileStore.{FileStore}
use Rattle.sqlite_store.specs.FileStore.{state, view, schema_of, IsReady}
use Rattle.osm_openings.specs.Asked.{AreAsAsked, ListsAsAsked}
use Rattle.osm_openings.specs.Catalog.{listings, AreListed, ListsFirst}
use Rattle.osm_tree_writes.specs.Tables.{table_listings}
use Rattle.sqlite_value.specs.declared.keys.Order.{Order}
use Rattle.sqlite_store.specs.Roots.{has_index_root}
use Rattle.osm_openings.specs.Presumed.{NamesSize, ReadsAs, root_order, told_roots}
use Rattle.osm_openings.specs.Opened.{IsOpened}
use Rattle.osm_rows.specs.declared.schema.layout.Layout.TheVariants.{Tables}
use Rattle.osm_rows.specs.Rows.{version_row}
use Rattle.osm_tree_writes.specs.Tables.{table_listings}
use Rattle.sqlite_exec.specs.Calls.{OnlyReads}
use Rattle.sqlite_trees.specs.Tree.{Trees}
use Rattle.sqlite_trees.specs.View.{View, IsClean}

pub if_none : {X : Type 0} (P : X → Type 0) (o : Option X) → o ≡ None → IfSome o P
if_none P None e = tt
if_none P (Some x) e = absurd (none-some x (sym e))

pub from_end : {E : Type 0} (r : Result Bool E) (Clean : Type 0) (left : List Row) (R : Type 0) → IfOk r (λ found. IsTrue found → Clean → left ≡ []) → (Clean → left ≡ [] → R)
    → IfOk r (λ found. IsTrue found → Clean → R)
from_end (Ok x) Clean left R h f = λ is clean. f clean (h is clean)
from_end (Err e) Clean left R h f = tt

pub if_kept : {X E : Type 0} (r : Result (Option X) E) (Clean R P : X → Type 0) → IfOk r (λ o. IfSome o P) → ((x : X) → Clean x → P x → R x) → IfOk r (λ o. IfSome o (λ x. Clean x → R x))
if_kept (Ok None) Clean R P h f = tt
if_kept (Ok (Some x)) Clean R P h f = λ clean. f x clean h
if_kept (Err e) Clean R P h f = tt

-- ---- what is listed is there
first_row : (from : ℕ) (w : Wanted) (rest : List Row) → is_present w.shape ≡ true → listed from w w.shape ++ rest ≡ listing from w.row w.shape w.reals ∷ rest
first_row from w rest present = go w.shape refl present
  where
    go : (s : Shape) → w.shape ≡ s → is_present s ≡ true → listed from w s ++ rest ≡ listing from w.row w.shape w.reals ∷ rest
    go Absent is h = absurd (cc)
    go Table is h = rw is refl
    go (Index o) is h = rw is refl
    go Pageless is h = rw is refl
    go FrozenTable is h = rw is refl
    go (FrozenIndex o) is h = rw is refl

pub same_text : (sql : Option (Bor (List ℕ))) → wanted_text sql ≡ text_or_null sql
same_text None = refl
same_text (Some text) = refl

-- an object's own row of the list is that of the tree that is made of it
listing_of : (tree : ℕ) (o : Object) → listing tree (wanted_of o).row o.shape o.reals ≡ object_row tree o
listing_of tree o =
    ap (λ sql. Int (pos (tree + 1)) ∷ Text o.kind.now ∷ Text o.name.now ∷ Text o.table.now ∷ sql ∷ Int (pos (shape_code o.shape)) ∷ Int (pos o.reals) ∷ []) (same_text o.sql)

listed_from_on : (from : ℕ) (objects : List Object) (rest : List Wanted) → ((k : ℕ) (o : Object) → slice_get objects k ≡ Some o → is_present o.shape ≡ true)
    → (k : ℕ) (o : Object) → slice_get objects k ≡ Some o → slice_get (listed_from from (map wanted_of objects ++ rest)) k ≡ Some (object_row (from + k) o)
listed_from_on from [] rest present k o at = absurd (none-some o at)
listed_from_on from (p ∷ objects) rest present zero o at =
    let start : from ≡ from + 0 = omega arith in
    ap (λ (rows : List Row). slice_get rows 0) (first_row from (wanted_of p) (listed_from (from + 1) (map wanted_of objects ++ rest)) (present 0 p refl))
    ∙ ap Some (listing_of from p) ∙ ap₂ (λ n (x : Object). Some (object_row n x)) start (same_Some p o at)
listed_from_on from (p ∷ objects) rest present (suc k) o at =
    let next : from + 1 + k ≡ from + suc k = omega arith in
    ap (λ (rows : List Row). slice_get rows (suc k)) (first_row from (wanted_of p) (listed_from (from + 1) (map wanted_of objects ++ rest)) (present 0 p refl))
    ∙ listed_from_on (from + 1) objects rest (λ j q is. present (suc j) q is) k o at ∙ ap (λ n. Some (object_row n o)) next

present_in : (o : Object) (row : Row) → describes (wanted_of o) row ≡ true → is_present o.shape ≡ true
unfolding describes
present_in o row h = (and_parts _ _ (and_parts _ _ (and_parts _ _ (and_parts _ _ h).0).0).0).0

present_among : (o : Object) (rows : List Row) → list_any (λ row. describes (wanted_of o) row) rows ≡ true → is_present o.shape ≡ true
present_among o [] h = absurd (cc)
present_among o (r ∷ rows) h =
    elim (or_cases (describes (wanted_of o) r) (list_any (λ row. describes (wanted_of o) row) rows) h) [ inl here ↦ present_in o r here | inr later ↦ present_among o rows later ]

pub all_present : (objects : List Object) (rows : List Row) → AreListed objects rows → (k : ℕ) (o : Object) → slice_get objects k ≡ Some o → is_present o.shape ≡ true
all_present [] rows listed k o at = absurd (none-some o at)
all_present (p ∷ objects) rows all zero o at =
    ap (λ (x : Object). is_present x.shape) (sym (same_Some p o at)) ∙ present_among p rows (and_parts (list_any (λ row. describes (wanted_of p) row) rows) _ all).0
all_present (p ∷ objects) rows all (suc k) o at = all_present objects rows (and_parts (list_any (λ row. describes (wanted_of p) row) rows) _ all).1 k o at

-- objects that have their rows are the first of a list that begins with them
pub lists_first : (objects : List Object) (rows : List Row) (rest : List Wanted) → AreListed objects rows → ListsFirst objects (listed_from 0 (map wanted_of objects ++ rest))
lists_first objects rows rest listed tree o is = listed_from_on 0 objects rest (all_present objects rows listed) tree o is ∙ ap (λ n. Some (object_row n o)) (at_zero tree)
  where
    at_zero : (k : ℕ) → 0 + k ≡ k
    at_zero k = omega arith

-- what a file reads as has the list of its trees
pub listed_in : (size : ℕ) (schema : List Wanted) (pages : PageMap) → file_trees size schema pages catalog_tree ≡ listed_from 0 schema
unfolding all_trees
listed_in size schema pages = refl

pub same_rows : {x y : Row} {xs ys : List Row} → x ≡ y → xs ≡ ys → x ∷ xs ≡ y ∷ ys
same_rows e f = ap₂ (λ (x : Row) (xs : List Row). x ∷ xs) e f

length-listings : (tree : ℕ) (objects : List Object) → length (listings tree objects) ≡ length objects
length-listings tree [] = refl
length-listings tree (o ∷ objects) = ap suc (length-listings (tree + 1) objects)

first_from : (tree : ℕ) (objects : List Object) (rows : List Row) → ((k : ℕ) (o : Object) → slice_get objects k ≡ Some o → slice_get rows k ≡ Some (object_row (tree + k) o))
    → take (length objects) rows ≡ listings tree objects
first_from tree [] rows lists = refl
first_from tree (o ∷ objects) [] lists = absurd (none-some _ (lists 0 o refl))
first_from tree (o ∷ objects) (r ∷ rows) lists =
    let here : tree + 0 ≡ tree = omega arith in
    same_rows (same_Some r (object_row tree o) (lists 0 o refl ∙ ap (λ n. Some (object_row n o)) here))
    (first_from (tree + 1) objects rows (λ k p is. lists (suc k) p is ∙ ap (λ n. Some (object_row n p)) (next k)))
  where
    next : (k : ℕ) → tree + suc k ≡ tree + 1 + k
    next k = omega arith

-- what is listed first is the whole list of these rows
pub first_listings : (objects : List Object) (rows expected : List Row) → listings 0 objects ≡ expected → ListsFirst objects rows → take (length expected) rows ≡ expected
first_listings objects rows expected is lists =
    ap (λ n. take n rows) (sym (ap (λ (xs : List Row). length xs) is) ∙ length-listings 0 objects)
    ∙ first_from 0 objects rows (λ k o at. lists k o at ∙ ap (λ n. Some (object_row n o)) (at_zero k)) ∙ is
  where
    at_zero : (k : ℕ) → k ≡ 0 + k
    at_zero k = omega arith

-- with each other tree listed as its row asks, that is a store's list beside others
pub lists_as_asked : (objects : List Object) (rows : List Row) → listings 0 objects ≡ table_listings → ListsFirst objects rows → AreAsAsked (length objects) rows → ListsAsAsked rows
lists_as_asked objects rows are first asked =
    let nine : length objects ≡ 9 = sym (length-listings 0 objects) ∙ ap (λ (xs : List Row). length xs) are in
    record { own = first_listings objects rows table_listings are first; asked = subst (λ n. AreAsAsked n rows) nine asked }

pub of_some : {X : Type 0} (P : X → Type 0) (o : Option X) (x : X) → o ≡ Some x → IfSome o P → P x
of_some P o x e h = subst (λ o. IfSome o P) e h

-- files recover to the same pages each time
pub same_pages : (size : ℕ) (image : Image) (pages others : PageMap) → Recovers size image pages → Recovers size image others → pages ≡ others
same_pages size image pages others a b = sym a.shows ∙ ap (trimmed size) (recovers_once (stored_size size) image a.stored b.stored a.found b.found) ∙ b.shows

-- no page whose size is a multiple of 16 ends in a sum
pub plain_size : (size : ℕ) → size % 16 ≡ 0 → is_summed size ≡ false
plain_size size even = rw even refl

module _ {D : Type 0} {g : Ghosts D} (store : FileStore D g) (ready : IsReady store) (clean : IsTrue (state store).is_clean) (schema : List Wanted) (listing : schema_of store ≡ schema) where
  kept : kept_schema store.saved store.schema.items ≡ schema
  kept = ap (λ o. kept_schema o store.schema.items) ready.unaltered ∙ listing

  -- the trees of a store that is ready are what its pages read as
  pub trees_are : (view store).trees ≡ file_trees (state store).page_size schema (state store).committed
  trees_are = ready.clean
      ∙ cond-true _ (file_trees (state store).page_size (kept_schema store.saved store.schema.items) (state store).committed) no_trees clean
      ∙ ap (λ s. file_trees (state store).page_size s (state store).committed) kept

  -- its pages are a sound database of its schema
  pub is_sound : ∥ IsFile (state store).page_size schema (state store).committed ∥₁
  is_sound = ∥∥₁_map (store.stored (ready.is_open (no_doubt _ clean))) (λ stored. subst (λ s. IsFile (state store).page_size s (state store).committed) kept stored.ours.file)

  pub reads_as : (image : Image) (size : ℕ) (pages : PageMap) → NamesSize image size → Recovers size image pages → (state store).page_size ≡ size → (state store).committed ≡ pages → ReadsAs image (view store).trees
  reads_as image size pages names found sized same = record {
    size = size;
    pages = pages;
    schema = schema;
    names = names;
    found = found;
    sound = subst (λ n. ∥ IsFile n schema pages ∥₁) sized (subst (λ p. ∥ IsFile (state store).page_size schema p ∥₁) same is_sound);
    read = trees_are ∙ ap (λ n. file_trees n schema (state store).committed) sized ∙ ap (file_trees size schema) same;
  }

-- what is said to be clean of the files is so of what has them
pub clean_files : {D : Type 0} {g : Ghosts D} (it : Unopened D g) (log db : D) → (log, db) ≡ files_of it → AreClean g log db → IsTrue (state_of it).is_clean
unfolding pool.state pool.files
clean_files {g = g} it log db is clean = subst (λ p. AreClean g p.0 p.1) is clean

-- the orders that are told one by one are those of the rows
pub roots_told : (entries rows : List Row) (pages : PageMap) → told_roots entries rows (map (has_index_root pages) rows) ≡ map (root_order entries pages) rows
roots_told entries [] pages = refl
roots_told entries (row ∷ rows) pages = ap (λ (orders : List (Option Order)). root_order entries pages row ∷ orders) (roots_told entries rows pages)

-- what was known of trees is so after a read, which has found the version's row
pub opened_on : (image : Image) (old new : View) → OnlyReads old new → new.is_broken ≡ false → old.trees ≡ old.committed → old.has_sums ≡ false → take 9 (old.trees catalog_tree) ≡ table_listings → old.trees 0 ≡ version_row Tables ∷ []
    → ReadsAs image old.trees → IsOpened image new
opened_on image old new reads unbroken settled plain listed version read =
    let same : new.trees ≡ old.trees = ap (λ (v : View). v.trees) reads in
    record {
      unbroken = unbroken;
      settled = same ∙ settled ∙ sym (ap (λ (v : View). v.committed) reads);
      plain = ap (λ (v : View). v.has_sums) reads ∙ plain;
      listed = ap (λ (trees : Trees). take 9 (trees catalog_tree)) same ∙ listed;
      version = ap (λ (trees : Trees). trees 0) same ∙ version;
      reads = subst (ReadsAs image) (sym same) read;
    }

-- and of whatever of them is given
pub opened_found : {X E : Type 0} (show : X → View) (Quiet : X → Type 0) (image : Image) (old : View) (result : Result (Option X) E) → old.trees ≡ old.committed → (IsTrue old.is_clean → old.has_sums ≡ false)
    → (IsTrue old.is_clean → take 9 (old.trees catalog_tree) ≡ table_listings) → (IsTrue old.is_clean → ReadsAs image old.trees)
    → IfOk result (λ found. IfSome found (λ x. Quiet x × (IsClean (show x) → OnlyReads old (show x) × ((show x).is_broken ≡ false) × (old.trees 0 ≡ version_row Tables ∷ []))))
    → IfOk result (λ found. IfSome found (λ x. IsClean (show x) → IsOpened image (show x)))
opened_found show Quiet image old (Err e) settled plain listed reads kept = tt
opened_found show Quiet image old (Ok None) settled plain listed reads kept = tt
opened_found show Quiet image old (Ok (Some x)) settled plain listed reads kept = λ clean.
    let read = kept.1 clean in
    let now : IsTrue old.is_clean = sym (ap (λ (v : View). v.is_clean) read.0) ∙ clean_of _ clean in
    opened_on image old (show x) read.0 read.1 settled (plain now) (listed now) read.2 (reads now)
