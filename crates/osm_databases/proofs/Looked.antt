-- What trees are after reads that found each index whole.
use Rattle.std.proofs.Common.{◌≡◌, ◌∙◌, false, take, IsTrue, Option, Some, None, sym, ap, subst}
use Rattle.std.specs.Prelude.{IfSome}
use Rattle.sqlite_trees.specs.Objects.{catalog_tree}
use Rattle.sqlite_trees.specs.Tree.{Trees}
use Rattle.sqlite_trees.specs.View.{View, doubt, IsClean}
use Rattle.sqlite_trees.proofs.Doubt.{clean_of}
use Rattle.sqlite_wal.specs.Recovery.{Image}
use Rattle.sqlite_exec.specs.Calls.{OnlyReads}
use Rattle.osm_tree_writes.specs.Appending.{IsStoreAt}
use Rattle.osm_tree_writes.specs.Putting.{IsIndexedStore}
use Rattle.osm_tree_audits.specs.Looks.{IsLook}
use Rattle.osm_tree_audits.specs.declared.look.Look.{Look}
use Rattle.osm_trees.specs.Below.{IsChecked}
use Rattle.osm_tree_writes.specs.Tables.{table_listings}
use Rattle.osm_openings.specs.Asked.{ListsAsAsked}
use Rattle.osm_openings.specs.Opened.{IsOpened}
use Rattle.osm_databases.specs.Checked.{IsOfVersion}

-- two reads, one after the other
pub reads_on : (a b c : View) → OnlyReads a b → OnlyReads b c → OnlyReads a c
reads_on a b c ab bc = bc ∙ ap (λ (v : View). record v { cursors = c.cursors }) ab

-- what was read of trees that are clean now was read of the first ones
pub reads_from : (a b c : View) → (IsClean b → OnlyReads a b × (b.is_broken ≡ false)) → OnlyReads b c → IsClean c → OnlyReads a c
reads_from a b c before after clean = reads_on a b c (before (ap (λ (v : View). doubt v.is_clean) (sym after) ∙ clean)).0 after

pub checked_after : (old new : View) → OnlyReads old new → new.is_broken ≡ false → IsIndexedStore new.trees → IsClean new → (IsClean old → IsOfVersion old) → IsStoreAt old.shape
    → IsChecked new × (take 9 (new.trees catalog_tree) ≡ table_listings)
checked_after old new reads unbroken indexed clean found shaped =
    let same = ap (λ (v : View). v.trees) reads in
    let known = found (ap (λ (v : View). doubt v.is_clean) (sym reads) ∙ clean) in (
      record {
        unbroken = unbroken;
        indexed = record { settled = same ∙ known.settled ∙ sym (ap (λ (v : View). v.committed) reads); indexed = indexed };
        shaped = subst IsStoreAt (sym (ap (λ (v : View). v.shape) reads)) shaped;
        version = ap (λ (trees : Trees). trees 0) same ∙ known.version;
      },
      ap (λ (trees : Trees). take 9 (trees catalog_tree)) same ∙ known.listed,
    )

-- and after more of them, which found those whole that the user has added
pub checked_on : (a b c : View) → (IsClean b → OnlyReads a b × (b.is_broken ≡ false)) → (look : Look) → (IsClean b → IsIndexedStore b.trees × IsLook b.trees look) → OnlyReads b c × (c.is_broken ≡ false) → IsClean c → (IsClean a → IsOfVersion a) → IsStoreAt a.shape
    → IsChecked c × (take 9 (c.trees catalog_tree) ≡ table_listings)
checked_on a b c before look whole after clean found shaped =
    let clean_b : IsClean b = ap (λ (v : View). doubt v.is_clean) (sym after.0) ∙ clean in
    let trees : c.trees ≡ b.trees = ap (λ (v : View). v.trees) after.0 in
    checked_after a c (reads_on a b c (before clean_b).0 after.0) after.1 (subst IsIndexedStore (sym trees) (whole clean_b).0) clean found shaped

-- what was seen is so still
pub seen_on : (b c : View) (look : Look) → (IsClean b → IsIndexedStore b.trees × IsLook b.trees look) → OnlyReads b c → IsClean c → IsLook c.trees look
seen_on b c look whole after clean =
    let clean_b : IsClean b = ap (λ (v : View). doubt v.is_clean) (sym after) ∙ clean in
    subst (λ (db : Trees). IsLook db look) (sym (ap (λ (v : View). v.trees) after)) (whole clean_b).1

-- what was opened is of this version
pub found_of_version : {X : Type 0} (view : X → View) (image : Image) (found : Option X) → IfSome found (λ x. IsClean (view x) → IsOpened image (view x))
    → IfSome found (λ x. IsTrue (view x).is_clean → ListsAsAsked ((view x).trees catalog_tree)) → IfSome found (λ x. IsClean (view x) → IsOfVersion (view x))
found_of_version view image None opened asked = tt
found_of_version view image (Some x) opened asked = λ clean.
    let known = opened clean in
    record { unbroken = known.unbroken; settled = known.settled; listed = known.listed; version = known.version; asked = asked (clean_of (view x).is_clean clean) }
