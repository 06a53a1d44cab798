use Rattle.std.proofs.Common.{◌∙◌, ap, subst, sym}
use Rattle.sqlite_trees.proofs.Doubt.{no_doubt}
use Rattle.sqlite_trees.specs.Objects.{catalog_tree}
use Rattle.sqlite_trees.specs.View.{View}
use Rattle.sqlite_store.specs.FileStore.{view}
use Rattle.sqlite_wal.specs.Files.{seen_image}
use Rattle.osm_tree_writes.specs.Tables.{table_listings}
use Rattle.osm_openings.specs.Asked.{ListsAsAsked}
use Rattle.osm_openings.proofs.OpeningLemmas.{first_listings, if_kept, lists_as_asked, opened_found}
use Rattle.osm_openings.proofs.tables.open_tables.Goals as goal

pub returns-clause-opened : goal.returns-clause-opened
returns-clause-opened g c =
    let ready = rw c.in-Some.is at c.in_ok-store.ensures.ready in
    let plain = rw c.in-Some.is at c.in_ok-store.ensures.plain in
    let listed = rw c.in-Some.is at c.in_ok-store.ensures.listed in
    let reads = rw c.in-Some.is at c.in_ok-store.ensures.reads in
    opened_found view _ (seen_image g.D.Disk c.args.files.log c.args.files.db) (view c.in-Some.store) _ ready.clean plain (λ now. first_listings _ _ table_listings c.trees.ensures (listed now)) reads c.of_version.ensures

pub open_listed-requires-clause-presumed : goal.open_listed-requires-clause-presumed
open_listed-requires-clause-presumed g c = c.requires.presumed _ c.trees.ensures

pub returns-clause-asked : goal.returns-clause-asked
returns-clause-asked g c =
    let listed = rw c.in-Some.is at c.in_ok-store.ensures.listed in
    let asked = rw c.in-Some.is at c.in_ok-store.ensures.asked in
    if_kept _ _ _ _ c.of_version.ensures (λ store now kept.
    let read = kept.1 (no_doubt _ now) in
    let then = sym (ap (λ (v : View). v.is_clean) read.0) ∙ now in
    subst ListsAsAsked (sym (ap (λ (v : View). v.trees catalog_tree) read.0)) (lists_as_asked _ _ c.trees.ensures (listed then) (asked then)))
