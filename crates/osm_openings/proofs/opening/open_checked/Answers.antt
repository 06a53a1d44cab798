use Rattle.std.proofs.Common.{◌≡◌, ◌∙◌, length, sym, ap, subst}
use Rattle.std.proofs.lemmas.Result.{IfOk-weaker}
use Rattle.sqlite_trees.specs.Objects.{catalog_tree}
use Rattle.sqlite_store.specs.Listing.{listed_from}
use Rattle.sqlite_pool.specs.Stored.{Recovers, is_summed}
use Rattle.sqlite_store.specs.Db.{IsFile}
use Rattle.sqlite_store.specs.FileStore.{state}
use Rattle.sqlite_store.specs.Unopened.{state_of, image, wanted_by}
use Rattle.sqlite_wal.specs.Files.{seen_image}
use Rattle.sqlite_wal.specs.Reads.{AreClean}
use Rattle.osm_openings.specs.Catalog.{ListsFirst}
use Rattle.osm_openings.specs.Presumed.{NamesSize, schema_rows}
use Rattle.osm_openings.specs.Asked.{AreAsAsked}
use Rattle.osm_openings.proofs.AskedLemmas.{asked_found}
use Rattle.osm_openings.proofs.OpeningLemmas.{if_none, listed_in, lists_first, all_present, of_some, same_pages, plain_size, trees_are, is_sound, reads_as}
use Rattle.osm_openings.proofs.opening.open_checked.Goals as goal

pub returns-clause-ready : goal.returns-clause-ready
returns-clause-ready g c = IfOk-weaker _ _ _ (if_none _) c.unread.ensures

pub returns-clause-plain : goal.returns-clause-plain
returns-clause-plain g c = IfOk-weaker _ _ _ (if_none _) c.unread.ensures

pub returns-clause-shielded : goal.returns-clause-shielded
returns-clause-shielded g c = IfOk-weaker _ _ _ (if_none _) c.unread.ensures

pub returns-clause-listed : goal.returns-clause-listed
returns-clause-listed g c = IfOk-weaker _ _ _ (if_none _) c.unread.ensures

pub returns-clause-reads : goal.returns-clause-reads
returns-clause-reads g c = IfOk-weaker _ _ _ (if_none _) c.unread.ensures

pub returns-in-Ok-clause-plain : goal.returns-in-Ok-clause-plain
returns-in-Ok-clause-plain g c =
    λ now.
    let e = c.in-Ok.ensures in
    let h = of_some _ _ _ c.in-Some-2.is c.in_ok-listed.ensures.lists (e.honest now) in
    let sizes = (e.kept now).size ∙ h.size ∙ c.in_ok-unlisted.ensures.size in
    ap is_summed sizes ∙ plain_size c.in-Some.size.bytes c.in-Some.size.aligned

pub returns-in-Ok-clause-listed : goal.returns-in-Ok-clause-listed
returns-in-Ok-clause-listed g c =
    λ now.
    let e = c.in-Ok.ensures in
    let objects = c.args.objects.now in
    let h = of_some _ _ _ c.in-Some-2.is c.in_ok-listed.ensures.lists (e.honest now) in
    let reads = trees_are c.in-Ok.store e.ready now (wanted_by c.in-Some-2.listed) e.schema in
    let is = ap (λ trees. trees catalog_tree) reads ∙ listed_in _ _ _ ∙ ap (listed_from 0) h.wanted in
    subst (ListsFirst objects) (sym is) (lists_first objects _ _ h.listed)

pub returns-in-Ok-clause-reads : goal.returns-in-Ok-clause-reads
returns-in-Ok-clause-reads g c =
    λ now.
    let disk = g.D.Disk in
    let e = c.in-Ok.ensures in
    let store = c.in-Ok.store in
    let mid = c.in-Some-2.listed in
    let unopened = c.in_ok-unlisted.unlisted in
    let h = of_some _ _ _ c.in-Some-2.is c.in_ok-listed.ensures.lists (e.honest now) in
    let files = c.in_ok-unlisted.ensures.files in
    let clean : AreClean disk c.page_size.new.files.log c.page_size.new.files.db = c.in_ok-unlisted.ensures.honest h.clean in
    let images : image unopened ≡ seen_image disk c.args.files.log c.args.files.db =
    ap (λ p. seen_image disk p.0 p.1) files ∙ of_some _ _ _ c.in-Some.is c.in_ok-size.ensures.same in
    let size = c.in_ok-unlisted.ensures.size in
    let named = subst (NamesSize (seen_image disk c.args.files.log c.args.files.db)) (sym size) (of_some _ _ _ c.in-Some.is c.in_ok-size.ensures.named clean) in
    reads_as store e.ready now (wanted_by mid) e.schema _ (state_of unopened).page_size h.pages named
    (subst (λ i. Recovers (state_of unopened).page_size i h.pages) images h.found)
    ((e.kept now).size ∙ h.size) (same_pages _ (image mid) _ _ (e.found now) h.again)

pub returns-clause-asked : goal.returns-clause-asked
returns-clause-asked g c = IfOk-weaker _ _ _ (if_none _) c.unread.ensures

pub returns-in-Ok-clause-asked : goal.returns-in-Ok-clause-asked
returns-in-Ok-clause-asked g c =
    λ now.
    let e = c.in-Ok.ensures in
    let store = c.in-Ok.store in
    let mid = c.in-Some-2.listed in
    let objects = c.args.objects.now in
    let h = of_some _ _ _ c.in-Some-2.is c.in_ok-listed.ensures.lists (e.honest now) in
    let size = (state_of c.in_ok-unlisted.unlisted).page_size in
    let reads = trees_are store e.ready now (wanted_by mid) e.schema in
    let is = ap (λ trees. trees catalog_tree) reads ∙ listed_in _ _ _ ∙ ap (listed_from 0) h.wanted in
    let sound = subst (λ n. ∥ IsFile n (wanted_by mid) h.pages ∥₁) ((e.kept now).size ∙ h.size)
    (subst (λ p. ∥ IsFile (state store).page_size (wanted_by mid) p ∥₁) (same_pages _ (image mid) _ _ (e.found now) h.again) (is_sound store e.ready now (wanted_by mid) e.schema)) in
    subst (AreAsAsked (length objects)) (sym is)
    (asked_found objects size h.pages (subst (λ s. ∥ IsFile size s h.pages ∥₁) h.wanted sound) (all_present objects (schema_rows size h.pages) h.listed))
