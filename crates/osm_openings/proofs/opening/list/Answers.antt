use Rattle.std.proofs.Common.{◌≡◌, ◌∙◌, ap, ap₂, sym, subst}
use Rattle.sqlite_pool.specs.Stored.{Recovers}
use Rattle.sqlite_store.specs.Db.{IsFile}
use Rattle.sqlite_store.specs.Unopened.{state_of, image, wanted_by}
use Rattle.sqlite_wal.specs.Files.{seen_image}
use Rattle.osm_openings.specs.Presumed.{trees_of, trees_in}
use Rattle.osm_openings.proofs.OpeningLemmas.{of_some, clean_files}
use Rattle.osm_openings.proofs.opening.list.Goals as goal

pub returns-clause-lists : goal.returns-clause-lists
returns-clause-lists g c =
    λ now.
    let disk = g.D.Disk in
    let objects = c.args.objects.now in
    let old = c.args.files in
    let mid = c.read_rows.new.files in
    let new = c.in-Some-2.new in
    let some = c.in-Some-2.is in
    let made = c.in_ok-new.ensures in
    let closed = c.close-both.ensures in
    let then = clean_files mid _ _ closed (of_some _ _ _ some made.honest now) in
    let read = of_some _ _ _ c.in-Some.is c.in_ok-rows.ensures.read then in
    let size = (state_of old).page_size in
    let sized : (state_of new).page_size ≡ size = of_some _ _ _ some made.size ∙ sym c.requires.sized in
    let images : image new ≡ image mid = ap (λ p. seen_image disk p.0 p.1) (of_some _ _ _ some made.files ∙ closed) in
    let wanted : wanted_by new ≡ trees_in objects size read.pages =
    of_some _ _ _ some made.trees ∙ ap₂ (trees_of objects) (c.as_slice.ensures.value ∙ read.rows_are) (c.as_slice-2.ensures.value ∙ read.roots_are) in
    record {
      pages = read.pages;
      clean = read.clean;
      size = sized;
      found = read.found;
      again = subst (λ n. Recovers n (image new) read.pages) (sym sized) (subst (λ i. Recovers size i read.pages) (sym images) (subst (λ n. Recovers n (image mid) read.pages) read.size read.again));
      listed = read.listed;
      wanted = wanted;
      file = λ names presumed. subst (λ s. IsFile size s read.pages) (sym wanted) (presumed size read.pages names read.found read.listed read.apart read.ordered);
    }
