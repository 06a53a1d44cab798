use Rattle.std.proofs.Common.{◌≡◌, ◌∙◌, List, ap, sym, subst, map}
use Rattle.sqlite_value.specs.Order.{Row}
use Rattle.sqlite_pool.specs.Stored.{Recovers}
use Rattle.sqlite_pool.specs.File.{in_use}
use Rattle.sqlite_store.specs.Roots.{has_index_root}
use Rattle.sqlite_store.specs.Unopened.{state_of, image}
use Rattle.osm_openings.specs.Catalog.{others, AreListed, StandApart, AreInOrder}
use Rattle.osm_openings.specs.Presumed.{schema_rows, other_rows, told_roots}
use Rattle.osm_openings.proofs.OpeningLemmas.{roots_told}
use Rattle.osm_openings.proofs.opening.read_rows.Goals as goal

pub returns-clause-read : goal.returns-clause-read
returns-clause-read g c =
    λ now.
    let objects = c.args.objects.now in
    let kept = c.in-Ok-index_roots.ensures.kept.stays in
    let then = kept.clean now in
    let cat = c.in-Ok.ensures.ok then in
    let opens = c.in-Ok.ensures.kept then in
    let finds = c.in-Ok-index_roots.ensures.ok now cat.pages cat.shows in
    let new = c.index_roots.new.self in
    let size = (state_of c.args.files.now).page_size in
    let rows = schema_rows size cat.pages in
    let found : c.in_ok-rows.rows.items ≡ others objects rows = c.in_ok-rows.ensures ∙ ap (others objects) (c.as_slice.ensures.value ∙ cat.lists) in
    let can = c.can_be_listed.ensures c.if-not-can_be_listed.false in
    let entries : c.as_slice-3.result.now ≡ rows = c.as_slice-3.ensures.value ∙ cat.lists in
    let given : c.as_slice-2.result.now ≡ others objects rows = c.as_slice-2.ensures.value ∙ found in
    record {
      pages = cat.pages;
      clean = c.in-Ok.ensures.honest then;
      size = kept.size ∙ opens.size;
      found = cat.found;
      again = subst (λ n. Recovers n (image new) cat.pages) (sym kept.size) finds.again;
      listed = subst (AreListed objects) entries can.0;
      apart = subst (λ others. StandApart objects others rows) given (subst (StandApart objects c.as_slice-2.result.now) entries can.1);
      ordered = subst AreInOrder entries can.2;
      rows_are = found;
      roots_are = c.in_ok-orders.ensures.value
          ∙ ap (λ (given : List Row). told_roots given c.as_slice-6.result.now c.as_slice-7.result.now) (c.as_slice-5.ensures.value ∙ cat.lists)
          ∙ ap (λ (given : List Row). told_roots rows given c.as_slice-7.result.now) (c.as_slice-6.ensures.value ∙ found)
          ∙ ap (told_roots rows (others objects rows)) (c.as_slice-7.ensures.value ∙ finds.kinds
          ∙ ap (map (has_index_root (in_use (state_of c.read_catalog.new.self).page_size cat.pages))) (c.as_slice-4.ensures.value ∙ found)
          ∙ ap (λ n. map (has_index_root (in_use n cat.pages)) (other_rows objects size cat.pages)) opens.size)
          ∙ roots_told rows (others objects rows) (in_use size cat.pages);
    }
