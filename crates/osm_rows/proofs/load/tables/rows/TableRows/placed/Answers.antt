use Rattle.std.proofs.Common.{◌≡◌, ◌∙◌, ◌<◌, ◌==◌, ℕ, List, [], ◌∷◌, ◌++◌, length, ap, ap₂, sym, subst, arith, refl, true≢false}
use Rattle.sqlite.specs.Order.{Row, column}
use Rattle.osm_value.specs.declared.element.Element.{Element}
use Rattle.osm_rows.specs.declared.schema.layout.Layout.TheVariants.{Tables}
use Rattle.osm_rows.specs.TableRows.{element_row, tag_rows, link_rows}
use Rattle.osm_rows.specs.Rows.{Placed, IsStored}
use Rattle.osm_rows.proofs.LoadLemmas.RowLoops.{row_at}
use Rattle.osm_rows.proofs.LoadLemmas.StoredRows.{some_is, some_or_none, all_taken}
use Rattle.osm_rows.proofs.LoadLemmas.ElementRows.{tags_next, links_next, none_left, same_place, own_split}
use Rattle.osm_rows.proofs.load.tables.rows.TableRows.placed.Goals as goal
use Rattle.osm_rows.proofs.load.tables.rows.TableRows.placed.Goals.{else-is_empty-via-then-is_empty+else-is_empty-2, else-is_empty-via-else-is_empty}

abbrev Fits : Placed → Type 0
Fits p = IsStored Tables p.2

long : (row : Row) (p : Placed) → row ≡ element_row p → 1 < length row
long row p is = subst (λ (r : Row). 1 < length r) (sym is) (omega arith)

pub returns-in_default : goal.returns-in_default
returns-in_default c placed h =
    let it = row_at Fits element_row placed _ _ _ h.stored (c.loop-row.invariant.rows ∙ h.elements) c.loop-row-test.true c.row-item.is in
    some_or_none _ _ (c.place_of.ensures it.item.0 it.item.1 (long _ it.item it.is) (ap (λ (r : Row). column r 0) it.is) (ap (λ (r : Row). column r 1) it.is)) c.in_default.is

pub returns-in_default-2 : goal.returns-in_default-2
returns-in_default-2 c placed h =
    let it = row_at Fits element_row placed _ _ _ h.stored (c.loop-row.invariant.rows ∙ h.elements) c.loop-row-test.true c.row-item.is in
    let place = same_place _ _ it.item (some_is _ _ (c.in-Some.ensures it.item.0 it.item.1 (long _ it.item it.is) (ap (λ (r : Row). column r 0) it.is) (ap (λ (r : Row). column r 1) it.is))) in
    let tags = own_split _ _ it.item place.0 place.1 (tags_next placed c.loop-row.row-index it.item c.loop-row.tags.now h.ascending it.rest (c.loop-row.invariant.tags placed h)) in
    let links = own_split _ _ it.item place.0 place.1 (links_next placed c.loop-row.row-index it.item c.loop-row.links.now h.ascending it.rest (c.loop-row.invariant.links placed h)) in
    let own_tags = (c.split_at_place.ensures _ _ tags.here tags.elsewhere tags.both).0 in
    let own_links = (c.split_at_place-in-loop-row.ensures _ _ links.here links.elsewhere links.both).0 in
    some_or_none _ _ (c.in_ok-element.ensures it.item it.fits.0 it.is own_tags own_links) c.in_default-2.is

pub loop-row-preserved : goal.loop-row-preserved
loop-row-preserved c = record {
  rows = c.loop-row.invariant.rows;
  so_far = λ placed h.
      let it = row_at Fits element_row placed _ _ _ h.stored (c.loop-row.invariant.rows ∙ h.elements) c.loop-row-test.true c.row-item.is in
      let place = same_place _ _ it.item (some_is _ _ (c.in-Some.ensures it.item.0 it.item.1 (long _ it.item it.is) (ap (λ (r : Row). column r 0) it.is) (ap (λ (r : Row). column r 1) it.is))) in
      let tags = own_split _ _ it.item place.0 place.1 (tags_next placed c.loop-row.row-index it.item c.loop-row.tags.now h.ascending it.rest (c.loop-row.invariant.tags placed h)) in
      let links = own_split _ _ it.item place.0 place.1 (links_next placed c.loop-row.row-index it.item c.loop-row.links.now h.ascending it.rest (c.loop-row.invariant.links placed h)) in
      let own_tags = (c.split_at_place.ensures _ _ tags.here tags.elsewhere tags.both).0 in
      let own_links = (c.split_at_place-in-loop-row.ensures _ _ links.here links.elsewhere links.both).0 in
      let element : c.in-Some-2.element ≡ it.item.2 = some_is _ _ (sym c.in-Some-2.is ∙ c.in_ok-element.ensures it.item it.fits.0 it.is own_tags own_links) in
      let make : ℕ → ℕ → Element → Placed = λ a b e. (a, b, e) in
      let same : make _ _ c.in-Some-2.element ≡ it.item = ap₂ (λ a b. make a b c.in-Some-2.element) place.0 place.1 ∙ ap (make it.item.0 it.item.1) element in
      c.in_ok-push.ensures.items ∙ ap₂ (λ (l : List Placed) (p : Placed). l ++ p ∷ []) (c.loop-row.invariant.so_far placed h) same ∙ sym it.more;
  tags = λ placed h.
      let it = row_at Fits element_row placed _ _ _ h.stored (c.loop-row.invariant.rows ∙ h.elements) c.loop-row-test.true c.row-item.is in
      let place = same_place _ _ it.item (some_is _ _ (c.in-Some.ensures it.item.0 it.item.1 (long _ it.item it.is) (ap (λ (r : Row). column r 0) it.is) (ap (λ (r : Row). column r 1) it.is))) in
      let tags = own_split _ _ it.item place.0 place.1 (tags_next placed c.loop-row.row-index it.item c.loop-row.tags.now h.ascending it.rest (c.loop-row.invariant.tags placed h)) in
      (c.split_at_place.ensures _ _ tags.here tags.elsewhere tags.both).1;
  links = λ placed h.
      let it = row_at Fits element_row placed _ _ _ h.stored (c.loop-row.invariant.rows ∙ h.elements) c.loop-row-test.true c.row-item.is in
      let place = same_place _ _ it.item (some_is _ _ (c.in-Some.ensures it.item.0 it.item.1 (long _ it.item it.is) (ap (λ (r : Row). column r 0) it.is) (ap (λ (r : Row). column r 1) it.is))) in
      let links = own_split _ _ it.item place.0 place.1 (links_next placed c.loop-row.row-index it.item c.loop-row.links.now h.ascending it.rest (c.loop-row.invariant.links placed h)) in
      (c.split_at_place-in-loop-row.ensures _ _ links.here links.elsewhere links.both).1;
}

pub returns-then-is_empty-2 : goal.returns-then-is_empty-2
returns-then-is_empty-2 c placed h = c.loop-row.invariant.so_far placed h ∙ all_taken element_row placed _ _ (c.loop-row.invariant.rows ∙ h.elements) c.loop-row-test.false

pub returns : goal.returns
returns c placed h =
    let rows = c.loop-row.invariant.rows ∙ h.elements in
    let no_tags = none_left element_row tag_rows refl placed _ _ _ rows c.loop-row-test.false (c.loop-row.invariant.tags placed h) in
    let no_links = none_left element_row link_rows refl placed _ _ _ rows c.loop-row-test.false (c.loop-row.invariant.links placed h) in
    elim c.else-is_empty.branch [
      | else-is_empty-via-then-is_empty+else-is_empty-2 w ↦
          let empty = w.is_empty-then-is_empty.ensures ∙ ap (λ (l : List Row). length l == 0) no_links in
          true≢false (sym empty ∙ w.if-is_empty-2.false)
      | else-is_empty-via-else-is_empty w ↦
          let empty = c.is_empty.ensures ∙ ap (λ (l : List Row). length l == 0) no_tags in
          true≢false (sym empty ∙ w.if-is_empty.false)
    ]
