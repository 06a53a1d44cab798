use Rattle.std.proofs.Common.{ℕ, List, Bor}
use Rattle.osm_value.specs.Value.{Text}
use Rattle.osm_rows.specs.TableRows.{tag_row}
use Rattle.osm_rows.specs.Load.TableElements.{IsTagPart, item_of}
use Rattle.osm_value.specs.Ranges.{IsText}
use Rattle.osm_rows.proofs.LoadLemmas.RowLoops.{row_at, read_more, fits_more}
use Rattle.osm_rows.proofs.load.tables.elements.tags_of.Goals as goal

abbrev pair : Bor (List ℕ) × Bor (List ℕ) → Text × Text
pair t = (t.0.now, t.1.now)

pub returns-in-None-clause-exact : goal.returns-in-None-clause-exact
returns-in-None-clause-exact c parts fits is =
    let it = row_at IsTagPart tag_row parts _ _ _ fits is c.loop-row-test.true c.row-item.is in
    c.in-None.ensures.exact it.item it.fits.0 it.fits.1 it.is

pub loop-row-preserved : goal.loop-row-preserved
loop-row-preserved c = record {
  so_far = λ parts fits is.
      let it = row_at IsTagPart tag_row parts _ _ _ fits is c.loop-row-test.true c.row-item.is in
      read_more pair item_of _ _ _ parts _ it.item c.in_ok-push-in-Some.ensures.items (c.loop-row.invariant.so_far parts fits is) (c.in-Some.ensures.exact it.item it.fits.0 it.fits.1 it.is) it.more;
  in_range = fits_more (λ (t : Text × Text). IsText t.0 × IsText t.1) pair _ _ _ c.in_ok-push-in-Some.ensures.items c.loop-row.invariant.in_range c.in-Some.ensures.in_range;
}
