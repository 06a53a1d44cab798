use Rattle.std.proofs.Common.{◌∙◌}
use Rattle.osm_rows.specs.declared.schema.layout.Layout.TheVariants.{Bodies}
use Rattle.osm_rows.specs.Rows.{Placed, IsStored, body_row}
use Rattle.osm_rows.proofs.LoadLemmas.RowLoops.{row_at}
use Rattle.osm_rows.proofs.LoadLemmas.StoredRows.{not_none}
use Rattle.osm_rows.proofs.load.bodies.BodyRows.check.Goals as goal

pub returns-then-is_none : goal.returns-then-is_none
returns-then-is_none c matches h =
    let it = row_at (λ (p : Placed). IsStored Bodies p.2) body_row matches _ _ _ h.stored (c.loop-row.invariant ∙ h.rows) c.loop-row-test.true c.row-item.is in
    absurd (not_none _ _ _ (c.in_ok-match_at.ensures it.item it.fits it.is) c.is_none.ensures c.if-is_none.true)
