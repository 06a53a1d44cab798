use Rattle.std.proofs.Common.{refl}
use Rattle.osm_openings.proofs.OpeningLemmas.{same_rows}
use Rattle.osm_openings.proofs.tables.trees.Goals as goal

pub returns : goal.returns
returns c =
    same_rows (c.table.ensures 0) (same_rows (c.table-2.ensures 1) (same_rows (c.table-3.ensures 2) (same_rows (c.index.ensures 3) (same_rows (c.table-4.ensures 4)
    (same_rows (c.index-2.ensures 5) (same_rows (c.table-5.ensures 6) (same_rows (c.index-3.ensures 7) (same_rows (c.index-4.ensures 8) refl))))))))
