use Rattle.std.proofs.Common.{◌≡◌, take, filter, not, ◌||◌}
use Rattle.sqlite_value.specs.Order.{Row}
use Rattle.osm_openings.specs.Catalog.{is_own, is_left_out}
use Rattle.osm_openings.proofs.catalog.others.Given as goal

abbrev pub invariant-loop-row : goal.invariant-loop-row
invariant-loop-row l = l.all.items ≡ filter (λ (row : Row). not (is_own l.objects row || is_left_out row)) (take l.row-index l.rows)
