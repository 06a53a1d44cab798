-- What the first columns of the list of objects tell of added indexes.
use Rattle.std.proofs.Common.{◌≡◌, ◌∙◌, List, map, ap}
use Rattle.std.specs.Prelude.{take}
use Rattle.std.specs.List.{list_any}
use Rattle.sqlite_value.specs.Order.{Row}
use Rattle.osm_tree_writes.specs.Added.{is_refused, plain_indexes}
use Rattle.osm_tree_writes.proofs.Listed.{refused_by_five, indexes_by_five}

pub refused_alike : (rows objects told : List Row) → told ≡ objects → objects ≡ map (take 5) rows → list_any is_refused told ≡ list_any is_refused rows
refused_alike rows objects told here five = ap (list_any is_refused) (here ∙ five) ∙ refused_by_five rows

pub indexes_alike : (rows objects told : List Row) → told ≡ objects → objects ≡ map (take 5) rows → plain_indexes told ≡ plain_indexes rows
indexes_alike rows objects told here five = ap plain_indexes (here ∙ five) ∙ indexes_by_five rows
