use Rattle.std.proofs.Common.{◌≡◌, ◌<◌, length, Option, Some, None, Bool, ap, arith}
use Rattle.sqlite.specs.Order.{Row, column}
use Rattle.osm_value.specs.Elements.{info_of_element}
use Rattle.osm_rows.proofs.load.tables.parts.info_of.Goals as goal

pub returns-in_err-visible : goal.returns-in_err-visible
returns-in_err-visible c p in_range is =
    let long : 11 < length c.args.row.now = rw is (omega arith) in
    let bad : ◌≡◌ {A = Option (Option Bool)} None (Some (info_of_element p.2).visible) = c.in_err-visible.ensures.exact (info_of_element p.2).visible long (ap (λ (r : Row). column r 11) is) in
    absurd (cc)
