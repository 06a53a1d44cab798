use Rattle.std.proofs.Common.{◌∙◌, [], ◌∷◌, ap}
use Rattle.sqlite_value.specs.Order.{Row}
use Rattle.osm_openings.proofs.tables.of_version.Goals as goal

pub returns-then-branch : goal.returns-then-branch
returns-then-branch g c =
    let e = c.in_ok-has_only.ensures in
    (e.quiet, λ clean. let reads = e.reads c.if-branch.true clean in (reads.0, reads.1, e.only c.if-branch.true clean ∙ ap (λ (r : Row). r ∷ []) c.in_ok-row.ensures))
