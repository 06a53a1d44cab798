use Rattle.std.proofs.Common.{subst, w64}
use Rattle.std.specs.Prelude.{filter}
use Rattle.std.proofs.lemmas.Int.{to_z-of_z}
use Rattle.std.proofs.lemmas.Result.{MatchResult-weaker}
use Rattle.osm_rows.specs.Keeping.{IsForeign}
use Rattle.osm_rows.specs.Rows.{placed_in, is_of}
use Rattle.osm_sql_store.proofs.load.tables.find_tables.Goals as goal

pub returns-clause-held : goal.returns-clause-held
returns-clause-held g c held clean holds =
    let rows = rw (to_z-of_z w64 c.args.id c.ranges.id) at (c.in_ok-elements.ensures.held held clean holds) in
    MatchResult-weaker c.from_tables.result (c.from_tables.ensures (filter (is_of c.args.kind c.args.id) (placed_in held)) rows.0)
    (λ found h. (h, rows.1)) (λ fault is foreign. subst IsForeign is foreign)
