use Rattle.std.proofs.lemmas.Result.{MatchResult-weaker}
use Rattle.osm_sql_store.proofs.laws.adopted_over_what_was_left.Goals as goal

pub returns : goal.returns
returns g c whole may clean opens live =
    let it = c.holds_what_was_left.ensures whole may clean opens live in
    MatchResult-weaker c.adopt.result (c.adopt.ensures.held it.0 it.2) (λ store holds clean_now. (it.0, it.1, holds clean_now)) (λ e own. own)
