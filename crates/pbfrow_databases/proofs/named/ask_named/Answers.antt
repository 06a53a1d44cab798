use Rattle.std.proofs.Common.{◌∙◌, sym}
use Rattle.pbfrow_databases.proofs.named.ask_named.Goals as goal

pub returns-clause-told : goal.returns-clause-told
returns-clause-told g c = λ maps holds honest. c.ask_in_turn.ensures.told maps holds honest (c.count-count.ensures.maps maps holds ∙ sym c.count-count.ensures.exact)
