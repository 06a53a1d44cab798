use Rattle.std.proofs.Common.{◌∙◌, sym}
use Rattle.pbfrow_databases.proofs.named.verify_named.Goals as goal

pub returns-clause-told : goal.returns-clause-told
returns-clause-told g c = λ maps holds honest. c.verify_parts.ensures.told maps holds honest (c.count-count.ensures.maps maps holds ∙ sym c.count-count.ensures.exact)

pub returns-clause-exact : goal.returns-clause-exact
returns-clause-exact g c = λ maps holds honest. c.verify_parts.ensures.exact maps holds honest (c.count-count.ensures.maps maps holds ∙ sym c.count-count.ensures.exact)

pub returns-clause-shown : goal.returns-clause-shown
returns-clause-shown g c = λ honest deep tables none. rw (← c.count-count.ensures.exact) (c.verify_parts.ensures.shown honest deep tables none)
