use Rattle.std.proofs.Common.{◌∙◌, sym}
use Rattle.pbfrow_databases.proofs.named.merge_named.Goals as goal

pub returns-clause-union : goal.returns-clause-union
returns-clause-union g c = λ maps held holds honest before after. c.merge_all.ensures.union maps held holds honest (c.count-count.ensures.maps maps holds ∙ sym c.count-count.ensures.exact) before after

pub returns-clause-kept : goal.returns-clause-kept
returns-clause-kept g c = λ maps held holds honest before after. c.merge_all.ensures.kept maps held holds honest (c.count-count.ensures.maps maps holds ∙ sym c.count-count.ensures.exact) before after

pub returns-clause-merges : goal.returns-clause-merges
returns-clause-merges g c = rw (← c.count-count.ensures.exact) c.merge_all.ensures.merges
