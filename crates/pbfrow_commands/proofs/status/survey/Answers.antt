use Rattle.std.proofs.Common.{◌∙◌}
use Rattle.pbfrow_commands.proofs.status.survey.Goals as goal

pub returns-clause-told : goal.returns-clause-told
returns-clause-told g c = λ held holds honest.
    c.in_ok-holdings.ensures held (g.met.K.BlobReader.is_apart _ held holds) (c.deref.ensures.value ∙ c.in_ok-extents.ensures.all held holds honest)
