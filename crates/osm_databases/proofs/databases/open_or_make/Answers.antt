use Rattle.std.proofs.Common.{inr}
use Rattle.std.proofs.lemmas.Result.{IfOk-weaker}
use Rattle.osm_databases.proofs.databases.open_or_make.Goals as goal

pub returns-in-None-clause-trees : goal.returns-in-None-clause-trees
returns-in-None-clause-trees g c = IfOk-weaker c.make_in.result _ _ (λ _ made. inr made) c.make_in.ensures.made
