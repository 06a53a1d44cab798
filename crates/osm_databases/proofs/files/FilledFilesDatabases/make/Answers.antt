use Rattle.std.proofs.lemmas.Result.{IfOk-weaker}
use Rattle.osm_databases.proofs.files.FilledFilesDatabases.make.Goals as goal

pub returns-clause-made : goal.returns-clause-made
returns-clause-made c = IfOk-weaker c.make_or_tell.result _ _ (λ _ made. record { given = made.empty; made = made }) c.make_or_tell.ensures.made
