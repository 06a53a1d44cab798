use Rattle.osm_import.proofs.StepLaws.{some-step, one-step}
use Rattle.osm_import.proofs.laws.step_is_one.Goals as goal

pub returns : goal.returns
returns c = record {
  some = λ held off bytes. (let it = some-step held off bytes in (it.answer, it.after, it.step, it.sound));
  one = one-step;
}
