use Rattle.std.proofs.Common.{refl}
use Rattle.osm_import.proofs.SeenTextsLemmas.{both-few}
use Rattle.osm_import.proofs.few_texts.has_few.Goals as goal

pub returns-then-has_few_uses : goal.returns-then-has_few_uses
returns-then-has_few_uses c = both-few c.args.element.now (c.if-has_few_uses.ensures refl)
