use Rattle.std.proofs.Common.{subst, ap}
use Rattle.std.specs.Prelude.{option_to_list}
use Rattle.osm_import.specs.SeenTexts.{AddsTexts}
use Rattle.osm_import.proofs.SeenTextsLemmas.{adds-one}
use Rattle.osm_import.proofs.few_texts.add_user.Goals as goal

pub returns-in_ok-insert : goal.returns-in_ok-insert
returns-in_ok-insert c =
    subst (AddsTexts c.args.seen.now c.insert.new.self) (ap option_to_list c.in-Some.ensures.exact)
    (adds-one c.args.seen.now c.insert.new.self c.in-Some.user.now c.in_ok-insert.ensures.updates.0)
