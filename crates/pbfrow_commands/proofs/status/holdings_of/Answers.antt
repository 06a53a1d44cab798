use Rattle.std.proofs.Common.{refl, ◌∙◌, ap}
use Rattle.osm_import.specs.Gaps.{ranges_between}
use Rattle.pbfrow_commands.proofs.StatusLemmas.{survey-whole}
use Rattle.pbfrow_commands.proofs.status.holdings_of.Goals as goal

pub returns : goal.returns
returns c = λ held apart are.
    survey-whole held c.args.size c.args.extents.now _ apart are refl c.greatest_end-end.ensures (c.in_ok-gaps.ensures ∙ ap (λ n. ranges_between 0 n c.args.extents.now) c.unwrap_or.ensures)
