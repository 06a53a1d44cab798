use Rattle.std.proofs.Common.{[], false, ◌∙◌}
use Rattle.osm_parts.proofs.OpeningLemmas.{if-err}
use Rattle.osm_parts.proofs.ReadingLemmas.{read-apart}
use Rattle.pbfrow_counts.specs.Counting.{IsOfMap}
use Rattle.pbfrow_commands.proofs.counts.take_census_of_parts.Goals as goal

pub returns-in_err-count_parts-clause-own : goal.returns-in_err-count_parts-clause-own
returns-in_err-count_parts-clause-own g c = λ maps holds honest read.
    if-err c.from_residual-in_err-count_parts.result c.in_err-count_parts.field-0.0 IsOfMap c.from_residual-in_err-count_parts.ensures.1
    (c.in_err-count_parts.ensures.own maps false holds honest read)

pub returns-clause-told : goal.returns-clause-told
returns-clause-told g c = λ maps whole holds honest read are.
    record {
      survey = c.in_ok-holdings.ensures whole (read-apart maps false c.args.parts.now whole read are) (c.deref.ensures.value ∙ c.in_ok-extents.ensures.whole maps false whole read are);
      counts = c.in_ok-count_parts.ensures.held maps false whole holds honest read are [] c.none-counts.ensures;
    }
