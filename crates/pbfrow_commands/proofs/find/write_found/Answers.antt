use Rattle.std.proofs.Common.{◌++◌, List, ap, ◌∙◌}
use Rattle.osm_value.proofs.SinkLemmas.{Wrote-text}
use Rattle.osm_rows.specs.Rows.{Placed}
use Rattle.pbfrow_commands.specs.CommandLines.{match_lines}
use Rattle.pbfrow_commands.proofs.find.write_found.Goals as goal

pub returns-clause-lines : goal.returns-clause-lines
returns-clause-lines g c = λ matches are start before h.
    Wrote-text start _ _ _ _ (ap (λ (ms : List Placed). before ++ match_lines ms) (c.deref.ensures.value ∙ c.in_ok-matches.ensures matches are)) (c.put_matches.ensures start before h)
