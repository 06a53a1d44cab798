use Rattle.std.proofs.Common.{◌∙◌}
use Rattle.std.proofs.lemmas.Result.{MatchResult-weaker}
use Rattle.osm_trees.proofs.Answers.{joined}
use Rattle.osm_trees.proofs.TreeReads.{flags_are}
use Rattle.osm_trees.proofs.history.any_flag.Goals as goal

pub returns-clause-held : goal.returns-clause-held
returns-clause-held g c clean held holds =
    MatchResult-weaker c.meets_flag.result (joined c.meets_flag.result _ _ _ c.meets_flag.ensures.found c.meets_flag.ensures.sound c.meets_flag.ensures.ours)
    (λ found h. (h.0 clean ∙ flags_are (g.S.Store.view c.args.store.now).trees held holds.tables, h.1 clean)) (λ fault h. h)
