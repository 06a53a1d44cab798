use Rattle.osm_tree_audits.proofs.Looking.{looks_then}
use Rattle.osm_tree_audits.proofs.look.look_at_indexes.Goals as goal

pub returns-then-is_none-clause-looks : goal.returns-then-is_none-clause-looks
returns-then-is_none-clause-looks g c =
    looks_then g.S.Store _ _ _ (looks_then g.S.Store _ _ _ (looks_then g.S.Store _ _ _ (looks_then g.S.Store _ _ _ c.counts_in_step.ensures.looks c.look_on.ensures.looks) c.look_at.ensures.looks) c.look_at-2.ensures.looks) c.look_on-2.ensures.looks

pub returns-clause-looks : goal.returns-clause-looks
returns-clause-looks g c =
    looks_then g.S.Store _ _ _ (looks_then g.S.Store _ _ _ (looks_then g.S.Store _ _ _ (looks_then g.S.Store _ _ _ c.counts_in_step.ensures.looks c.look_on.ensures.looks) c.look_at.ensures.looks) c.look_at-2.ensures.looks) c.look_on-2.ensures.looks
