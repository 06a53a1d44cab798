use Rattle.pbfrow_reading.proofs.ListLemmas.{lists-input, lists-whole}
use Rattle.pbfrow_reading.proofs.list.list.Goals as goal

pub returns-clause-listed : goal.returns-clause-listed
returns-clause-listed g c =
    lists-input _ _ _ _ _ _ c.list_frames-ending.ensures.0 c.list_frames-ending.result _ c.list_frames-ending.ensures.1 c.finish.ensures.unwritten c.finish.ensures.line c.finish.ensures.status

pub returns-clause-whole : goal.returns-clause-whole
returns-clause-whole g c = λ zero.
    lists-whole _ _ _ _ _
    (lists-input _ _ _ _ _ _ c.list_frames-ending.ensures.0 c.list_frames-ending.result _ c.list_frames-ending.ensures.1 c.finish.ensures.unwritten c.finish.ensures.line c.finish.ensures.status) zero
