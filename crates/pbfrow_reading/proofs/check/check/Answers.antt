use Rattle.pbfrow_reading.proofs.CheckLemmas.{checks-input, checks-whole}
use Rattle.pbfrow_reading.proofs.check.check.Goals as goal

pub returns-clause-checked : goal.returns-clause-checked
returns-clause-checked g c =
    let counted = c.count_blobs-ending.ensures in
    checks-input _ _ _ _ _ _ counted.0 c.count_blobs-ending.result _ counted.1 c.finish.ensures.unwritten (c.finish.ensures.line counted.0 counted.2) (c.finish.ensures.status counted.0 counted.2)

pub returns-clause-whole : goal.returns-clause-whole
returns-clause-whole g c = λ zero.
    let counted = c.count_blobs-ending.ensures in
    checks-whole _ _ _ _ _
    (checks-input _ _ _ _ _ _ counted.0 c.count_blobs-ending.result _ counted.1 c.finish.ensures.unwritten (c.finish.ensures.line counted.0 counted.2) (c.finish.ensures.status counted.0 counted.2)) zero
