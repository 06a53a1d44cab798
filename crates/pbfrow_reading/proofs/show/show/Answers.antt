use Rattle.pbfrow_reading.proofs.ShowLemmas.{shows-input}
use Rattle.pbfrow_reading.proofs.show.show.Goals as goal

pub returns-clause-shown : goal.returns-clause-shown
returns-clause-shown g c =
    let shown = c.show_blobs-ending.ensures in
    shows-input _ _ _ _ _ _ _ shown.0 shown.1 c.show_blobs-ending.result _ shown.2 c.finish.ensures.unwritten c.finish.ensures.line shown.3 c.finish.ensures.status
