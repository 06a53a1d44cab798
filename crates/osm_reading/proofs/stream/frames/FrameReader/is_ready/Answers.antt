use Rattle.osm_reading.proofs.NextFrame.{ready-result}
use Rattle.osm_reading.proofs.stream.frames.FrameReader.is_ready.Goals as goal

pub returns-clause-ready : goal.returns-clause-ready
returns-clause-ready g c =
    let made = c.absorb.ensures in
    ready-result c.absorb.new.framer c.absorb.new.piece c.absorb.result made.let_go (made.begun c.self.invariant.2) made.full made.spent
