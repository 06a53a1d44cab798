use Rattle.osm_value.proofs.SinkLemmas.{Wrote-text}
use Rattle.osm_reading.proofs.FaultLines.{placed_parts}
use Rattle.osm_reading.proofs.stream.line.put_fault_at.Goals as goal

pub returns : goal.returns
returns g c = λ start before h.
    Wrote-text start _ _ _ _ (placed_parts before c.args.number c.args.name.now c.args.off)
    (c.put.ensures start _ (c.put_digits.ensures start _ (c.put_fault_and.ensures start before h)))
