use Rattle.std.proofs.Common.{rules, ◌≡◌}
use Rattle.osm_value.proofs.SinkLemmas.{Wrote-text}
use Rattle.osm_reading.proofs.FaultLines.{fault_parts}
use Rattle.osm_reading.proofs.stream.line.put_fault_and.Goals as goal

pub returns : goal.returns
returns g c = λ start before h.
    let number : c.from.result ≡ c.args.number = search rules in
    Wrote-text start _ _ _ _ (fault_parts before c.args.number c.from.result c.args.name.now c.as_bytes.result.now c.args.behind.now number c.as_bytes.ensures.value)
    (c.put-4.ensures start _ (c.put-3.ensures start _ (c.put-2.ensures start _ (c.put_digits.ensures start _ (c.put.ensures start before h)))))
