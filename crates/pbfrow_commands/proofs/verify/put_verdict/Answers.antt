use Rattle.osm_value.proofs.SinkLemmas.{Wrote-text}
use Rattle.pbfrow_commands.proofs.VerifyLemmas.{agreement_parts, fault_parts}
use Rattle.pbfrow_commands.proofs.verify.put_verdict.Goals as goal

pub returns-in-Ok : goal.returns-in-Ok
returns-in-Ok g c = λ start before h.
    Wrote-text start _ _ _ _ (agreement_parts before c.args.at c.in-Ok.agreement c.args.verdict c.in-Ok.is) (c.put_agreement.ensures start before h)

pub returns-in-Err : goal.returns-in-Err
returns-in-Err g c = λ start before h.
    Wrote-text start _ _ _ _ (fault_parts before c.args.at _ _ c.in-Err.fault c.args.verdict c.in-Err.is c.number.ensures c.name.ensures) (c.put_fault_at.ensures start before h)
