use Rattle.std.proofs.Common.{[], inl, inr, refl}
use Rattle.osm_value.proofs.SinkLemmas.{started}
use Rattle.pbfrow_commands.proofs.verify_parts.verify_parts.Goals as goal

pub returns-in-Ok-clause-told : goal.returns-in-Ok-clause-told
returns-in-Ok-clause-told g c = λ maps holds honest all.
    inr (record {
      verdict = c.in-Ok.verdict;
      is = c.in-Ok.ensures.told maps holds honest all;
      text = c.put_verdict.ensures _ [] (started _ _);
      agreed = c.agrees.result;
      agrees = c.agrees.ensures;
      status_is = c.status.ensures.is;
    })

pub returns-in-Err-clause-told : goal.returns-in-Err-clause-told
returns-in-Err-clause-told g c = λ maps holds honest all.
    inl (record {
      fault = c.in-Err.fault;
      of_maps = c.in-Err.ensures.fault maps holds honest all;
      cause = c.in-Err.ensures.cause maps holds honest;
      line = c.put_audit_fault.ensures _ [] (started _ _);
      one = refl;
    })
