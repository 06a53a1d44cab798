use Rattle.std.proofs.Common.{[], inl, inr, refl}
use Rattle.osm_value.proofs.SinkLemmas.{started}
use Rattle.pbfrow_commands.proofs.status.status.Goals as goal

pub returns-in-Err-clause-told : goal.returns-in-Err-clause-told
returns-in-Err-clause-told g c = λ held holds honest.
    inr (record { fault = c.in-Err.fault; cause = c.in-Err.ensures.cause; own = c.in-Err.ensures.own held holds honest; line = c.put_store_fault.ensures _ [] (started _ _); one = refl })

pub returns-in-Ok-clause-told : goal.returns-in-Ok-clause-told
returns-in-Ok-clause-told g c = λ held holds honest.
    let survey = c.in-Ok.ensures.told held holds honest in
    inl (c.in-Ok.holdings.gaps.items, survey.gaps, c.put_holdings.ensures.told held c.args.size survey)
