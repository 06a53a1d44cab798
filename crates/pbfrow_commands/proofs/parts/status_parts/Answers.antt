use Rattle.std.proofs.Common.{[], inl, inr, refl}
use Rattle.osm_value.proofs.SinkLemmas.{started}
use Rattle.pbfrow_commands.proofs.parts.status_parts.Goals as goal

pub returns-in-Ok-clause-told : goal.returns-in-Ok-clause-told
returns-in-Ok-clause-told g c = λ maps holds honest all.
    let it = c.in-Ok.ensures.told maps holds honest all in
    inr (it.0, it.1, inl (c.in-Ok.holdings.gaps.items, it.2.gaps, c.put_holdings.ensures.told it.0 c.args.size it.2))

pub returns-in-Err-clause-told : goal.returns-in-Err-clause-told
returns-in-Err-clause-told g c = λ maps holds honest all.
    inl (record { fault = c.in-Err.fault; of_maps = c.in-Err.ensures.fault maps holds honest all; cause = c.in-Err.ensures.cause; line = c.put_parts_fault.ensures _ [] (started _ _); one = refl })
