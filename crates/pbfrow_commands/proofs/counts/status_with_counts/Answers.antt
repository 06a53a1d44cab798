use Rattle.std.proofs.Common.{[], inl, inr, refl}
use Rattle.osm_value.proofs.SinkLemmas.{started}
use Rattle.pbfrow_commands.specs.Telling.{telling}
use Rattle.pbfrow_commands.proofs.CensusLemmas.{count-fault}
use Rattle.pbfrow_commands.proofs.counts.status_with_counts.Goals as goal

pub returns-in-Ok-clause-told : goal.returns-in-Ok-clause-told
returns-in-Ok-clause-told g c = λ held holds honest.
    let census = c.in-Ok.ensures.told held holds honest in
    inl (c.in-Ok.census.holdings.gaps.items, c.in-Ok.census.counts, census.survey.gaps, census.counts, c.put_census.ensures.told held c.args.size census)

pub returns-in-Err-clause-told : goal.returns-in-Err-clause-told
returns-in-Err-clause-told g c = λ held holds honest.
    inr (count-fault (telling g.K.BlobReader.failures g.S.Sink c.args.store.now c.take_census.new.store c.args.out.now c.put_count_fault.new.out 1) c.in-Err.fault (c.in-Err.ensures.own held holds honest) c.in-Err.ensures.cause (c.put_count_fault.ensures _ [] (started _ _)) refl)
