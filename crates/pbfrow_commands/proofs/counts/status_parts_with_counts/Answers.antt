use Rattle.std.proofs.Common.{[], false, List, inl, inr, refl, sym, subst}
use Rattle.osm_value.proofs.SinkLemmas.{started}
use Rattle.osm_parts.specs.Reading.{AreRead}
use Rattle.osm_parts.specs.declared.runs.Part.{Part}
use Rattle.osm_parts.proofs.ReadingLemmas.{whole-read}
use Rattle.pbfrow_counts.proofs.WalkLemmas.{cause-of-later}
use Rattle.pbfrow_commands.specs.Telling.{telling}
use Rattle.pbfrow_commands.proofs.CensusLemmas.{count-fault}
use Rattle.pbfrow_commands.proofs.counts.status_parts_with_counts.Goals as goal

pub returns-in-Err-clause-told : goal.returns-in-Err-clause-told
returns-in-Err-clause-told g c = λ maps holds honest all.
    inl (record { fault = c.in-Err.fault; of_maps = c.in-Err.ensures.fault maps holds honest all; cause = c.in-Err.ensures.cause; line = c.put_parts_fault.ensures _ [] (started _ _); one = refl })

pub returns-in-Ok-take_census_of_parts-clause-told : goal.returns-in-Ok-take_census_of_parts-clause-told
returns-in-Ok-take_census_of_parts-clause-told g c = λ maps holds honest all.
    let made = c.in-Ok-take_census_of_parts in
    let earlier = made.ensures.opens.keeps.honest honest in
    let still = c.in-Ok.ensures.opens.ok earlier maps holds in
    let lent = subst (λ (parts : List Part). AreRead maps false parts) (sym c.deref.ensures.value) (c.in-Ok.ensures.read maps holds earlier all) in
    let it = whole-read maps false c.deref.result.now lent in
    let census = made.ensures.told maps it.0 still honest lent it.1 in
    inr (it.0, it.2, inl (made.census.holdings.gaps.items, made.census.counts, census.survey.gaps, census.counts, c.put_census.ensures.told it.0 c.args.size census))

pub returns-clause-told : goal.returns-clause-told
returns-clause-told g c = λ maps holds honest all.
    let made = c.in-Err-take_census_of_parts in
    let earlier = made.ensures.opens.keeps.honest honest in
    let still = c.in-Ok.ensures.opens.ok earlier maps holds in
    let lent = subst (λ (parts : List Part). AreRead maps false parts) (sym c.deref.ensures.value) (c.in-Ok.ensures.read maps holds earlier all) in
    let it = whole-read maps false c.deref.result.now lent in
    inr (
      it.0,
      it.2,
      inr (count-fault (telling g.O.Openings.failures g.S.Sink c.args.openings.now c.take_census_of_parts.new.openings c.args.out.now c.put_count_fault.new.out 1) made.fault (made.ensures.own maps still honest lent) (cause-of-later _ _ _ made.fault c.in-Ok.ensures.counted made.ensures.cause) (c.put_count_fault.ensures _ [] (started _ _)) refl),
    )
