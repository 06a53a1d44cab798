use Rattle.std.proofs.Common.{[], ◌∙◌}
use Rattle.pbfrow_commands.proofs.counts.take_census.Goals as goal

pub returns-clause-told : goal.returns-clause-told
returns-clause-told g c = λ held holds honest.
    let earlier = c.in_ok-count_blobs.ensures.rereads.stays.honest honest in
    let all = c.in_ok-extents.ensures.all held holds earlier in
    let still = c.in_ok-extents.ensures.reads.ok earlier held holds in
    record {
      survey = c.in_ok-holdings.ensures held (g.met.K.BlobReader.is_apart _ held holds) (c.deref.ensures.value ∙ all);
      counts = c.in_ok-count_blobs.ensures.held held held still honest (λ off blob found. found) (c.deref-2.ensures.value ∙ all) [] c.none-counts.ensures;
    }
