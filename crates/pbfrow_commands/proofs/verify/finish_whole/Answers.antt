use Rattle.std.proofs.Common.{◌≡◌, ◌∙◌, length, ap}
use Rattle.osm_value.proofs.SinkLemmas.{Wrote-text}
use Rattle.pbfrow_commands.specs.Verifying.{agree, counts_of}
use Rattle.pbfrow_reading.specs.Walks.{status_of}
use Rattle.pbfrow_commands.proofs.VerifyLemmas.{whole-parts}
use Rattle.pbfrow_commands.proofs.verify.finish_whole.Goals as goal

pub returns-clause-line : goal.returns-clause-line
returns-clause-line g c = λ blobs is start before h.
    let counted : c.add_extras.new.self ≡ counts_of blobs (length c.args.extras.now) = c.add_extras.ensures blobs is in
    Wrote-text start _ _ _ _ (whole-parts before blobs c.args.extras.now c.add_extras.new.self counted)
    (c.put_counts.ensures start _ (c.put_extras.ensures start _ (c.put_lack.ensures blobs is start before h)))

pub returns-clause-status : goal.returns-clause-status
returns-clause-status g c = λ blobs is.
    let counted : c.add_extras.new.self ≡ counts_of blobs (length c.args.extras.now) = c.add_extras.ensures blobs is in
    c.status.ensures.is ∙ ap (λ b. status_of b (g.S.Sink.has_failed c.put_counts.new.out)) (c.agree.ensures ∙ ap agree counted)
