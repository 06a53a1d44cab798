use Rattle.std.proofs.Common.{subst}
use Rattle.osm_verify.specs.declared.comparing.Depth.{Depth}
use Rattle.pbfrow_commands.specs.Verifying.{HasSeenInput}
use Rattle.pbfrow_commands.proofs.VerifyLemmas.{verifies-input, exact-at-zero, shown-at-zero}
use Rattle.pbfrow_commands.proofs.verify.verify.Goals as goal

pub returns-clause-verified : goal.returns-clause-verified
returns-clause-verified g c = λ held holds honest.
    let told = c.compare_blobs-close.ensures.told held holds honest in
    verifies-input c.args.depth held _ _ _ _ _ _ _ _ told.0 c.compare_blobs-close.result _ told.1 c.finish.ensures.unwritten (c.finish.ensures.line told.0 told.2) (c.finish.ensures.status told.0 told.2)

pub returns-clause-exact : goal.returns-clause-exact
returns-clause-exact g c = λ held holds honest zero.
    exact-at-zero c.args.depth held _ _ _ _ _ _ _ (g.met.K.BlobReader.is_apart _ held holds) (returns-clause-verified g c held holds honest) zero

pub returns-clause-shown : goal.returns-clause-shown
returns-clause-shown g c = λ honest tables deep zero.
    let A = g.K.Audited in
    let db = A.trees c.args.store.now in
    let seen = subst (λ (d : Depth). HasSeenInput (A.has_rows db) A.layout db d (g.R.Read.remaining c.args.input.now) c.compare_blobs-close.new.counts c.compare_blobs-close.result) deep (c.compare_blobs-close.ensures.seen honest tables) in
    shown-at-zero (A.has_rows db) A.layout db (g.met.K.Audited.shown db) _ c.compare_blobs-close.new.counts c.compare_blobs-close.result _ _ seen (c.finish.ensures.whole zero) c.finish.ensures.status zero
