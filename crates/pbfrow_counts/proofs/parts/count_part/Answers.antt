use Rattle.std.proofs.Common.{◌∙◌, subst}
use Rattle.osm_rows.specs.Held.{HeldMap}
use Rattle.osm_parts.proofs.OpeningLemmas.{same-held}
use Rattle.pbfrow_counts.proofs.WalkLemmas.{cause-of-closed, err-map}
use Rattle.pbfrow_counts.proofs.parts.count_part.Goals as goal

pub returns-clause-held : goal.returns-clause-held
returns-clause-held g c = λ maps asked run holds honest is.
    let both = c.close.ensures.honest honest in
    let it = c.in_ok-store.ensures.lent maps holds both.0 (c.count_blobs-answer.ensures.rereads.stays.honest both.1) in
    let same = same-held maps c.args.part.now.place it.held is.store it.at is.at in
    c.count_blobs-answer.ensures.held is.store run (subst (λ (m : HeldMap). g.K.BlobReader.holds c.in_ok-store.store m) same it.store) both.1 is.within (c.deref.ensures.value ∙ is.extents)

pub returns-clause-own : goal.returns-clause-own
returns-clause-own g c = λ maps asked run holds honest is.
    let both = c.close.ensures.honest honest in
    let it = c.in_ok-store.ensures.lent maps holds both.0 (c.count_blobs-answer.ensures.rereads.stays.honest both.1) in
    let same = same-held maps c.args.part.now.place it.held is.store it.at is.at in
    c.count_blobs-answer.ensures.own is.store run (subst (λ (m : HeldMap). g.K.BlobReader.holds c.in_ok-store.store m) same it.store) both.1 is.within (c.deref.ensures.value ∙ is.extents)

pub returns-clause-cause : goal.returns-clause-cause
returns-clause-cause g c =
    err-map c.count_blobs-answer.result _ _ (λ fault cause. cause-of-closed _ _ _ _ _ fault c.in_ok-store.ensures.counted c.close.ensures.counted cause) c.count_blobs-answer.ensures.cause
