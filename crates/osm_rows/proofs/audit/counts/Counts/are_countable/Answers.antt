use Rattle.std.proofs.Common.{◌∙◌, true≢false, sym}
use Rattle.osm_rows.proofs.audit.counts.Counts.are_countable.Goals as goal

pub returns-then-held : goal.returns-then-held
returns-then-held c =
    let one = c.are_few-held.ensures in
    let two = c.are_few-parts.ensures in (
      (λ told. record { blobs = (one.0 c.if-held.true).0; elements = (one.0 c.if-held.true).1; tags = (two.0 told).0; links = (two.0 told).1 }),
      (λ few. two.1 (few.tags, few.links)),
    )

pub returns-else-held : goal.returns-else-held
returns-else-held c = (
  (λ bad. absurd (true≢false (sym bad ∙ c.if-held.false))),
  (λ few. absurd (true≢false (sym (c.are_few-held.ensures.1 (few.blobs, few.elements)) ∙ c.if-held.false))),
)
