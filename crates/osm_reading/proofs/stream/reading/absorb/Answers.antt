use Rattle.std.proofs.Common.{◌≡◌, ◌∙◌, List, ℕ, ap, sym, subst, length}
use Rattle.pbf_frame.specs.Framer.{Framing, TakesNothing, fed, taken}
use Rattle.osm_reading.specs.Framings.{IsFull, IsBegun}
use Rattle.osm_reading.proofs.Begun.{begun_fed, moved_fed}
use Rattle.osm_reading.proofs.Filling.{spent-unless-full}
use Rattle.osm_reading.proofs.stream.reading.absorb.Goals as goal

pub returns-in_err-count-clause-begun : goal.returns-in_err-count-clause-begun
returns-in_err-count-clause-begun c = λ begun. subst (λ (h : Framing). IsBegun h) (sym c.in_err-count.ensures.err) (c.loop-count.invariant.begun begun)

pub returns-then-count-eq0-clause-begun : goal.returns-then-count-eq0-clause-begun
returns-then-count-eq0-clause-begun c = λ begun.
    subst (λ (h : Framing). IsBegun h) (sym c.in_ok-count.ensures.ok) (begun_fed c.loop-count.framer c.unread.result.now (c.loop-count.invariant.begun begun))

pub loop-count-preserved : goal.loop-count-preserved
loop-count-preserved c =
    let f = c.loop-count.framer in
    let piece = c.loop-count.piece in
    let fed_is : c.feed.new.self ≡ fed f piece = c.in_ok-count.ensures.ok ∙ ap (λ (v : List ℕ). fed f v) c.unread.ensures in
    record {
      moved = moved_fed c.args.framer.now f c.feed.new.self c.args.piece.now piece c.skip.new.self c.in_ok-count.count c.loop-count.invariant.moved fed_is
          (c.in_ok-count.ensures.count ∙ ap (λ (v : List ℕ). length (taken f v)) c.unread.ensures) c.skip.ensures;
      begun = λ begun. subst (λ (h : Framing). IsBegun h) (sym fed_is) (begun_fed f piece (c.loop-count.invariant.begun begun));
    }

pub returns-then-count-eq0-clause-spent : goal.returns-then-count-eq0-clause-spent
returns-then-count-eq0-clause-spent c =
    let f = c.loop-count.framer in
    let piece = c.loop-count.piece in
    let fed_is : c.feed.new.self ≡ fed f piece = c.in_ok-count.ensures.ok ∙ ap (λ (v : List ℕ). fed f v) c.unread.ensures in
    spent-unless-full f piece c.in_ok-count.count c.is_full.result (c.in_ok-count.ensures.count ∙ ap (λ (v : List ℕ). length (taken f v)) c.unread.ensures) c.if-count-eq0.true
    (subst (λ (v : List ℕ). TakesNothing f v) c.unread.ensures (c.in_ok-count.ensures.none.0 c.if-count-eq0.true))
    (λ full. c.is_full.ensures.1 (subst (λ (h : Framing). IsFull h) (sym fed_is) full))
