use Rattle.std.proofs.Common.{◌≡◌, ◌∙◌, ℕ, ◌+◌, List, Some, Ok, sym, ap, subst, length, rules}
use Rattle.pbf_frame.specs.Framer.{Framing, given, waiting}
use Rattle.pbf_frame.proofs.WaitingLaws.{waiting_read}
use Rattle.osm_import.specs.Stores.{TakesOne}
use Rattle.osm_import.proofs.stream.run.deliver_waiting.Goals as goal

pub returns : goal.returns
returns g c =
    let K = g.K.BlobReader in
    let f = c.args.framer.now in
    let lent = c.in-Ok-Some.lent in
    let state : c.next_frame.follows.lender-at-none ≡ given f (waiting f) = search rules in
    let shown_is : Ok (Some (lent.0, lent.1.now)) ≡ waiting f = rw c.in-Ok-Some.field-0-is at c.in-Ok-Some.ensures.exact in
    let read = waiting_read f (lent.0, lent.1.now) (sym shown_is) in
    let off : lent.0 ≡ f.offset = ap (λ (x : ℕ × List ℕ). x.0) read.0 in
    let bytes : lent.1.now ≡ f.rest = ap (λ (x : ℕ × List ℕ). x.1) read.0 in
    let is : c.next_frame.follows.lender-at-none ≡ given f (Ok (Some (lent.0, lent.1.now))) = state ∙ ap (given f) (sym shown_is) in (
      read.1,
      off,
      ap (λ (x : ℕ × List ℕ). x.0 + length x.1) read.0,
      ap (λ (h : Framing). h.offset) is,
      ap (λ (h : Framing). h.rest) is,
      subst (λ (x : ℕ × List ℕ). TakesOne K c.args.keeper.now c.deliver-answer.new.keeper x.0 x.1 c.deliver-answer.result) read.0 c.deliver-answer.ensures,
    )
