use Rattle.std.proofs.Common.{◌≡◌, refl, sym, ap, subst, rules, Ok, Result, Option, List, ℕ}
use Rattle.std.specs.Borrow.{Bor}
use Rattle.pbf_frame.specs.Framer.{given, waiting}
use Rattle.osm_reading.specs.FrameReads.{Reading, Halts, ReadsFrame}
use Rattle.osm_reading.specs.declared.stream.fault.StreamFault.{StreamFault}
use Rattle.osm_reading.proofs.NextFrame.{before, halts, gives, faultless, begun-next}
use Rattle.osm_reading.proofs.stream.frames.FrameReader.next.Goals as goal
use Rattle.osm_reading.proofs.stream.frames.FrameReader.next.Goals.{in-Ok-next_frame, in-Err-next_frame}

pub returns-in-Err : goal.returns-in-Err
returns-in-Err g c =
    let s = c.self.inside in
    let r = c.read_frame.new in
    let was = g.R.Source.has_failed s.reader in
    let is = g.R.Source.has_failed r.reader in
    let fact = halts s.framer r.framer s.piece r.piece (g.R.Source.bytes_left s.reader) (g.R.Source.bytes_left r.reader) was is s.next_at c.in-Err.fault
    c.read_frame.ensures.moved c.read_frame.ensures.let_go c.self.invariant.0 c.in-Err.ensures.err (c.read_frame.ensures.begun c.self.invariant.2) c.in-Err.ensures.spent
    (λ ready. ap g.R.Source.bytes_left (c.read_frame.ensures.late c.self.invariant.2 ready)) in (
      (refl, λ x. tt, subst (λ (old : Reading). Halts old (before r.framer r.piece (g.R.Source.bytes_left r.reader) is) (record { fault = c.in-Err.fault; at = s.next_at })) c.self.view_is fact),
      record { after = tt },
    )

pub returns : goal.returns
returns g c =
    let s = c.self.inside in
    let r = c.read_frame.new in
    let was = g.R.Source.has_failed s.reader in
    let is = g.R.Source.has_failed r.reader in
    let after = c.next_frame.follows.lender-at-none in
    let new : Reading = before after r.piece (g.R.Source.bytes_left r.reader) is in
    let state : after ≡ given r.framer (waiting r.framer) = search rules in
    let fact : ReadsFrame c.args.self.now new c.match-next_frame.result = elim c.match-next_frame.branch [
      | in-Ok-next_frame w ↦ subst (λ (x : Result (Option (ℕ × Bor (List ℕ))) StreamFault). ReadsFrame c.args.self.now new x) (sym w.result-is)
          (subst (λ (old : Reading). ReadsFrame old new (Ok w.in-Ok-next_frame.lent)) c.self.view_is
          (gives s.framer r.framer after s.piece r.piece (g.R.Source.bytes_left s.reader) (g.R.Source.bytes_left r.reader) was is w.in-Ok-next_frame.lent
          c.read_frame.ensures.moved c.in-Ok.ensures.ok w.in-Ok-next_frame.ensures.exact state (λ ready. ap g.R.Source.bytes_left (c.read_frame.ensures.late c.self.invariant.2 ready))))
      | in-Err-next_frame w ↦ absurd (faultless r.framer _ w.in-Err-next_frame.fault c.in-Ok.ensures.ok w.in-Err-next_frame.ensures.exact)
    ] in ((refl, λ x. tt, fact), record { after = tt })

pub invariant_of-self-2 : goal.invariant_of-self-2
invariant_of-self-2 g c =
    let state : c.next_frame.follows.lender-at-none ≡ given c.read_frame.new.framer (waiting c.read_frame.new.framer) = search rules in
    (search rules, search rules, begun-next c.read_frame.new.framer c.next_frame.follows.lender-at-none _ c.in-Ok.ensures.ok state)
