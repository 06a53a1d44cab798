-- One frame of a stream: from what its calls say to what was done.
use Rattle.std.proofs.Common.{◌≡◌, ◌⊎◌, ℕ, Bool, List, [], ◌++◌, None, Ok, refl, sym, ap, subst, ◌∙◌, inl, inr}
use Rattle.std.specs.Io.KnownBytes.{Consumes, IsAtEnd}
use Rattle.pbf_frame.specs.declared.fault.FrameFault.{FrameFault}
use Rattle.pbf_frame.specs.Framer.{Framing, FaultStands, IsUnfinished, waiting}
use Rattle.osm_reading.specs.Framings.{Known, Moved, IsBegun, HasNoFrame}
use Rattle.osm_reading.specs.FrameReads.{HasFrame, LacksFrame}
use Rattle.osm_import.specs.StreamSteps.{FrameStop}
use Rattle.osm_import.specs.declared.answer.Answer.{Answer}
use Rattle.osm_import.specs.declared.stream.fault.ImportFault.TheVariants.{Stream}
use Rattle.osm_reading.specs.declared.stream.fault.Stop.{Stop}
use Rattle.osm_reading.specs.declared.stream.fault.Stop.TheVariants.{Frame, NoHeaderFirst, ReadFailed, Memory}
use Rattle.osm_reading.proofs.Begun.{no-frame}
use Rattle.osm_import.proofs.StreamLemmas.{none-waits}

-- what the framer has is what the input lost
abbrev pub Got : Framing → Framing → Known → Known → Type 0
Got f g before after = (g.offset ≡ f.offset) × Consumes before after g.rest

pub got-of : (f g : Framing) (before after : Known) → Moved f g before after → f.rest ≡ [] → Got f g before after
got-of f g before after moved empty = (moved.1, subst (Consumes before after) (sym (moved.2 ∙ ap (λ (v : List ℕ). v ++ moved.0) empty)) moved.3)

pub frame-stopped : (tells : Answer → Bool) (f : Framing) (before after written : Known) (source_failed sink_failed : Bool) (Same : Type 0) (One : ℕ → List ℕ → Answer → Type 0) (g : Framing) (fault : FrameFault) → Got f g before after
    → FaultStands fault g ⊎ (IsUnfinished fault g × IsAtEnd after) → Same → FrameStop f (record { before = before; after = after; has_failed = source_failed }) (record { tells = tells; before = written; after = written; has_failed = sink_failed }) Same One (Stream (Frame fault))
frame-stopped tells f before after written source_failed sink_failed Same One g fault got why same = (
  refl,
  same,
  (
    g.rest,
    g.lent,
    got.1,
    subst (λ n. FaultStands fault (record { offset = n; rest = g.rest; lent = g.lent }) ⊎ (IsUnfinished fault (record { offset = n; rest = g.rest; lent = g.lent }) × IsAtEnd after)) got.0 why,
  ),
)

pub reading-stopped : (tells : Answer → Bool) (f : Framing) (before after written : Known) (source_failed sink_failed : Bool) (Same : Type 0) (One : ℕ → List ℕ → Answer → Type 0) (g : Framing) (stop : Stop) → Got f g before after → IsBegun g → LacksFrame g after source_failed stop → Same
    → FrameStop f (record { before = before; after = after; has_failed = source_failed }) (record { tells = tells; before = written; after = written; has_failed = sink_failed }) Same One (Stream stop)
reading-stopped tells f before after written source_failed sink_failed Same One g (Frame fault) got begun lacks same = frame-stopped tells f before after written source_failed sink_failed Same One g fault got lacks same
reading-stopped tells f before after written source_failed sink_failed Same One g ReadFailed got begun lacks same = (refl, same, lacks.0, (g.rest, got.1, subst (λ n. HasNoFrame n g.rest) got.0 (no-frame g begun lacks.1)))
reading-stopped tells f before after written source_failed sink_failed Same One g Memory got begun lacks same = (refl, same, (g.rest, got.1))
reading-stopped tells f before after written source_failed sink_failed Same One g NoHeaderFirst got begun lacks same = absurd lacks

-- where none is given nothing is held, and the input has ended
pub nothing-held : (f : Framing) (left : Known) → waiting f ≡ Ok None → HasFrame f left → (f.rest ≡ []) × IsAtEnd left
nothing-held f left none (inl waits) = absurd (none-waits f none waits)
nothing-held f left none (inr held) = held
