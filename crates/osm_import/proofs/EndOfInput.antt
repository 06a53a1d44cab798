-- What a reader of frames answers where no byte is left.
use Rattle.std.proofs.Common.{◌≡◌, ◌⊎◌, ℕ, ◌<◌, List, [], ◌∷◌, length, Some, None, refl, ap, subst, inl, inr, arith}
use Rattle.std.specs.Io.KnownBytes.{Consumes, IsAtEnd}
use Rattle.std.proofs.lemmas.List.{length-append}
use Rattle.pbf_frame.specs.declared.fault.FrameFault.{FrameFault}
use Rattle.pbf_frame.specs.Framer.{Framing, FaultStands, IsUnfinished}
use Rattle.osm_reading.specs.Framings.{Known}
use Rattle.osm_reading.specs.FrameReads.{Reading, GivesFrame, Halts, LacksFrame, framing_of}
use Rattle.osm_reading.specs.declared.stream.fault.Stop.{Stop}
use Rattle.osm_reading.specs.declared.stream.fault.Stop.TheVariants.{Frame}
use Rattle.osm_reading.specs.declared.stream.fault.StreamFault.{StreamFault}
use Rattle.osm_reading.proofs.Filling.{empty-full}

stands-in-a-byte : (w : List ℕ) (fault : FrameFault) (f : Framing) → f.rest ≡ w → FaultStands fault f → 0 < length f.rest
stands-in-a-byte [] fault f empty stands = absurd (empty-full f empty (inr (fault, stands)))
stands-in-a-byte (b ∷ w) fault f some stands = omega (arith, ap length some)

pub needs-a-byte : (fault : FrameFault) (f : Framing) → FaultStands fault f ⊎ IsUnfinished fault f → 0 < length f.rest
needs-a-byte fault f (inl stands) = stands-in-a-byte f.rest fault f refl stands
needs-a-byte fault f (inr unfinished) = unfinished.2

-- of no bytes none are read
none-read : (old behind : Known) (got : List ℕ) → old ≡ Some [] → Consumes old behind got → length got ≡ 0
none-read old behind got empty read = go behind (subst (λ (o : Known). Consumes o behind got) empty read)
  where
    go : (behind : Known) → Consumes (Some []) behind got → length got ≡ 0
    go None h = absurd h
    go (Some ys) h = omega (arith, ap length h, length-append got ys)

pub no-frame-left : (old new : Reading) (at : ℕ) (frame : List ℕ) → old.left ≡ Some [] → GivesFrame old new at frame → ⊥
no-frame-left old new at frame empty gives = (let none = none-read old.left new.left frame empty gives.read in let some = gives.some in omega arith)

pub no-fault-left : (old new : Reading) (fault : FrameFault) (stop : StreamFault) → old.left ≡ Some [] → stop.fault ≡ Frame fault → Halts old new stop → ⊥
no-fault-left old new fault stop empty is halts =
    let none = none-read old.left halts.behind halts.got empty halts.read in
    let why : LacksFrame (framing_of old.offset halts.got) halts.behind new.has_failed (Frame fault) = subst (λ (s : Stop). LacksFrame (framing_of old.offset halts.got) halts.behind new.has_failed s) is halts.why in
    let some : 0 < length halts.got = needs-a-byte fault (framing_of old.offset halts.got) (either why) in
    omega arith
  where
    either : FaultStands fault (framing_of old.offset halts.got) ⊎ (IsUnfinished fault (framing_of old.offset halts.got) × IsAtEnd halts.behind) → FaultStands fault (framing_of old.offset halts.got) ⊎ IsUnfinished fault (framing_of old.offset halts.got)
    either (inl stands) = inl stands
    either (inr unfinished) = inr unfinished.0
