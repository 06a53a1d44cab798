-- From what is read of a delivery to what it is.
use Rattle.std.proofs.Common.{◌≡◌, ◌≢◌, ℕ, cond, ltb, List, length, Option, Some, None, Ok, Err, refl, subst, inl, inr}
use Rattle.std.specs.Prelude.{MatchOption}
use Rattle.std.proofs.lemmas.Bool.{ltb-true}
use Rattle.pbf_wire.proofs.Choices.{chosen, err_is, not_both, then_err}
use Rattle.osm_value.specs.declared.element.Element.{Element}
use Rattle.pbf_frame.specs.declared.kind.Kind.{Kind}
use Rattle.pbf_frame.specs.declared.fault.FrameFault.{FrameFault}
use Rattle.pbf_frame.specs.declared.fault.FrameFault.TheVariants as frames
use Rattle.pbf_frame.specs.Frame.{Frame, FirstFault, Found, kind_of, frame_at, whole_at}
use Rattle.pbf_frame.proofs.FrameLaws.{frame_faults, is_followed, whole_takes}
use Rattle.osm_reading.specs.Good.{IsGood, IsPlaced, HasElements}
use Rattle.osm_reading.specs.Bad.{IsBad, IsBadFrame, CanStand, IsMisplaced, IsBadBlob, IsFinding, IsBlobFinding}
use Rattle.osm_reading.specs.declared.fault.Fault.{Fault}
use Rattle.osm_reading.specs.declared.fault.Fault.TheVariants as faults
use Rattle.osm_reading.specs.declared.examination.ExamineFault.{ExamineFault}
use Rattle.osm_reading.specs.declared.examination.ExamineFault.TheVariants as found

pub when_none : {A : Type 0} (o : Option A) (P : Type 0) (Q : A → Type 0) → MatchOption o P Q → ((x : A) → o ≢ Some x) → P
when_none None P Q h none = h
when_none (Some x) P Q h none = absurd (none x refl)

bad-frame : (off : ℕ) (w : List ℕ) (fault : FrameFault) → FirstFault fault w → IsBadFrame off w fault
bad-frame off w frames.OffsetTooLarge h = absurd h.0
bad-frame off w frames.Trailing h = absurd h.0
bad-frame off w fault h = h

pub whole-faults : (off : ℕ) (w : List ℕ) (fault : FrameFault) → whole_at w ≡ Err fault → IsBadFrame off w fault
unfolding whole_at
whole-faults off w fault e =
    elim (then_err (frame_at w) (λ g. cond (ltb g.len (length w)) (Err frames.Trailing) (Ok g)) fault e) [
      | inl a ↦ bad-frame off w fault (frame_faults w fault a)
      | inr a ↦ elim (chosen (ltb a.0.len (length w)) (Err frames.Trailing) (Ok a.0) (Err fault) a.2) [
        | inl p ↦ subst (IsBadFrame off w) (err_is {A = Found} frames.Trailing fault p.1) (is_followed w a.0 a.1 (ltb-true _ _ p.0))
        | inr p ↦ not_both a.0 fault p.1
      ]
    ]

pub misplaced : (off : ℕ) (w : List ℕ) (f : Found) (fault : Fault) → whole_at w ≡ Ok f → IsMisplaced off f.kind f.len fault → IsBad off w fault
misplaced off w f fault e h =
    let t = whole_takes w f e in
    go fault t.0 (subst (λ (k : Kind). IsMisplaced off k (length w) fault) t.1 (subst (λ n. IsMisplaced off f.kind n fault) t.2 h))
  where
    go : (fault : Fault) → Frame f.type_name f.blob w → IsMisplaced off (kind_of f.type_name) (length w) fault → IsBad off w fault
    go (faults.Frame frames.OffsetTooLarge) frame h = ((f.type_name, f.blob, frame), h)
    go faults.NoHeaderFirst frame h = (f.type_name, f.blob, frame, h.0, h.1, h.2)
    go faults.HeaderNotFirst frame h = (f.type_name, f.blob, frame, h.0, h.1, h.2)
    go (faults.Frame other) frame h = absurd h
    go (faults.Blob other) frame h = absurd h
    go (faults.Header other) frame h = absurd h
    go (faults.Block other) frame h = absurd h

placed : (off : ℕ) (w : List ℕ) (f : Found) → whole_at w ≡ Ok f → CanStand off f.kind f.len → IsPlaced off f.type_name f.blob w
placed off w f e h =
    let t = whole_takes w f e in
    let it : CanStand off (kind_of f.type_name) (length w) = subst (λ (k : Kind). CanStand off k (length w)) t.1 (subst (λ n. CanStand off f.kind n) t.2 h) in
    record { frame = t.0; limit = it.0; header_first = it.1 }

pub good-of : (off : ℕ) (w : List ℕ) (f : Found) (es : List Element) → whole_at w ≡ Ok f → CanStand off f.kind f.len → HasElements f.kind f.blob es → IsGood off w f.kind es
good-of off w f es e h has = record {
  type_name = f.type_name;
  blob = f.blob;
  placed = placed off w f e h;
  kind_is = (whole_takes w f e).1;
  content = has;
}

pub finding-of : (off : ℕ) (w : List ℕ) (f : Found) (fault : ExamineFault) → whole_at w ≡ Ok f → CanStand off f.kind f.len → IsBlobFinding f.kind f.blob fault → IsFinding off w fault
finding-of off w f found.Memory e h finding = tt
finding-of off w f (found.Bad fault) e h finding =
    go fault (placed off w f e h) (subst (λ (k : Kind). IsBadBlob k f.blob fault) (whole_takes w f e).1 finding)
  where
    go : (fault : Fault) → IsPlaced off f.type_name f.blob w → IsBadBlob (kind_of f.type_name) f.blob fault → IsBad off w fault
    go (faults.Blob other) placed h = (f.type_name, f.blob, placed, h.0, h.1)
    go (faults.Header other) placed h = (f.type_name, f.blob, h.0, placed, h.1, h.2, h.3)
    go (faults.Block other) placed h = (f.type_name, f.blob, h.0, placed, h.1, h.2, h.3)
    go faults.NoHeaderFirst placed h = absurd h
    go faults.HeaderNotFirst placed h = absurd h
    go (faults.Frame other) placed h = absurd h
