-- What a framer takes of a piece, and when it takes no more.
use Rattle.std.proofs.Common.{◌≡◌, ◌⊎◌, ℕ, Bool, true, false, List, [], ◌++◌, length, Option, Some, None, refl, sym, ap, subst, inl, inr, ◌∙◌, arith, append_assoc}
use Rattle.std.specs.Prelude.{not}
use Rattle.std.proofs.lemmas.List.{append-nil, nil_from_length}
use Rattle.std.specs.Io.KnownBytes.{Consumes, IsAtEnd, prepend_known}
use Rattle.pbf_wire.proofs.Choices.{fine, failed, err_is, not_both, neither_both}
use Rattle.pbf_frame.specs.declared.fault.FrameFault.{FrameFault}
use Rattle.pbf_frame.specs.declared.fault.FrameFault.TheVariants.{LengthCut, HeaderTooLong, HeaderCut, HeaderWire, NoType, NoSize, SizeOutOfRange, BlobCut, Trailing, OffsetTooLarge}
use Rattle.pbf_frame.specs.Framer.{Framing, FaultStands, IsUnfinished, MayEnd, TakesNothing, fed, taken}
use Rattle.pbf_frame.specs.Parts.{is_cut, is_early, part_end}
use Rattle.pbf_frame.proofs.PartLaws.{empty_part, whole_long}
use Rattle.pbf_frame.proofs.WaitingLaws.{fault_again, waits_again}
use Rattle.osm_reading.specs.Framings.{Moved, ReadHasCause, IsFull, Known}
use Rattle.osm_reading.specs.FrameReads.{LacksFrame}
use Rattle.osm_reading.specs.declared.stream.fault.Stop.{Stop}
use Rattle.osm_reading.specs.declared.stream.fault.Stop.TheVariants.{Frame, NoHeaderFirst, ReadFailed, Memory}
use Rattle.osm_reading.proofs.Moves.{moved_both}

-- ---- when it takes no more

cut-or-early : (e : FrameFault) → is_cut e ≡ true → is_early e ≡ true → ⊥
cut-or-early LengthCut a b = cc
cut-or-early HeaderTooLong a b = cc
cut-or-early HeaderCut a b = cc
cut-or-early (HeaderWire fault) a b = cc
cut-or-early NoType a b = cc
cut-or-early NoSize a b = cc
cut-or-early SizeOutOfRange a b = cc
cut-or-early BlobCut a b = cc
cut-or-early Trailing a b = cc
cut-or-early OffsetTooLarge a b = cc

cut-stands-not : (e : FrameFault) (f : Framing) → is_cut e ≡ true → FaultStands e f → ⊥
cut-stands-not e f cut stands = elim stands [
  | inl early ↦ cut-or-early e cut early.0
  | inr far ↦ (let same : is_cut OffsetTooLarge ≡ true = subst (λ (x : FrameFault). is_cut x ≡ true) far.0 cut in cc)
]

-- what `end` answers where the input may not end
abbrev pub EndFails : Framing → FrameFault → Type 0
EndFails f e = (FaultStands e f ⊎ IsUnfinished e f) × ((fault : FrameFault) → FaultStands fault f → failed {A = Unit {0}} e ≡ failed fault) × (MayEnd f → failed {A = Unit {0}} e ≡ fine tt)

-- what `end` has answered says whether more is taken
pub full-at-fault : (f : Framing) (e : FrameFault) (b : Bool) → b ≡ is_cut e → EndFails f e → (not b ≡ true → IsFull f) × (IsFull f → not b ≡ true)
full-at-fault f e true is end = (
  λ h. absurd cc,
  λ full. elim full [
    | inl w ↦ neither_both tt e (end.2 (inr w))
    | inr (fault, s) ↦ absurd (cut-stands-not e f (sym is) (subst (λ (x : FrameFault). FaultStands x f) (sym (err_is e fault (end.1 fault s))) s))
  ],
)
full-at-fault f e false is end = (
  λ h. elim end.0 [
    | inl s ↦ inr (e, s)
    | inr unfinished ↦ absurd (let h : false ≡ true = is ∙ unfinished.0 in cc)
  ],
  λ full. refl,
)

-- nothing waits where nothing is held
pub empty-full : (f : Framing) → f.rest ≡ [] → IsFull f → ⊥
empty-full f empty full = elim full [
  | inl waits ↦ (let long = whole_long f.offset f.rest (waits_again f waits) in omega (arith, long, ap length empty))
  | inr (fault, stands) ↦ not_both 4 fault (sym (empty_part f.offset) ∙ ap (part_end f.offset) (sym empty) ∙ fault_again f fault stands)
]

-- where it has answered a fault
pub lacks-frame : (f : Framing) (b : Bool) (left : Option (List ℕ)) (e : FrameFault) → (b ≡ true → IsFull f) → (b ≡ false → IsAtEnd left) → EndFails f e
    → FaultStands e f ⊎ (IsUnfinished e f × IsAtEnd left)
lacks-frame f b left e full end (inl stands, others, may) = inl stands
lacks-frame f false left e full end (inr unfinished, others, may) = inr (unfinished, end refl)
lacks-frame f true left e full end (inr unfinished, others, may) = elim (full refl) [
  | inl waits ↦ neither_both tt e (may (inr waits))
  | inr (fault, s) ↦ inl (subst (λ (x : FrameFault). FaultStands x f) (sym (err_is e fault (others fault s))) s)
]

-- where it has stopped before that
pub stopped-frame : (f : Framing) (left : Option (List ℕ)) (has_failed : Bool) (stop : Stop) → ReadHasCause has_failed stop → (stop ≡ ReadFailed → IsFull f → ⊥) → LacksFrame f left has_failed stop
stopped-frame f left has_failed ReadFailed cause unfilled = (cause, unfilled refl)
stopped-frame f left has_failed Memory cause unfilled = tt
stopped-frame f left has_failed (Frame fault) cause unfilled = absurd cause
stopped-frame f left has_failed NoHeaderFirst cause unfilled = absurd cause

-- ---- a piece

-- what is moved from a piece is moved from an input that begins with it
pub moved_known : (f g : Framing) (p q : List ℕ) (left : Option (List ℕ)) → Moved f g (Some p) (Some q) → Moved f g (prepend_known p left) (prepend_known q left)
moved_known f g p q left h = (h.0, h.1, h.2, go left)
  where
    go : (left : Option (List ℕ)) → Consumes (prepend_known p left) (prepend_known q left) h.0
    go None = tt
    go (Some xs) = ap (λ (v : List ℕ). v ++ xs) h.3 ∙ append_assoc h.0 q xs

-- a piece of which nothing was taken is empty, unless the framer is full
pub spent-unless-full : (f : Framing) (piece : List ℕ) (n : ℕ) (b : Bool) → n ≡ length (taken f piece) → n ≡ 0 → TakesNothing f piece → (IsFull (fed f piece) → b ≡ true) → b ≡ false → piece ≡ []
spent-unless-full f piece n b count none nothing full not_full = elim nothing [
  | inl empty ↦ empty
  | inr is ↦ absurd (let h : false ≡ true = sym not_full ∙ full (subst (λ (v : List ℕ). IsFull (record { offset = f.offset; rest = v; lent = [] })) (sym (same is)) is) in cc)
]
  where
    same : IsFull f → f.rest ++ taken f piece ≡ f.rest
    same is = ap (λ (v : List ℕ). f.rest ++ v) (nil_from_length (taken f piece) (sym count ∙ none)) ∙ append-nil f.rest

-- what is fed of the unread bytes
pub moved_absorbed : (f g h : Framing) (start : Option (List ℕ)) (p q : List ℕ) (left : Option (List ℕ)) → Moved f g start (prepend_known p left) → Moved g h (Some p) (Some q) → Moved f h start (prepend_known q left)
moved_absorbed f g h start p q left so_far more = moved_both f g h start (prepend_known p left) (prepend_known q left) so_far (moved_known g h p q left more)

-- nothing is left, and nothing of the piece
pub end-known : (piece : List ℕ) (left : Known) → (piece ≡ []) × IsAtEnd left → IsAtEnd (prepend_known piece left)
end-known piece None h = tt
end-known piece (Some xs) h = ap (λ (v : List ℕ). v ++ xs) h.0 ∙ h.1
