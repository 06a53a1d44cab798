-- When a framer takes nothing, and when its input may end.
use Rattle.std.proofs.Common.{◌≡◌, ◌⊎◌, ℕ, ◌-◌, ◌<◌, ◌≤◌, Bool, true, false, cond, eqb, List, [], ◌++◌, length, take, Option, Some, Result, Ok, Err, refl, sym, ap, subst, inl, inr, ◌∙◌, arith, append-nil, zero, suc}
use Rattle.std.specs.Prelude.{IfOk, IfErr, ◌↔◌}
use Rattle.std.proofs.lemmas.Bool.{cases_lt, eqb-true, eqb-false, eq-eqb}
use Rattle.std.proofs.lemmas.List.{length-take, nil_from_length}
use Rattle.pbf_wire.specs.Fault.{◌>>=◌, outcome}
use Rattle.pbf_wire.proofs.Choices.{chosen, err_is, not_both, neither_both, then_ok, then_err}
use Rattle.pbf_frame.specs.declared.fault.FrameFault.{FrameFault}
use Rattle.pbf_frame.specs.declared.fault.FrameFault.TheVariants.{LengthCut, HeaderTooLong, HeaderCut, HeaderWire, NoType, NoSize, SizeOutOfRange, BlobCut, Trailing, OffsetTooLarge}
use Rattle.pbf_frame.specs.Frame.{FirstFault, Found, found_at, frame_at}
use Rattle.pbf_frame.specs.Framer.{Framing, FaultStands, FrameWaits, IsKept, IsUnfinished, MayEnd, TakesNothing, ended, fed, lacking, let_go, rest_in, taken, waiting}
use Rattle.pbf_frame.specs.declared.part.Part.{Part}
use Rattle.pbf_frame.specs.Parts.{end_after, end_of, is_cut, is_early, part_at, part_end}
use Rattle.pbf_frame.proofs.FrontLaws.{end_in, ends_by_part, same_end}
use Rattle.pbf_frame.proofs.FrameLaws.{frame_faults, frame_again, frame_len}
use Rattle.pbf_frame.proofs.PartLaws.{ends, empty_part}
use Rattle.pbf_frame.proofs.WaitingLaws.{early_fault, fault_read, fault_again, waits_read, waits_again, waiting_again, waiting_faulted, waiting_faults, waiting_read}

-- ---- what is taken

none_taken : (f : Framing) (piece : List ℕ) (r : Result ℕ FrameFault) → part_end f.offset f.rest ≡ r → IfOk r (λ end. length f.rest ≤ end)
    → length (take (lacking (length f.rest) r) piece) ≡ 0 → TakesNothing f piece
none_taken f piece (Err fault) e within none = inr (inr (fault, fault_read f fault e))
none_taken f piece (Ok end) e within none =
    elim (cases_lt (length f.rest) end) [
      | inl lt ↦ inl (nil_from_length piece (omega (arith, length-take (end - length f.rest) piece)))
      | inr ge ↦
          let full : end ≡ length f.rest = omega arith in
          inr (inl (waits_read f (e ∙ ap (λ (n : ℕ). ends n) full)))
    ]

takes_none : (f : Framing) (piece : List ℕ) → TakesNothing f piece → length (taken f piece) ≡ 0
takes_none f piece (inl empty) =
    let none : length piece ≡ 0 = ap length empty in
    omega (arith, length-take (lacking (length f.rest) (part_end f.offset f.rest)) piece)
takes_none f piece (inr (inl waits)) =
    let no_more : length f.rest - length f.rest ≡ 0 = omega arith in
    rw (waits_again f waits, no_more) refl
takes_none f piece (inr (inr stands)) = rw (fault_again f stands.0 stands.1) refl

pub nothing_taken : (f : Framing) (piece : List ℕ) → IfOk (part_end f.offset f.rest) (λ end. length f.rest ≤ end) → (length (taken f piece) ≡ 0) ↔ TakesNothing f piece
nothing_taken f piece within = (none_taken f piece (part_end f.offset f.rest) refl within, takes_none f piece)

-- ---- the end

abbrev pub fine_end : Result (Unit {0}) FrameFault
fine_end = Ok tt

abbrev failed_frame : FrameFault → Result Found FrameFault
failed_frame fault = Err fault

outcome_ok : (r : Result Found FrameFault) → outcome r ≡ Ok tt → (g : Found) × (r ≡ Ok g)
outcome_ok (Ok g) e = (g, refl)
outcome_ok (Err d) e = neither_both tt d e

outcome_err : (r : Result Found FrameFault) (fault : FrameFault) → outcome r ≡ Err fault → r ≡ Err fault
outcome_err (Ok g) fault e = not_both tt fault e
outcome_err (Err d) fault e = ap (λ (x : FrameFault). failed_frame x) (err_is {A = Unit {0}} d fault e)

abbrev end_or_frame : List ℕ → Result (Unit {0}) FrameFault
end_or_frame w = cond (eqb (length w) 0) (Ok tt) (outcome (frame_at w))

may_end : (f : Framing) → IfOk (part_end f.offset f.rest) (λ end. length f.rest ≤ end) → ended f ≡ Ok tt → MayEnd f
may_end f within e =
    let a = then_ok (part_end f.offset f.rest) (λ end. end_or_frame f.rest) tt e in
    elim (chosen (eqb (length f.rest) 0) fine_end (outcome (frame_at f.rest)) fine_end a.2) [
      | inl p ↦ inl (nil_from_length f.rest (eqb-true _ _ p.0))
      | inr p ↦
          let g = outcome_ok (frame_at f.rest) p.1 in
          let s = same_end f.offset a.0 f.rest g.0 g.1 a.1 in
          let fits = s.fits in
          let reach : length f.rest ≤ a.0 = subst (λ (r : Result ℕ FrameFault). IfOk r (λ end. length f.rest ≤ end)) a.1 within in
          let full : a.0 ≡ length f.rest = omega (arith, s.same, (frame_len f.rest g.0 g.1).1) in
          inr (waits_read f (a.1 ∙ ap (λ (n : ℕ). ends n) full))
    ]

ends_fine : (f : Framing) → MayEnd f → ended f ≡ Ok tt
ends_fine f (inl empty) =
    let test : eqb (length f.rest) 0 ≡ true = eq-eqb (length f.rest) 0 (ap length empty) in
    let part : part_end f.offset f.rest ≡ Ok 4 = ap (part_end f.offset) empty ∙ empty_part f.offset in
    rw (part, test) refl
ends_fine f (inr waits) =
    let part = waits_again f waits in
    let found : frame_at f.rest ≡ Ok (found_at waits.0 waits.1 (length f.rest)) = subst (λ (v : List ℕ). frame_at v ≡ Ok (found_at waits.0 waits.1 (length f.rest))) (append-nil f.rest) (frame_again waits.0 waits.1 f.rest [] waits.2) in
    rw part (end_of_frame (eqb (length f.rest) 0) f.rest (found_at waits.0 waits.1 (length f.rest)) found)
  where
    end_of_frame : (b : Bool) (v : List ℕ) (g : Found) → frame_at v ≡ Ok g → cond b fine_end (outcome (frame_at v)) ≡ Ok tt
    end_of_frame true v g e = refl
    end_of_frame false v g e = rw e refl

-- a fault of a frame that is not early means that bytes are missing
late_is_cut : (fault : FrameFault) (w : List ℕ) → FirstFault fault w → (is_early fault ≡ true → ⊥) → is_cut fault ≡ true
late_is_cut LengthCut w first late = refl
late_is_cut HeaderTooLong w first late = absurd (late refl)
late_is_cut HeaderCut w first late = refl
late_is_cut (HeaderWire d) w first late = absurd (late refl)
late_is_cut NoType w first late = absurd (late refl)
late_is_cut NoSize w first late = absurd (late refl)
late_is_cut SizeOutOfRange w first late = absurd (late refl)
late_is_cut BlobCut w first late = refl
late_is_cut Trailing w first late = absurd first.0
late_is_cut OffsetTooLarge w first late = absurd first.0

some_byte : (n : ℕ) → (n ≡ 0 → ⊥) → 0 < n
some_byte zero none = absurd (none refl)
some_byte (suc n) none = omega arith

pub end_faults : (f : Framing) (fault : FrameFault) → ended f ≡ Err fault → FaultStands fault f ⊎ IsUnfinished fault f
end_faults f fault e =
    elim (then_err (part_end f.offset f.rest) (λ end. end_or_frame f.rest) fault e) [
      | inl a ↦ inl (fault_read f fault a)
      | inr a ↦ elim (chosen (eqb (length f.rest) 0) fine_end (outcome (frame_at f.rest)) (Err fault) a.2) [
        | inl p ↦ not_both tt fault p.1
        | inr p ↦
            let first : FirstFault fault f.rest = frame_faults f.rest fault (outcome_err (frame_at f.rest) fault p.1) in
            let late : is_early fault ≡ true → ⊥ = λ early. not_both a.0 fault (sym a.1 ∙ early_fault f.offset f.rest fault first early) in
            let held : length f.rest ≡ 0 → ⊥ = eqb-false (length f.rest) 0 p.0 in
            inr (late_is_cut fault f.rest first late, first, some_byte (length f.rest) held)
      ]
    ]

pub end_faulted : (f : Framing) (fault : FrameFault) → FaultStands fault f → ended f ≡ Err fault
end_faulted f fault stands = rw (fault_again f fault stands) refl

-- ---- a fault stays

-- what a framer says of a fault, now and after each call
pub record Stays (f : Framing) (fault : FrameFault) (piece : List ℕ) : Type 0 where
  pub takes_none : taken f piece ≡ []
  pub after_feed : waiting (fed f piece) ≡ Err fault
  pub after_next : waiting (let_go f) ≡ Err fault
  pub at_end : ended f ≡ Err fault

pub stays : (f : Framing) (fault : FrameFault) (piece : List ℕ) → waiting f ≡ Err fault → Stays f fault piece
stays f fault piece e =
    let part = waiting_faults f fault e in
    let none : taken f piece ≡ [] = rw part refl in
    let same : f.rest ++ taken f piece ≡ f.rest = ap (λ (v : List ℕ). f.rest ++ v) none ∙ append-nil f.rest in
    record {
      takes_none = none;
      after_feed = rw (same, part) refl;
      after_next = e;
      at_end = rw part refl;
    }

-- ---- what the calls answer

-- no more is held than the part that has begun
abbrev pub Held : Framing → Type 0
Held f = IfOk (part_end f.offset f.rest) (λ end. length f.rest ≤ end)

within_ends : (part : Result Part FrameFault) (len : ℕ) → IfOk part (λ p. len ≤ end_of p) → IfOk (part >>= λ p. Ok (end_of p)) (λ end. len ≤ end)
within_ends (Ok p) len within = within
within_ends (Err fault) len within = tt

pub held : (offset : ℕ) (bytes : List ℕ) (is_lent : Bool) (part : Result Part FrameFault) (f : Framing) → IsKept offset bytes is_lent part → offset ≡ f.offset → rest_in is_lent bytes ≡ f.rest → Held f
held offset bytes is_lent part f k o r =
    let is : part_end f.offset f.rest ≡ (part >>= λ p. Ok (end_of p)) = sym (ap (λ (n : ℕ). part_end n (rest_in is_lent bytes)) o ∙ ap (part_end f.offset) r) ∙ k.ending in
    let within = within_ends part (length (rest_in is_lent bytes)) k.within in
    let at_rest : IfOk (part >>= λ p. Ok (end_of p)) (λ end. length f.rest ≤ end) = subst (λ (v : List ℕ). IfOk (part >>= λ p. Ok (end_of p)) (λ end. length v ≤ end)) r within in
    subst (λ (p : Result ℕ FrameFault). IfOk p (λ end. length f.rest ≤ end)) (sym is) at_rest

-- what a framer answers at the end, by the part that it keeps
pub ended_by : (offset : ℕ) (bytes : List ℕ) (is_lent : Bool) (part : Result Part FrameFault) (f : Framing) → IsKept offset bytes is_lent part → offset ≡ f.offset → rest_in is_lent bytes ≡ f.rest → ended f ≡ end_in (length f.rest) part
ended_by offset bytes is_lent part f k o r =
    let is : part ≡ part_at f.offset f.rest = k.parted ∙ ap (λ (n : ℕ). part_at n (rest_in is_lent bytes)) o ∙ ap (part_at f.offset) r in
    ends_by_part f.offset f.rest ∙ ap (end_in (length f.rest)) (sym is)

pub none_iff : (n : ℕ) (f : Framing) (piece : List ℕ) → n ≡ length (taken f piece) → Held f → (n ≡ 0) ↔ TakesNothing f piece
none_iff n f piece e within =
    let both = nothing_taken f piece within in
    (λ z. both.0 (sym e ∙ z), λ t. e ∙ both.1 t)

pub shown_waits : (r : Result (Option (ℕ × List ℕ)) FrameFault) (f : Framing) → r ≡ waiting f → (r ≡ Ok (Some (f.offset, f.rest))) ↔ FrameWaits f
shown_waits r f e = (λ s. (waiting_read f (f.offset, f.rest) (sym e ∙ s)).1, λ h. e ∙ waiting_again f h)

pub shown_faults : (r : Result (Option (ℕ × List ℕ)) FrameFault) (f : Framing) → r ≡ waiting f → (fault : FrameFault) → (r ≡ Err fault) ↔ FaultStands fault f
shown_faults r f e fault = (λ s. fault_read f fault (waiting_faults f fault (sym e ∙ s)), λ h. e ∙ waiting_faulted f fault h)

pub end_is : (r : Result (Unit {0}) FrameFault) (f : Framing) → r ≡ ended f → Held f → (r ≡ Ok tt) ↔ MayEnd f
end_is r f e within = (λ s. may_end f within (sym e ∙ s), λ h. e ∙ ends_fine f h)

pub end_stands : (r : Result (Unit {0}) FrameFault) (f : Framing) → r ≡ ended f → (fault : FrameFault) → FaultStands fault f → r ≡ Err fault
end_stands r f e fault h = e ∙ end_faulted f fault h

pub end_fault : (r : Result (Unit {0}) FrameFault) (f : Framing) → r ≡ ended f → IfErr r (λ fault. FaultStands fault f ⊎ IsUnfinished fault f)
end_fault (Ok x) f e = tt
end_fault (Err d) f e = end_faults f d (sym e)

-- a part answers for a framer that holds some bytes
pub end_at_part : (part : Result Part FrameFault) (p : Part) (rest : List ℕ) (len : ℕ) → part ≡ Ok p → len ≡ length rest → false ≡ eqb len 0 → end_after len p ≡ end_in (length rest) part
end_at_part part p rest len is same some =
    ap (λ (b : Bool). cond b fine_end (end_after len p)) some
    ∙ ap (λ (n : ℕ). cond (eqb n 0) fine_end (end_after n p)) same
    ∙ sym (ap (end_in (length rest)) is)

-- all that is promised of an answer at the end
pub record Ends (f : Framing) (r : Result (Unit {0}) FrameFault) : Type 0 where
  pub fine : (r ≡ Ok tt) ↔ MayEnd f
  pub fault : IfErr r (λ fault. FaultStands fault f ⊎ IsUnfinished fault f)
  pub stands : (fault : FrameFault) → FaultStands fault f → r ≡ Err fault
  pub exact : r ≡ ended f

pub ends_as : (offset : ℕ) (bytes : List ℕ) (is_lent : Bool) (part : Result Part FrameFault) (f : Framing) (r : Result (Unit {0}) FrameFault) → IsKept offset bytes is_lent part
    → offset ≡ f.offset → rest_in is_lent bytes ≡ f.rest → r ≡ end_in (length f.rest) part → Ends f r
ends_as offset bytes is_lent part f r k o same e =
    let is : r ≡ ended f = e ∙ sym (ended_by offset bytes is_lent part f k o same) in
    let within = held offset bytes is_lent part f k o same in
    record { fine = end_is r f is within; fault = end_fault r f is; stands = end_stands r f is; exact = is }
