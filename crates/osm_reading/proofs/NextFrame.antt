-- The next frame of an input: from what its framer has to what was read.
use Rattle.std.proofs.Common.{◌≡◌, ◌↔◌, ℕ, ◌+◌, Bool, true, false, List, [], ◌++◌, length, Result, Option, Some, None, Ok, Err, refl, sym, ap, subst, inl, inr, ◌∙◌, arith, append_assoc, append-nil}
use Rattle.std.specs.Prelude.{IfOk}
use Rattle.std.specs.Borrow.{Bor}
use Rattle.std.specs.Io.KnownBytes.{Consumes, IsAtEnd, Keeps, prepend_known}
use Rattle.pbf_wire.proofs.Choices.{ok_is, not_both, neither_both}
use Rattle.pbf_frame.specs.declared.fault.FrameFault.{FrameFault}
use Rattle.pbf_frame.specs.Framer.{Framing, given, shown, waiting}
use Rattle.pbf_frame.specs.Parts.{part_end}
use Rattle.pbf_frame.proofs.PartLaws.{empty_part, whole_long}
use Rattle.pbf_frame.proofs.WaitingLaws.{waiting_again, waiting_read, waiting_faults, waits_again}
use Rattle.osm_reading.specs.Framings.{Known, Moved, IsFull, IsBegun, HasFull, HasNoFrame}
use Rattle.osm_reading.specs.FrameReads.{Reading, HasFrame, LacksFrame, framing_of, Halts, ReadsFrame}
use Rattle.osm_reading.specs.Good.{IsFrame}
use Rattle.osm_reading.specs.declared.stream.fault.Stop.{Stop}
use Rattle.osm_reading.specs.declared.stream.fault.Stop.TheVariants.{ReadFailed}
use Rattle.osm_reading.proofs.Begun.{begun-empty, no-frame as none-held}

-- what is before a framer, a piece and a reader
abbrev pub before : Framing → List ℕ → Known → Bool → Reading
before f piece left has_failed = record { offset = f.offset; left = prepend_known (f.rest ++ piece) left; has_failed = has_failed; read = f.rest ++ piece; behind = left }

-- what the framer has is the front of what is left
reads-on : (f g : Framing) (p q : List ℕ) (left after : Known) → Moved f g (prepend_known p left) (prepend_known q after) → Consumes (prepend_known (f.rest ++ p) left) (prepend_known q after) g.rest
reads-on f g p q None after h = tt
reads-on f g p q (Some xs) None h = absurd h.3
reads-on f g p q (Some xs) (Some ys) h =
    append_assoc f.rest p xs ∙ ap (λ (v : List ℕ). f.rest ++ v) h.3 ∙ sym (append_assoc f.rest h.0 (q ++ ys)) ∙ ap (λ (v : List ℕ). v ++ (q ++ ys)) (sym h.2)

keeps-all : (a : Known) (x q : List ℕ) (after : Known) → Consumes a (prepend_known q after) x → Keeps a (prepend_known (x ++ q) after)
keeps-all None x q after h = tt
keeps-all (Some xs) x q None h = absurd h
keeps-all (Some xs) x q (Some ys) h = append_assoc x q ys ∙ sym h

none-left : (a b : Known) (x : List ℕ) → Consumes a b x → x ≡ [] → IsAtEnd b → IsAtEnd a
none-left None b x h empty end = tt
none-left (Some xs) None x h empty end = absurd h
none-left (Some xs) (Some ys) x h empty end = h ∙ ap (λ (v : List ℕ). v ++ ys) empty ∙ end

framing-is : (f : Framing) (offset : ℕ) → f.offset ≡ offset → f.lent ≡ [] → f ≡ framing_of offset f.rest
framing-is f offset here none =
    ap (λ n. let h : Framing = record { offset = n; rest = f.rest; lent = f.lent } in h) here
    ∙ ap (λ (l : List ℕ). let h : Framing = record { offset = offset; rest = f.rest; lent = l } in h) none

-- no frame waits
pub halts : (f g : Framing) (p q : List ℕ) (left after : Known) (was is : Bool) (at : ℕ) (stop : Stop) → Moved f g (prepend_known p left) (prepend_known q after) → g.lent ≡ [] → at ≡ f.offset
    → LacksFrame g (prepend_known q after) is stop → IsBegun g → (stop ≡ ReadFailed → q ≡ []) → (HasFull f.offset (f.rest ++ p) → after ≡ left) → Halts (before f p left was) (before g q after is) (record { fault = stop; at = at })
halts f g p q left after was is at stop moved none here lacks begun spent late =
    let read = reads-on f g p q left after moved in
    record {
      here = here;
      next = moved.1;
      kept = keeps-all (prepend_known (f.rest ++ p) left) g.rest q after read;
      got = g.rest;
      behind = prepend_known q after;
      read = read;
      why = subst (λ (h : Framing). LacksFrame h (prepend_known q after) is stop) (framing-is g f.offset moved.1 none) lacks;
      parted = refl;
      none = λ failed. subst (λ (v : List ℕ). HasNoFrame g.offset v) (sym (ap (λ (v : List ℕ). g.rest ++ v) (spent failed) ∙ append-nil g.rest))
          (none-held g begun (subst (λ (x : Stop). LacksFrame g (prepend_known q after) is x) failed lacks).1);
      late = late;
    }

abbrev no-frame : Option (ℕ × List ℕ)
no-frame = None

-- what the framer lent, or gave none
pub gives : (f g h : Framing) (p q : List ℕ) (left after : Known) (was is : Bool) (o : Option (ℕ × Bor (List ℕ))) → Moved f g (prepend_known p left) (prepend_known q after)
    → HasFrame g (prepend_known q after) → shown (Ok o) ≡ waiting g → h ≡ given g (waiting g) → (HasFull f.offset (f.rest ++ p) → after ≡ left) → ReadsFrame (before f p left was) (before h q after is) (Ok o)
gives f g h p q left after was is (Some (at, w)) moved has e state late =
    let read = waiting_read g (at, w.now) (sym e) in
    let here : at ≡ g.offset = ap (λ (x : ℕ × List ℕ). x.0) read.0 in
    let bytes : w.now ≡ g.rest = ap (λ (x : ℕ × List ℕ). x.1) read.0 in
    let new : h ≡ record { offset = g.offset + length g.rest; rest = []; lent = g.rest } = state ∙ ap (given g) (sym e) in
    let long = whole_long g.offset g.rest (waits_again g read.1) in
    let next : h.offset ≡ at + length w.now = ap (λ (x : Framing). x.offset) new ∙ ap (λ (x : ℕ × List ℕ). x.0 + length x.1) (sym read.0) in
    record {
      here = here ∙ moved.1;
      whole = subst IsFrame (sym bytes) (read.1.0, read.1.1, read.1.2);
      some = omega (arith, ap length bytes, long);
      next = next;
      limit = omega (arith, read.1.3, ap (λ (x : Framing). x.offset) new);
      read = subst (λ (v : List ℕ). Consumes (prepend_known (f.rest ++ p) left) (prepend_known (v ++ q) after) w.now) (sym (ap (λ (x : Framing). x.rest) new))
          (subst (λ (v : List ℕ). Consumes (prepend_known (f.rest ++ p) left) (prepend_known q after) v) (sym bytes) (reads-on f g p q left after moved));
      parted = refl;
      late = late;
    }
gives f g h p q left after was is None moved (inl waits) e state late =
    absurd (let clash : no-frame ≡ Some (g.offset, g.rest) = ok_is {E = FrameFault} no-frame (Some (g.offset, g.rest)) (e ∙ waiting_again g waits) in cc)
gives f g h p q left after was is None moved (inr (empty, end)) e state late =
    let new : h ≡ record g { lent = [] } = state ∙ ap (given g) (sym e) in
    let rest : h.rest ≡ [] = ap (λ (x : Framing). x.rest) new ∙ empty in (
      none-left (prepend_known (f.rest ++ p) left) (prepend_known q after) g.rest (reads-on f g p q left after moved) empty end,
      subst (λ (v : List ℕ). IsAtEnd (prepend_known (v ++ q) after)) (sym rest) end,
      ap (λ (x : Framing). x.offset) new ∙ moved.1,
      refl,
      late,
    )

given-empty : (f : Framing) (r : Result (Option (ℕ × List ℕ)) FrameFault) → f.rest ≡ [] → (given f r).rest ≡ []
given-empty f (Ok (Some x)) empty = refl
given-empty f (Ok None) empty = empty
given-empty f (Err fault) empty = empty

-- nothing is held behind a frame that was given, nor at the end
pub begun-next : (f h : Framing) (left : Known) → HasFrame f left → h ≡ given f (waiting f) → IsBegun h
begun-next f h left has state =
    begun-empty h (elim has [
      | inl waits ↦ ap (λ (x : Framing). x.rest) (state ∙ ap (given f) (waiting_again f waits))
      | inr (empty, end) ↦ ap (λ (x : Framing). x.rest) state ∙ given-empty f (waiting f) empty
    ])

-- no fault stands where a frame waits or nothing is held
pub faultless : (f : Framing) (left : Known) (fault : FrameFault) → HasFrame f left → Err fault ≡ waiting f → ⊥
faultless f left fault (inl waits) e = neither_both (Some (f.offset, f.rest)) fault (e ∙ waiting_again f waits)
faultless f left fault (inr (empty, end)) e = not_both 4 fault (sym (empty_part f.offset) ∙ ap (part_end f.offset) (sym empty) ∙ waiting_faults f fault (sym e))

-- the reader is ready exactly where its framer takes no more
pub ready-exact : (f : Framing) (piece : List ℕ) (is_full : Bool) → f.lent ≡ [] → IsBegun f → (is_full ≡ true) ↔ IsFull f → (is_full ≡ false → piece ≡ [])
    → (is_full ≡ true) ↔ ((front more : List ℕ) × (f.rest ++ piece ≡ front ++ more) × IsFull (framing_of f.offset front))
ready-exact f piece true none begun exact spent = (
  (λ is. (f.rest, piece, refl, subst IsFull (framing-is f f.offset refl none) (exact.0 is))),
  (λ ready. refl),
)
ready-exact f piece false none begun exact spent = (
  (λ is. absurd (cc)),
  (λ ready. absurd (none-held f begun (λ full. (let bad : false ≡ true = exact.1 full in cc)) ready.0 ready.1
      (sym (ap (λ (v : List ℕ). f.rest ++ v) (spent refl) ∙ append-nil f.rest) ∙ ready.2) ready.3)),
)

pub ready-result : {E : Type 0} (f : Framing) (piece : List ℕ) (r : Result Bool E) → f.lent ≡ [] → IsBegun f → IfOk r (λ is_full. (is_full ≡ true) ↔ IsFull f) → IfOk r (λ is_full. is_full ≡ false → piece ≡ [])
    → IfOk r (λ is_full. (is_full ≡ true) ↔ ((front more : List ℕ) × (f.rest ++ piece ≡ front ++ more) × IsFull (framing_of f.offset front)))
ready-result f piece (Ok is_full) none begun exact spent = ready-exact f piece is_full none begun exact spent
ready-result f piece (Err refused) none begun exact spent = tt
