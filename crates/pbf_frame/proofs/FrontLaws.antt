-- A frame, and the end of a part, as they are read behind the front of a frame.
use Rattle.std.proofs.Common.{◌≡◌, ℕ, ◌+◌, ◌<◌, ◌≤◌, Bool, true, false, cond, eqb, ltb, List, [], ◌++◌, length, take, drop, Result, Ok, Err, refl, sym, ap, subst, inl, inr, ◌∙◌, arith}
use Rattle.std.proofs.lemmas.Bool.{ltb-false, ltb-true, le-ltb, lt-ltb}
use Rattle.std.proofs.lemmas.List.{take-append-le, drop-append-le, length-append, length-drop}
use Rattle.pbf_wire.proofs.Choices.{chosen, ok_is, neither_both, then_ok}
use Rattle.pbf_wire.specs.Fault.{◌>>=◌, outcome}
use Rattle.pbf_frame.specs.declared.fault.FrameFault.{FrameFault}
use Rattle.pbf_frame.specs.declared.fault.FrameFault.TheVariants.{LengthCut, HeaderTooLong, HeaderCut, BlobCut, OffsetTooLarge}
use Rattle.pbf_frame.specs.declared.part.Part.{Part}
use Rattle.pbf_frame.specs.declared.part.Part.TheVariants as parts
use Rattle.pbf_frame.specs.Frame.{Found, found_at, frame_at, header_at, header_len, header_of}
use Rattle.pbf_frame.specs.Front.{Begun, Length, Header, Blob, front_at}
use Rattle.pbf_frame.specs.Parts.{HasBegun, blob_end, end_after, part_at, part_end, part_of}
use Rattle.pbf_frame.specs.Parts as kept
use Rattle.pbf_frame.proofs.PartLaws.{name_kept}

then_cond : {A B E : Type 0} (b : Bool) (x y : Result A E) (f : A → Result B E) → (cond b x y >>= f) ≡ cond b (x >>= f) (y >>= f)
then_cond true x y f = refl
then_cond false x y f = refl

then_then : {A B C E : Type 0} (r : Result A E) (f : A → Result B E) (g : B → Result C E) → ((r >>= f) >>= g) ≡ (r >>= λ x. f x >>= g)
then_then (Ok x) f g = refl
then_then (Err e) f g = refl

-- the frame behind its front
abbrev pub frame_behind : List ℕ → Begun → Result Found FrameFault
frame_behind w Length = Err LengthCut
frame_behind w (Header end) = Err HeaderCut
frame_behind w (Blob type start size) = cond (ltb (length w) (start + size)) (Err BlobCut) (Ok (found_at type (take size (drop start w)) (start + size)))

-- the end of the part that has begun
abbrev pub end_of : ℕ → Begun → Result ℕ FrameFault
end_of offset Length = Ok 4
end_of offset (Header end) = Ok end
end_of offset (Blob type start size) = blob_end offset (start + size)

pub frame_at_front : (w : List ℕ) → frame_at w ≡ (front_at w >>= frame_behind w)
unfolding frame_at front_at
frame_at_front w = simp (then_cond, then_then) refl

pub part_end_front : (offset : ℕ) (w : List ℕ) → part_end offset w ≡ (front_at w >>= end_of offset)
unfolding part_end front_at
part_end_front offset w = simp (then_cond, then_then) refl

-- a frame that is read ends where its part does
pub record SameEnd (offset end len : ℕ) : Type 0 where
  pub same : end ≡ len
  pub fits : offset + end ≤ 4611686018427387904

abbrev none_found : FrameFault → Result Found FrameFault
none_found fault = Err fault

abbrev no_end : FrameFault → Result ℕ FrameFault
no_end fault = Err fault

same_end_of : (offset end : ℕ) (w : List ℕ) (f : Found) (r : Result Begun FrameFault) → (r >>= frame_behind w) ≡ Ok f → (r >>= end_of offset) ≡ Ok end → SameEnd offset end f.len
same_end_of offset end w f (Err d) p q = neither_both f d p
same_end_of offset end w f (Ok Length) p q = neither_both f LengthCut p
same_end_of offset end w f (Ok (Header n)) p q = neither_both f HeaderCut p
same_end_of offset end w f (Ok (Blob type start size)) p q =
    let made : Found = found_at type (take size (drop start w)) (start + size) in
    elim (chosen (ltb (length w) (start + size)) (none_found BlobCut) (Ok made) (Ok f) p) [
      | inl a ↦ neither_both f BlobCut a.1
      | inr a ↦ elim (chosen (ltb 4611686018427387904 (offset + (start + size))) (no_end OffsetTooLarge) (Ok (start + size)) (Ok end) q) [
        | inl b ↦ neither_both end OffsetTooLarge b.1
        | inr b ↦
            let len : start + size ≡ f.len = ap (λ (x : Found). x.len) (ok_is {E = FrameFault} made f a.1) in
            let is : start + size ≡ end = ok_is {E = FrameFault} (start + size) end b.1 in
            let fits = ltb-false _ _ b.0 in
            record { same = omega arith; fits = omega arith }
      ]
    ]

pub same_end : (offset end : ℕ) (w : List ℕ) (f : Found) → frame_at w ≡ Ok f → part_end offset w ≡ Ok end → SameEnd offset end f.len
same_end offset end w f p q = same_end_of offset end w f (front_at w) (sym (frame_at_front w) ∙ p) (sym (part_end_front offset w) ∙ q)

-- ---- the part that has begun

abbrev part_ends : Result Part FrameFault → Result ℕ FrameFault
part_ends r = r >>= λ p. Ok (kept.end_of p)

blob_part_ends : (b : Bool) (n : ℕ) → cond b (no_end OffsetTooLarge) (Ok n) ≡ part_ends (cond b (no_end OffsetTooLarge) (Ok n) >>= λ end. Ok (parts.Blob end))
blob_part_ends true n = refl
blob_part_ends false n = refl

front_ends : (offset : ℕ) (r : Result Begun FrameFault) → (r >>= end_of offset) ≡ part_ends (r >>= part_of offset)
front_ends offset (Err d) = refl
front_ends offset (Ok Length) = refl
front_ends offset (Ok (Header end)) = refl
front_ends offset (Ok (Blob type start size)) = blob_part_ends (ltb 4611686018427387904 (offset + (start + size))) (start + size)

-- a part ends where what has begun does
pub part_end_at : (offset : ℕ) (w : List ℕ) → part_end offset w ≡ part_ends (part_at offset w)
part_end_at offset w = part_end_front offset w ∙ front_ends offset (front_at w)

pub end_at : (offset : ℕ) (w : List ℕ) (p : Part) → part_at offset w ≡ Ok p → part_end offset w ≡ Ok (kept.end_of p)
end_at offset w p e = part_end_at offset w ∙ ap part_ends e

pub empty_begun : (offset : ℕ) → part_at offset [] ≡ Ok parts.Length
unfolding front_at
empty_begun offset = refl

-- how far a reading came
abbrev begins : Begun → Result Begun FrameFault
begins b = Ok b

abbrev begins_not : FrameFault → Result Begun FrameFault
begins_not fault = Err fault

abbrev with_size : List ℕ → Result Begun FrameFault
with_size w = header_at (header_of w) >>= λ h. Ok (Blob h.0 (4 + header_len w) h.1)

data FrontRead (w : List ℕ) (r : Result Begun FrameFault) : Type 0 where
  in_length : length w < 4 → begins Length ≡ r → FrontRead w r
  too_long : 4 ≤ length w → 65535 < header_len w → begins_not HeaderTooLong ≡ r → FrontRead w r
  in_header : 4 ≤ length w → header_len w ≤ 65535 → length w < 4 + header_len w → begins (Header (4 + header_len w)) ≡ r → FrontRead w r
  in_blob : 4 ≤ length w → header_len w ≤ 65535 → 4 + header_len w ≤ length w → with_size w ≡ r → FrontRead w r

front_read : (w : List ℕ) (r : Result Begun FrameFault) → front_at w ≡ r → FrontRead w r
unfolding front_at
front_read w r e =
    elim (chosen (ltb (length w) 4) (begins Length) (cond (ltb 65535 (header_len w)) (begins_not HeaderTooLong) (cond (ltb (length w) (4 + header_len w)) (begins (Header (4 + header_len w))) (with_size w))) r e) [
      | inl p ↦ in_length (ltb-true _ _ p.0) p.1
      | inr p ↦ elim (chosen (ltb 65535 (header_len w)) (begins_not HeaderTooLong) (cond (ltb (length w) (4 + header_len w)) (begins (Header (4 + header_len w))) (with_size w)) r p.1) [
        | inl q ↦ too_long (ltb-false _ _ p.0) (ltb-true _ _ q.0) q.1
        | inr q ↦ elim (chosen (ltb (length w) (4 + header_len w)) (begins (Header (4 + header_len w))) (with_size w) r q.1) [
          | inl s ↦ in_header (ltb-false _ _ p.0) (ltb-false _ _ q.0) (ltb-true _ _ s.0) s.1
          | inr s ↦ in_blob (ltb-false _ _ p.0) (ltb-false _ _ q.0) (ltb-false _ _ s.0) s.1
        ]
      ]
    ]

-- a header that is there is the same with more bytes behind it
front_there : (w x : List ℕ) → 4 ≤ length w → header_len w ≤ 65535 → 4 + header_len w ≤ length w → front_at (w ++ x) ≡ with_size w
unfolding front_at
front_there w x four short there =
    let n : length (w ++ x) ≡ length w + length x = length-append w x in
    let len = name_kept w x four in
    let behind : drop 4 (w ++ x) ≡ drop 4 w ++ x = drop-append-le 4 w x four in
    let enough : header_len w ≤ length (drop 4 w) = omega (arith, length-drop 4 w) in
    let header_is : take (header_len w) (drop 4 (w ++ x)) ≡ header_of w = ap (take (header_len w)) behind ∙ take-append-le (header_len w) (drop 4 w) x enough in
    let t1 : ltb (length (w ++ x)) 4 ≡ false = le-ltb _ _ (omega arith) in
    let t2 : ltb 65535 (header_len w) ≡ false = le-ltb _ _ short in
    let t3 : ltb (length (w ++ x)) (4 + header_len w) ≡ false = le-ltb _ _ (omega arith) in
    rw (t1, len, t2, t3, header_is) refl

-- so many bytes don't end what has begun; a blob's end isn't told by its front
abbrev IsOpen : Begun → ℕ → Type 0
IsOpen Length len = len < 4
IsOpen (Header end) len = len < end
IsOpen (Blob type start size) len = Unit {0}

-- what has begun stays so as it fills
front_grows : (w x : List ℕ) (b : Begun) → front_at w ≡ Ok b → IsOpen b (length (w ++ x)) → front_at (w ++ x) ≡ Ok b
unfolding front_at
front_grows w x b e open_still = go (front_read w (Ok b) e)
  where
    go : FrontRead w (Ok b) → front_at (w ++ x) ≡ Ok b
    go (in_length a is) =
        let begun : Length ≡ b = ok_is {E = FrameFault} Length b is in
        let small : length (w ++ x) < 4 = subst (λ (v : Begun). IsOpen v (length (w ++ x))) (sym begun) open_still in
        let t1 : ltb (length (w ++ x)) 4 ≡ true = lt-ltb _ _ small in
        rw t1 is
    go (too_long a s is) = neither_both b HeaderTooLong is
    go (in_header a s c is) =
        let begun : Header (4 + header_len w) ≡ b = ok_is {E = FrameFault} (Header (4 + header_len w)) b is in
        let small : length (w ++ x) < 4 + header_len w = subst (λ (v : Begun). IsOpen v (length (w ++ x))) (sym begun) open_still in
        let total : length (w ++ x) ≡ length w + length x = length-append w x in
        let len = name_kept w x a in
        let t1 : ltb (length (w ++ x)) 4 ≡ false = le-ltb _ _ (omega arith) in
        let t2 : ltb 65535 (header_len w) ≡ false = le-ltb _ _ s in
        let t3 : ltb (length (w ++ x)) (4 + header_len w) ≡ true = lt-ltb _ _ small in
        rw (t1, len, t2, t3) is
    go (in_blob a s c is) = front_there w x a s c ∙ is

-- the same of the part
abbrev pub IsOpenPart : Part → ℕ → Type 0
IsOpenPart parts.Length len = len < 4
IsOpenPart (parts.Header end) len = len < end
IsOpenPart (parts.Blob end) len = Unit {0}

pub open_below : (p : Part) (len : ℕ) → len < kept.end_of p → IsOpenPart p len
open_below parts.Length len below = below
open_below (parts.Header end) len below = below
open_below (parts.Blob end) len below = tt

open_front : (offset len : ℕ) (b : Begun) (p : Part) → part_of offset b ≡ Ok p → IsOpenPart p len → IsOpen b len
open_front offset len Length p e open_still = subst (λ (v : Part). IsOpenPart v len) (sym (ok_is {E = FrameFault} parts.Length p e)) open_still
open_front offset len (Header end) p e open_still = subst (λ (v : Part). IsOpenPart v len) (sym (ok_is {E = FrameFault} (parts.Header end) p e)) open_still
open_front offset len (Blob type start size) p e open_still = tt

pub part_stays : (offset : ℕ) (w x : List ℕ) (p : Part) → part_at offset w ≡ Ok p → IsOpenPart p (length (w ++ x)) → part_at offset (w ++ x) ≡ Ok p
part_stays offset w x p e open_still =
    let h = then_ok (front_at w) (part_of offset) p e in
    let same = front_grows w x h.0 h.1 (open_front offset (length (w ++ x)) h.0 p h.2 open_still) in
    ap (λ (r : Result Begun FrameFault). r >>= part_of offset) same ∙ h.2

pub part_stays_in : (offset : ℕ) (w : List ℕ) (p : Part) → HasBegun offset p w → IsOpenPart p (length w) → part_at offset w ≡ Ok p
part_stays_in offset w p h open_still =
    let still = subst (λ (v : List ℕ). IsOpenPart p (length v)) h.joined open_still in
    ap (part_at offset) h.joined ∙ part_stays offset h.front h.behind p h.begun still

-- ---- the end of an input, by the part that has begun

abbrev pub some_end : Result (Unit {0}) FrameFault
some_end = Ok tt

abbrev cut : FrameFault → Result (Unit {0}) FrameFault
cut fault = Err fault

-- what an input's end comes to behind so many bytes of a frame
abbrev pub end_in : ℕ → Result Part FrameFault → Result (Unit {0}) FrameFault
end_in len r = r >>= λ p. cond (eqb len 0) some_end (end_after len p)

whole_or_cut : (b : Bool) (f : Found) → outcome (cond b (none_found BlobCut) (Ok f)) ≡ cond b (cut BlobCut) some_end
whole_or_cut true f = refl
whole_or_cut false f = refl

blob_ends : (b z : Bool) (len n : ℕ) (f : Found)
    → (cond b (no_end OffsetTooLarge) (Ok n) >>= λ end. cond z some_end (outcome (cond (ltb len n) (none_found BlobCut) (Ok f))))
    ≡ ((cond b (no_end OffsetTooLarge) (Ok n) >>= λ end. Ok (parts.Blob end)) >>= λ p. cond z some_end (end_after len p))
blob_ends true z len n f = refl
blob_ends false z len n f = ap (λ (r : Result (Unit {0}) FrameFault). cond z some_end r) (whole_or_cut (ltb len n) f)

ends_by_front : (offset : ℕ) (w : List ℕ) (r : Result Begun FrameFault)
    → ((r >>= end_of offset) >>= λ end. cond (eqb (length w) 0) some_end (outcome (r >>= frame_behind w))) ≡ end_in (length w) (r >>= part_of offset)
ends_by_front offset w (Err d) = refl
ends_by_front offset w (Ok Length) = refl
ends_by_front offset w (Ok (Header end)) = refl
ends_by_front offset w (Ok (Blob type start size)) =
    blob_ends (ltb 4611686018427387904 (offset + (start + size))) (eqb (length w) 0) (length w) (start + size) (found_at type (take size (drop start w)) (start + size))

pub ends_by_part : (offset : ℕ) (w : List ℕ) → (part_end offset w >>= λ end. cond (eqb (length w) 0) some_end (outcome (frame_at w))) ≡ end_in (length w) (part_at offset w)
ends_by_part offset w =
    ap (λ (r : Result ℕ FrameFault). r >>= λ end. cond (eqb (length w) 0) some_end (outcome (frame_at w))) (part_end_front offset w)
    ∙ ap (λ (q : Result Found FrameFault). (front_at w >>= end_of offset) >>= λ end. cond (eqb (length w) 0) some_end (outcome q)) (frame_at_front w)
    ∙ ends_by_front offset w (front_at w)
