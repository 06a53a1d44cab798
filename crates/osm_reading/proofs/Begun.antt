-- No frame ends before the end of what a framer holds.
use Rattle.std.proofs.Common.{◌≡◌, ◌⊎◌, ℕ, zero, suc, ◌+◌, ◌-◌, ◌<◌, ◌≤◌, List, [], ◌∷◌, ◌++◌, length, take, drop, Some, Result, Ok, Err, refl, sym, ap, subst, ◌∙◌, inl, inr, arith, append-nil, append_assoc, length-append}
use Rattle.std.proofs.lemmas.List.{take-append-drop, drop_at}
use Rattle.pbf_wire.proofs.Choices.{ok_is, not_both}
use Rattle.pbf_frame.specs.declared.fault.FrameFault.{FrameFault}
use Rattle.pbf_frame.specs.Framer.{Framing, fed, lacking, taken}
use Rattle.pbf_frame.specs.Parts.{part_end}
use Rattle.pbf_frame.proofs.PartLaws.{part_grows}
use Rattle.pbf_frame.proofs.WaitingLaws.{fault_again, waits_again}
use Rattle.osm_reading.specs.Framings.{Moved, IsFull, IsBegun, HasFull, HasNoFrame}
use Rattle.osm_reading.proofs.Filling.{empty-full}
use Rattle.osm_reading.proofs.Moves.{moved_both}

-- where a joining is cut: inside its first list, or behind it
cut : (a t front more : List ℕ) → a ++ t ≡ front ++ more
    → ((y : List ℕ) × (a ≡ front ++ y) × (0 < length y)) ⊎ ((x : List ℕ) × (front ≡ a ++ x) × (t ≡ x ++ more))
cut [] t front more e = inr (front, refl, e)
cut (z ∷ a) t [] more e = inl (z ∷ a, refl, omega arith)
cut (z ∷ a) t (w ∷ front) more e =
    let head : z ≡ w = cc in
    let tail : a ++ t ≡ front ++ more = cc in
    elim (cut a t front more tail) [
      | inl (y, is, some) ↦ inl (y, ap (λ (v : List ℕ). z ∷ v) is ∙ ap (λ n. n ∷ (front ++ y)) head, some)
      | inr (x, is, behind) ↦ inr (x, ap (λ (v : List ℕ). w ∷ v) is ∙ ap (λ n. n ∷ (a ++ x)) (sym head), behind)
    ]

take-short : (n : ℕ) (xs : List ℕ) → length (take n xs) ≤ n
take-short zero xs = omega arith
take-short (suc n) [] = omega arith
take-short (suc n) (x ∷ xs) = let h = take-short n xs in omega arith

-- a part that isn't full is no frame, and no fault stands there
unfilled : (offset : ℕ) (w : List ℕ) (n : ℕ) → part_end offset w ≡ Ok n → length w < n → IsFull (record { offset = offset; rest = w; lent = [] }) → ⊥
unfilled offset w n e small full = elim full [
  | inl waits ↦ (let same : n ≡ length w = ok_is {E = FrameFault} n (length w) (sym e ∙ waits_again (record { offset = offset; rest = w; lent = [] }) waits) in omega arith)
  | inr (fault, stands) ↦ not_both n fault (sym e ∙ fault_again (record { offset = offset; rest = w; lent = [] }) fault stands)
]

-- what is taken of a piece ends with the part that has begun
behind-rest : (offset : ℕ) (rest piece x more : List ℕ) (r : Result ℕ FrameFault) → part_end offset rest ≡ r → take (lacking (length rest) r) piece ≡ x ++ more → 0 < length more
    → IsFull (record { offset = offset; rest = rest ++ x; lent = [] }) → ⊥
behind-rest offset rest piece x more (Err fault) e is some full =
    let short = take-short 0 piece in
    let len : length (take 0 piece) ≡ length x + length more = ap length is ∙ length-append x more in
    omega arith
behind-rest offset rest piece x more (Ok n) e is some full =
    let short = take-short (n - length rest) piece in
    let len : length (take (n - length rest) piece) ≡ length x + length more = ap length is ∙ length-append x more in
    let total : length (rest ++ x) ≡ length rest + length x = length-append rest x in
    let small : length (rest ++ x) < n = omega arith in
    unfilled offset (rest ++ x) n (part_grows offset rest x n e small) small full

pub begun_fed : (f : Framing) (piece : List ℕ) → IsBegun f → IsBegun (fed f piece)
begun_fed f piece begun front more e some full = elim (cut f.rest (taken f piece) front more e) [
  | inl (y, is, long) ↦ begun front y is long full
  | inr (x, is, behind) ↦ behind-rest f.offset f.rest piece x more (part_end f.offset f.rest) refl behind some (subst (λ (v : List ℕ). IsFull (record { offset = f.offset; rest = v; lent = [] })) is full)
]

-- what is taken of a piece is its front
front-taken : (n k : ℕ) (xs q : List ℕ) → n ≡ length (take k xs) → q ≡ drop n xs → xs ≡ take k xs ++ q
front-taken n k xs q count left =
    let whole : take k xs ++ drop k xs ≡ xs = take-append-drop k xs in
    let behind : drop n xs ≡ drop k xs = ap (λ (v : List ℕ). drop n v) (sym whole) ∙ drop_at (take k xs) (drop k xs) n (sym count) in
    sym whole ∙ ap (λ (v : List ℕ). take k xs ++ v) (sym (left ∙ behind))

pub moved_fed : (first f g : Framing) (start piece q : List ℕ) (n : ℕ) → Moved first f (Some start) (Some piece) → g ≡ fed f piece → n ≡ length (taken f piece) → q ≡ drop n piece
    → Moved first g (Some start) (Some q)
moved_fed first f g start piece q n so_far is count left =
    moved_both first f g (Some start) (Some piece) (Some q) so_far (
      taken f piece,
      ap (λ (h : Framing). h.offset) is,
      ap (λ (h : Framing). h.rest) is,
      front-taken n (lacking (length f.rest) (part_end f.offset f.rest)) piece q count left,
    )

-- where nothing is held
pub begun-empty : (f : Framing) → f.rest ≡ [] → IsBegun f
begun-empty f empty front more e some full =
    let len : 0 ≡ length front + length more = ap length (sym empty ∙ e) ∙ length-append front more in
    omega arith

-- what is held has no frame where the framer takes more
pub no-frame : (f : Framing) → IsBegun f → (IsFull f → ⊥) → HasNoFrame f.offset f.rest
no-frame f begun hungry front [] e full = hungry (subst (λ (v : List ℕ). IsFull (record { offset = f.offset; rest = v; lent = [] })) (sym (e ∙ append-nil front)) full)
no-frame f begun hungry front (x ∷ more) e full = begun front (x ∷ more) e (omega arith) full

pub no-frame-in-nothing : (offset : ℕ) (bytes : List ℕ) → bytes ≡ [] → HasNoFrame offset bytes
no-frame-in-nothing offset bytes empty front more e full =
    let none : length front + length more ≡ 0 = sym (length-append front more) ∙ ap length (sym e ∙ empty) in
    empty-full (record { offset = offset; rest = front; lent = [] }) (nil front (omega arith)) full
  where
    nil : (xs : List ℕ) → length xs ≡ 0 → xs ≡ []
    nil [] h = refl
    nil (x ∷ xs) h = absurd (omega arith)

-- what a framer has and what is unread are the same bytes, whatever was taken
same-bytes : (f g : Framing) (p q : List ℕ) → Moved f g (Some p) (Some q) → g.rest ++ q ≡ f.rest ++ p
same-bytes f g p q h = ap (λ (v : List ℕ). v ++ q) h.2 ∙ append_assoc f.rest h.0 q ∙ ap (λ (v : List ℕ). f.rest ++ v) (sym h.3)

-- where the framer takes more and nothing is unread, there was no frame and no fault
pub not-ready : (f g : Framing) (p q : List ℕ) → Moved f g (Some p) (Some q) → IsBegun g → (IsFull g → ⊥) → q ≡ [] → HasFull f.offset (f.rest ++ p) → ⊥
not-ready f g p q moved begun hungry none ready =
    no-frame g begun hungry ready.0 ready.1 (sym (append-nil g.rest) ∙ ap (λ (v : List ℕ). g.rest ++ v) (sym none) ∙ same-bytes f g p q moved ∙ ready.2)
    (subst (λ n. IsFull (record { offset = n; rest = ready.0; lent = [] })) (sym moved.1) ready.3)
