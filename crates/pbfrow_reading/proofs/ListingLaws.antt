-- The plain reading of a listing against what a listing is.
use Rattle.std.proofs.Common.{◌≡◌, ℕ, zero, suc, ◌+◌, ◌-◌, ◌<◌, ◌≤◌, Bool, true, false, List, [], ◌∷◌, ◌++◌, length, take, drop, Result, Ok, Err, refl, sym, ap, subst, inl, inr, ◌∙◌, arith, append_assoc, zero-add, add-zero}
use Rattle.std.specs.List.{AllByRecursion}
use Rattle.std.proofs.lemmas.Bool.{cases_lt}
use Rattle.std.proofs.lemmas.List.{length-append, length-drop, length-take, take-append-drop, drop-drop}
use Rattle.std.proofs.Math.Seq.{drop-append_seam}
use Rattle.std.proofs.Math.ListN.{drop_of_length-le}
use Rattle.pbf_frame.specs.declared.fault.FrameFault.{FrameFault}
use Rattle.pbf_frame.specs.Frame.{FirstFault, Found, found_at, frame_at}
use Rattle.pbf_frame.proofs.FrameLaws.{frame_again, frame_takes, frame_faults, faults_again, frame_len}
use Rattle.pbf_frame.specs.Fault.{number_of, name_of}
use Rattle.osm_reading.specs.Lines.{fault_line}
use Rattle.pbfrow_reading.specs.Listing.{Plain, listed_line, frame_line, EndsAs, Lists}
use Rattle.pbfrow_reading.specs.Walks.{IsWholeFrame, joined, lines_from}
use Rattle.pbfrow_reading.specs.Reading.{Listing, line_and, listing_from, listing}
use Rattle.pbfrow_reading.proofs.ListingSteps.{listing_step, listing_end}

-- the same of the bytes behind a place
record ListsFrom (whole : Bool) (at : ℕ) (w text : List ℕ) : Type 0 where
  frames : List Plain
  rest : List ℕ
  line : List ℕ
  are_frames : AllByRecursion IsWholeFrame frames
  tiled : drop at w ≡ joined frames ++ rest
  ends : EndsAs whole (at + length (joined frames)) rest line
  lines : text ≡ lines_from listed_line at frames ++ line

abbrev IsListedFrom : ℕ → List ℕ → Listing → Type 0
IsListedFrom at w l = ListsFrom l.whole at w l.text

-- ---- what is read is a listing

ended : (at : ℕ) (w : List ℕ) → length w ≤ at → IsListedFrom at w (listing_from at w)
ended at w le = subst (IsListedFrom at w) (sym (listing_end at w le))
    (record { frames = []; rest = []; line = []; are_frames = tt; tiled = drop_of_length-le w le; ends = (refl, refl); lines = refl })

faulted : (at : ℕ) (w : List ℕ) (fault : FrameFault) → at < length w → frame_at (drop at w) ≡ Err fault → IsListedFrom at w (line_and at (Err fault) (λ next. listing_from next w))
faulted at w fault lt e = record {
  frames = [];
  rest = drop at w;
  line = fault_line (number_of fault) (name_of fault) at;
  are_frames = tt;
  tiled = refl;
  ends = (fault, frame_faults (drop at w) fault e, omega (arith, length-drop at w), ap (λ k. fault_line (number_of fault) (name_of fault) k) (sym (add-zero at)));
  lines = refl;
}

moved : (whole : Bool) (at more : ℕ) (first : List ℕ) (frames : List Plain) (rest line : List ℕ) → length first ≡ more → EndsAs whole (at + more + length (joined frames)) rest line → EndsAs whole (at + length (first ++ joined frames)) rest line
moved whole at more first frames rest line e ends =
    let h : at + more + length (joined frames) ≡ at + length (first ++ joined frames) = omega (arith, length-append first (joined frames), e) in
    subst (λ (k : ℕ). EndsAs whole k rest line) h ends

framed : (at : ℕ) (w : List ℕ) (f : Found) → frame_at (drop at w) ≡ Ok f → IsListedFrom (at + f.len) w (listing_from (at + f.len) w) → IsListedFrom at w (line_and at (Ok f) (λ next. listing_from next w))
framed at w f e l =
    let t = frame_takes (drop at w) f e in
    let first = take f.len (drop at w) in
    let len : length first ≡ f.len = omega (arith, length-take f.len (drop at w), t.within) in
    let p : Plain = record { type_name = f.type_name; blob = f.blob; bytes = first; found = tt } in
    let behind : drop f.len (drop at w) ≡ drop (at + f.len) w = drop-drop f.len at w in
    record {
      frames = p ∷ l.frames;
      rest = l.rest;
      line = l.line;
      are_frames = (t.spelled, l.are_frames);
      tiled = sym (take-append-drop f.len (drop at w)) ∙ ap (λ (x : List ℕ). first ++ x) (behind ∙ l.tiled) ∙ sym (append_assoc first (joined l.frames) l.rest);
      ends = moved (listing_from (at + f.len) w).whole at f.len first l.frames l.rest l.line len l.ends;
      lines = ap (λ (x : List ℕ). frame_line at f.type_name f.blob ++ x) (l.lines ∙ ap (λ (k : ℕ). lines_from listed_line (at + k) l.frames ++ l.line) (sym len))
          ∙ sym (append_assoc (frame_line at f.type_name f.blob) (lines_from listed_line (at + length first) l.frames) l.line);
    }

stepped : (at : ℕ) (w : List ℕ) (r : Result Found FrameFault) → at < length w → frame_at (drop at w) ≡ r
    → ((f : Found) → frame_at (drop at w) ≡ Ok f → IsListedFrom (at + f.len) w (listing_from (at + f.len) w)) → IsListedFrom at w (line_and at r (λ next. listing_from next w))
stepped at w (Ok f) lt e behind = framed at w f e (behind f e)
stepped at w (Err fault) lt e behind = faulted at w fault lt e

read_from : (n at : ℕ) (w : List ℕ) → length w - at ≤ n → IsListedFrom at w (listing_from at w)
read_from zero at w le = ended at w (omega arith)
read_from (suc n) at w le = elim (cases_lt at (length w)) [
  | inl lt ↦
      subst (IsListedFrom at w) (sym (listing_step at w lt)) (stepped at w (frame_at (drop at w)) lt refl (λ f e.
      let t = frame_len (drop at w) f e in
      read_from n (at + f.len) w (omega arith)))
  | inr ge ↦ ended at w ge
]

pub lists_read : (w : List ℕ) → Lists (listing w).whole w (listing w).text
lists_read w =
    let l = read_from (length w) 0 w (omega arith) in
    record { frames = l.frames; rest = l.rest; line = l.line; are_frames = l.are_frames; tiled = l.tiled; ends = subst (λ (k : ℕ). EndsAs (listing w).whole k l.rest l.line) (zero-add (length (joined l.frames))) l.ends; lines = l.lines }

-- ---- a listing is what is read

abbrev made : Bool → List ℕ → Listing
made whole text = record { text = text; whole = whole }

read_ending : (whole : Bool) (at : ℕ) (w rest line : List ℕ) → drop at w ≡ rest → EndsAs whole at rest line → listing_from at w ≡ made whole line
read_ending true at w rest line e (none, empty) =
    let le : length w ≤ at = omega (arith, length-drop at w, ap length (e ∙ none)) in
    listing_end at w le ∙ ap (made true) (sym empty)
read_ending false at w rest line e (fault, first, some, is_line) =
    let lt : at < length w = omega (arith, length-drop at w, ap length e) in
    let f : frame_at (drop at w) ≡ Err fault = faults_again (drop at w) fault (subst (FirstFault fault) (sym e) first) in
    listing_step at w lt ∙ ap (λ (r : Result Found FrameFault). line_and at r (λ next. listing_from next w)) f ∙ ap (made false) (sym is_line)

read_lists : (frames : List Plain) (whole : Bool) (at : ℕ) (w rest line : List ℕ) → AllByRecursion IsWholeFrame frames → drop at w ≡ joined frames ++ rest
    → EndsAs whole (at + length (joined frames)) rest line → listing_from at w ≡ made whole (lines_from listed_line at frames ++ line)
read_lists [] whole at w rest line are e ends = read_ending whole at w rest line e (subst (λ (k : ℕ). EndsAs whole k rest line) (add-zero at) ends)
read_lists (p ∷ ps) whole at w rest line (is, are) e ends =
    let tail = joined ps ++ rest in
    let all : drop at w ≡ p.bytes ++ tail = e ∙ append_assoc p.bytes (joined ps) rest in
    let f : frame_at (drop at w) ≡ Ok (found_at p.type_name p.blob (length p.bytes)) = ap frame_at all ∙ frame_again p.type_name p.blob p.bytes tail is in
    let len = frame_len (drop at w) (found_at p.type_name p.blob (length p.bytes)) f in
    let lt : at < length w = omega (arith, length-drop at w, len) in
    let behind : drop (at + length p.bytes) w ≡ tail = sym (drop-drop (length p.bytes) at w) ∙ ap (drop (length p.bytes)) all ∙ drop-append_seam p.bytes tail in
    let sum : at + length (p.bytes ++ joined ps) ≡ at + length p.bytes + length (joined ps) = omega (arith, length-append p.bytes (joined ps)) in
    let later = read_lists ps whole (at + length p.bytes) w rest line are behind (subst (λ (k : ℕ). EndsAs whole k rest line) sum ends) in
    listing_step at w lt ∙ ap (λ (r : Result Found FrameFault). line_and at r (λ next. listing_from next w)) f
    ∙ ap (λ (l : Listing). let k : Listing = record { text = frame_line at p.type_name p.blob ++ l.text; whole = l.whole } in k) later
    ∙ ap (made whole) (sym (append_assoc (frame_line at p.type_name p.blob) (lines_from listed_line (at + length p.bytes) ps) line))

pub listing_is : (whole : Bool) (w text : List ℕ) → Lists whole w text → listing w ≡ made whole text
listing_is whole w text l =
    read_lists l.frames whole 0 w l.rest l.line l.are_frames l.tiled (subst (λ (k : ℕ). EndsAs whole k l.rest l.line) (sym (zero-add (length (joined l.frames)))) l.ends)
    ∙ ap (made whole) (sym l.lines)

-- bytes have one listing
pub one_listing : (whole other : Bool) (w text text' : List ℕ) → Lists whole w text → Lists other w text' → (whole ≡ other) × (text ≡ text')
one_listing whole other w text text' a b =
    let e : made whole text ≡ made other text' = sym (listing_is whole w text a) ∙ listing_is other w text' b in
    (ap (λ (l : Listing). l.whole) e, ap (λ (l : Listing). l.text) e)
