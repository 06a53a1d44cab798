-- Where bytes lie in what holds them.
use Rattle.std.proofs.Common.{◌≡◌, ℕ, ◌+◌, ◌-◌, ◌≤◌, ◌==◌, Bool, true, false, cond, List, ◌∷◌, ◌++◌, length, take, drop, Option, Some, None, option_map, IfSome, Result, Ok, Err, refl, sym, ap, ◌∙◌, append_assoc, take_all, arith}
use Rattle.std.proofs.lemmas.List.{length-append, length-take-le, length-drop, drop-drop, drop-take}
use Rattle.std.proofs.Math.Seq.{drop-append_seam}
use Rattle.pbf_wire.specs.declared.fault.WireFault.{WireFault}
use Rattle.pbf_wire.specs.Field.{Content, Number, Fixed64, Bytes, Fixed32, Entry, Spells, next_at}
use Rattle.pbf_wire.specs.FieldList.{items_from, last_or}
use Rattle.pbf_wire.specs.Readings.{bytes_of, fitting, front}
use Rattle.pbf_wire.proofs.FieldListLaws.{items_at_none, items_at_some, items_at_fault}
use Rattle.pbf_frame.specs.Frame.{Frame}
use Rattle.pbfrow_c.specs.declared.blob.Place.{Place}
use Rattle.pbfrow_c.specs.Blob.{later_place, place_or, span}

-- the bytes behind what stands in front of them, where both end behind n bytes
pub record Ends (bs w : List ℕ) (n : ℕ) : Type 0 where
  pub fits : length bs ≤ n
  pub lies : span (n - length bs) (length bs) w ≡ bs

pub ends_behind : (front bs w : List ℕ) (at n : ℕ) → at ≤ n → n ≤ length w → take (n - at) (drop at w) ≡ front ++ bs → Ends bs w n
ends_behind front bs w at n low high e =
    let whole : length (take (n - at) (drop at w)) ≡ n - at = length-take-le (n - at) (drop at w) (omega (arith, length-drop at w)) in
    let parts : n - at ≡ length front + length bs = sym whole ∙ ap length e ∙ length-append front bs in
    let start : n - length bs ≡ at + length front = omega arith in
    record {
      fits = omega arith;
      lies = ap (λ k. take (length bs) (drop k w)) start
          ∙ ap (take (length bs)) (sym (drop-drop (length front) at w))
          ∙ sym (drop-take (length front) (length bs) (drop at w))
          ∙ ap (λ k. drop (length front) (take k (drop at w))) (sym parts)
          ∙ ap (drop (length front)) e
          ∙ drop-append_seam front bs;
    }

-- the bytes of a field end with it
pub bytes_end : (number : ℕ) (c : Content) (w : List ℕ) (at n : ℕ) → at ≤ n → n ≤ length w → Spells (record { number = number; content = c }) (take (n - at) (drop at w)) → IfSome (bytes_of c) (λ bs. Ends bs w n)
bytes_end number (Number k) w at n low high s = tt
bytes_end number (Fixed64 bs) w at n low high s = tt
bytes_end number (Bytes bs) w at n low high s =
    ends_behind (s.0 ++ s.4.0) bs w at n low high (s.5 ∙ ap (λ x. s.0 ++ x) s.4.2 ∙ sym (append_assoc s.0 s.4.0 bs))
bytes_end number (Fixed32 bs) w at n low high s = tt

some_fits : (o : Option (List ℕ)) (w : List ℕ) (n : ℕ) → IfSome o (λ bs. Ends bs w n) → IfSome o (λ bs. length bs ≤ n)
some_fits (Some bs) w n h = h.fits
some_fits None w n h = tt

pub bytes_fit : (e : Entry) (w : List ℕ) (at n : ℕ) → at ≤ n → n ≤ length w → Spells e (take (n - at) (drop at w)) → IfSome (bytes_of e.content) (λ bs. length bs ≤ n)
bytes_fit e w at n low high s = some_fits (bytes_of e.content) w n (bytes_end e.number e.content w at n low high s)

-- a blob ends with its frame
pub blob_fits : (type blob w : List ℕ) (n : ℕ) → n ≤ length w → Frame type blob (take n w) → length blob ≤ n
blob_fits type blob w n le f =
    let whole : length (take n w) ≡ n = length-take-le n w le in
    let parts : length (take n w) ≡ length f.name + length (f.header ++ blob) = ap length f.joined ∙ length-append f.name (f.header ++ blob) in
    let more : length (f.header ++ blob) ≡ length f.header + length blob = length-append f.header blob in
    omega arith

pub blob_behind : (type blob w : List ℕ) (n : ℕ) → n ≤ length w → Frame type blob (take n w) → drop (n - length blob) (take n w) ≡ blob
blob_behind type blob w n le f =
    let front : List ℕ = f.name ++ f.header in
    let joined : take n w ≡ front ++ blob = f.joined ∙ sym (append_assoc f.name f.header blob) in
    let whole : length (take n w) ≡ n = length-take-le n w le in
    let parts : length (take n w) ≡ length front + length blob = ap length joined ∙ length-append front blob in
    let at : n - length blob ≡ length front = omega arith in
    ap (λ k. drop k (take n w)) at ∙ ap (drop (length front)) joined ∙ drop-append_seam front blob

-- all that is left behind the front
pub rest-is : (w : List ℕ) (from : ℕ) → take (length w - from) (drop from w) ≡ drop from w
rest-is w from = take_all (length w - from) (drop from w) (omega (arith, length-drop from w))

-- ---- a walk over fields that looks for the last bytes

-- a place lies in w
abbrev pub IsWithin : List ℕ → Option Place → Type 0
IsWithin w place = IfSome place (λ p. p.at + p.length ≤ length w)

-- the bytes in the fields from an offset on, behind those that lie at this place
abbrev pub last_from : ℕ → Option Place → ℕ → List ℕ → Option (List ℕ)
last_from k before at w = last_or (option_map (λ p. span p.at p.length w) before) (fitting bytes_of k (front (items_from at w)))

-- what the field is read as
abbrev pub read_as : ℕ → Entry → Option (List ℕ)
read_as k e = cond (e.number == k) (bytes_of e.content) None

kept_if : (b : Bool) (o : Option (List ℕ)) (P : List ℕ → Type 0) → IfSome o P → IfSome (cond b o None) P
kept_if true o P h = h
kept_if false o P h = tt

pub record Later (k at next : ℕ) (w : List ℕ) (before after : Option Place) : Type 0 where
  pub within : IsWithin w after
  pub so_far : last_from k after next w ≡ last_from k before at w

module _ (k at next : ℕ) (w : List ℕ) (e : Entry) (before : Option Place) (high : next ≤ length w) (stands : next_at at w ≡ Ok (Some (e, next))) (within : IsWithin w before) where
  unfolds : last_from k before at w ≡ last_or (option_map (λ p. span p.at p.length w) before) (fitting bytes_of k (e ∷ front (items_from next w)))
  unfolds = ap (λ (items : List (Result Entry WireFault)). last_or (option_map (λ (p : Place). span p.at p.length w) before) (fitting bytes_of k (front items))) (items_at_some at w (e, next) stands)

  later_by : (o : Option (List ℕ)) → read_as k e ≡ o → IfSome o (λ bs. Ends bs w next) → Later k at next w before (place_or next o before)
  later_by (Some bs) is ends = record {
    within = omega (arith, ends.fits);
    so_far = ap (λ (x : List ℕ). last_or (Some x) (fitting bytes_of k (front (items_from next w)))) ends.lies ∙ sym (unfolds ∙ rw is refl);
  }
  later_by None is ends = record { within = within; so_far = sym (unfolds ∙ rw is refl) }

-- the place behind one more field
pub later : (k at next : ℕ) (w : List ℕ) (e : Entry) (before : Option Place) → at ≤ next → next ≤ length w → next_at at w ≡ Ok (Some (e, next)) → Spells e (take (next - at) (drop at w)) → IsWithin w before
    → Later k at next w before (later_place e next k before)
later k at next w e before low high stands s within =
    later_by k at next w e before high stands within (read_as k e) refl (kept_if (e.number == k) (bytes_of e.content) (λ bs. Ends bs w next) (bytes_end e.number e.content w at next low high s))

pub last_from-end : (k at : ℕ) (w : List ℕ) (before : Option Place) → next_at at w ≡ Ok None → last_from k before at w ≡ option_map (λ p. span p.at p.length w) before
last_from-end k at w before h = ap (λ (items : List (Result Entry WireFault)). last_or (option_map (λ (p : Place). span p.at p.length w) before) (fitting bytes_of k (front items))) (items_at_none at w h)

pub last_from-fault : (k at : ℕ) (w : List ℕ) (before : Option Place) (fault : WireFault) → next_at at w ≡ Err fault → last_from k before at w ≡ option_map (λ p. span p.at p.length w) before
last_from-fault k at w before fault h = ap (λ (items : List (Result Entry WireFault)). last_or (option_map (λ (p : Place). span p.at p.length w) before) (fitting bytes_of k (front items))) (items_at_fault at w fault h)
