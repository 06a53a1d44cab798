-- The blobs of several stores, gathered, and each of them once.
use Rattle.std.proofs.Common.{◌≡◌, ◌⊎◌, ℕ, zero, suc, ◌+◌, ◌<◌, ◌≤◌, cond, Bool, true, false, List, [], ◌∷◌, ◌++◌, map, length, take, get_or, slice_get, Some, refl, sym, ◌∙◌, ap, subst, inl, inr, arith, add-one, IsPermutation}
use Rattle.std.specs.List.{Contains}
use Rattle.std.specs.List.Sorted.{IsNonDecreasingBy}
use Rattle.std.specs.Ordering.{nat_cmp}
use Rattle.std.specs.FinMap.{get, entries, find, is_sorted, get-entries, entries_sorted}
use Rattle.std.proofs.lemmas.Bool.Decides.{eqb_tells}
use Rattle.std.proofs.lemmas.List.{take_more}
use Rattle.std.proofs.lemmas.List.Elements.{Contains-append_left, Contains-append_right, Contains-append_cases, Contains-push, Contains-push_cases}
use Rattle.std.proofs.lemmas.List.Sorted.{Contains-permutation, IsPermutation-sym}
use Rattle.pbf_frame.specs.declared.kind.Kind.TheVariants.{OsmHeader}
use Rattle.osm_rows.specs.Held.{Blob, HeldMap, IsApart}
use Rattle.osm_rows.specs.Keeping.{extents_of, extent_of, IsForeign}
use Rattle.osm_rows.specs.declared.fault.StoreFault.{StoreFault}
use Rattle.osm_rows.specs.declared.keeper.Extent.{Extent}
use Rattle.osm_import.specs.declared.answer.Conflict.TheVariants.{Differs, Overlap}
use Rattle.osm_import.proofs.Touching.{find-head, find-tail, sorted-tail, find-cons}
use Rattle.osm_import.proofs.Delivering.{true-of}
use Rattle.osm_import.proofs.WalkLemmas.{read-is}
use Rattle.osm_parts.specs.Parts.{IsInPart}
use Rattle.osm_parts.specs.Pieces.{offset_of, pieces_of, IsPiece, AreGathered, IsRow, AreOnce, IfLast, IsNext, IsInTheWay, IsAmong}
use Rattle.osm_parts.specs.PartsFaults.{IsOfMaps}
use Rattle.osm_parts.specs.Reading.{IsReadOf, AreStores}
use Rattle.osm_parts.specs.declared.pieces.Piece.{Piece}
use Rattle.osm_parts.specs.declared.runs.Part.{Part}
use Rattle.osm_parts.specs.declared.fault.PartsFault.{PartsFault}
use Rattle.osm_parts.specs.declared.fault.PartsFault.TheVariants.{Interleaved, Refused, Store}
use Rattle.osm_parts.proofs.Orders.{in-at}

-- ---- lists

pub contains-map : {A B : Type 0} (f : A → B) (xs : List A) (y : B) → Contains (map f xs) y → (x : A) × Contains xs x × (y ≡ f x)
contains-map f [] y (k, low, is) = absurd (omega arith)
contains-map f (x ∷ xs) y (zero, low, is) = (x, (0, omega arith, refl), sym is)
contains-map f (x ∷ xs) y (suc k, low, is) = let it = contains-map f xs y (k, omega arith, is) in let found = it.1 in (it.0, (suc found.0, let h : found.0 < length xs = found.1 in omega arith, found.2), it.2)

pub map-contains : {A B : Type 0} (f : A → B) (xs : List A) (x : A) → Contains xs x → Contains (map f xs) (f x)
map-contains f [] x (k, low, is) = absurd (omega arith)
map-contains f (y ∷ xs) x (zero, low, is) = (0, omega arith, ap f is)
map-contains f (y ∷ xs) x (suc k, low, is) = let it = map-contains f xs x (k, omega arith, is) in (suc it.0, let h : it.0 < length (map f xs) = it.1 in omega arith, it.2)

contains-take : (xs : List Piece) (i : ℕ) (x : Piece) → Contains (take i xs) x → (k : ℕ) × (k < i) × (k < length xs) × (get_or xs k x ≡ x)
contains-take [] zero x (k, low, is) = absurd (omega arith)
contains-take [] (suc i) x (k, low, is) = absurd (omega arith)
contains-take (y ∷ xs) zero x (k, low, is) = absurd (omega arith)
contains-take (y ∷ xs) (suc i) x (zero, low, is) = (0, omega arith, omega arith, is)
contains-take (y ∷ xs) (suc i) x (suc k, low, is) = let it = contains-take xs i x (k, omega arith, is) in let h1 : it.0 < i = it.1 in let h2 : it.0 < length xs = it.2 in (suc it.0, omega arith, omega arith, it.3)

pub taken : (xs : List Piece) (i : ℕ) (x : Piece) → i < length xs → x ≡ get_or xs i x → take (i + 1) xs ≡ take i xs ++ x ∷ []
taken xs i x low is = take_more xs i x low ∙ ap (λ (y : Piece). take i xs ++ y ∷ []) (sym is)

-- ---- the extents of a map

pub has-extent : (es : List (ℕ × Blob)) (off : ℕ) (blob : Blob) → find nat_cmp off es ≡ Some blob → Contains (map extent_of es) (extent_of (off, blob))
has-extent [] off blob found = absurd (cc)
has-extent (e ∷ es) off blob found = elim (eqb_tells off e.0) [
  | inl (test, same) ↦ (
      let here : Some e.1 ≡ Some blob = sym (find-cons off e es ∙ ap (λ b. cond b (Some e.1) (find nat_cmp off es)) test) ∙ found in
      let blobs : e.1 ≡ blob = cc in
      (0, omega arith, ap (λ (n : ℕ). extent_of (n, e.1)) (sym same) ∙ ap (λ (b : Blob). extent_of (off, b)) blobs)
      )
  | inr (test, _) ↦ (
      let it = has-extent es off blob (sym (find-cons off e es ∙ ap (λ b. cond b (Some e.1) (find nat_cmp off es)) test) ∙ found) in
      (suc it.0, let h : it.0 < length (map extent_of es) = it.1 in omega arith, it.2)
      )
]

pub each-extent : (es : List (ℕ × Blob)) → is_sorted nat_cmp es ≡ true → (x : Extent) → Contains (map extent_of es) x → (blob : Blob) × (find nat_cmp x.off es ≡ Some blob) × (extent_of (x.off, blob) ≡ x)
each-extent [] sorted x (k, low, is) = absurd (omega arith)
each-extent (e ∷ es) sorted x (zero, low, is) =
    let offs : e.0 ≡ x.off = ap (λ (y : Extent). y.off) is in
    (e.1, subst (λ n. find nat_cmp n (e ∷ es) ≡ Some e.1) offs (find-head e es), ap (λ (n : ℕ). extent_of (n, e.1)) (sym offs) ∙ is)
each-extent (e ∷ es) sorted x (suc k, low, is) =
    let it = each-extent es (sorted-tail e es sorted) x (k, omega arith, is) in
    (it.0, (find-tail e es sorted x.off it.0 it.1).1, it.2)

-- ---- the stores at the first places

in-both : (maps : List HeldMap) (held : HeldMap) (off : ℕ) (blob : Blob) → IsInPart (maps ++ held ∷ []) off blob → IsInPart maps off blob ⊎ (get held off ≡ Some blob)
in-both [] held off blob found = elim found [ inl here ↦ inr here | inr bad ↦ absurd bad ]
in-both (first ∷ maps) held off blob found = elim found [
  | inl here ↦ inl (inl here)
  | inr later ↦ elim (in-both maps held off blob later) [ inl there ↦ inl (inr there) | inr last ↦ inr last ]
]

take-place : (maps : List HeldMap) (place : ℕ) (held : HeldMap) → slice_get maps place ≡ Some held → take (suc place) maps ≡ take place maps ++ held ∷ []
take-place [] place held at = absurd (cc)
take-place (first ∷ maps) zero held at = let same : first ≡ held = cc in ap (λ (m : HeldMap). m ∷ []) same
take-place (first ∷ maps) (suc place) held at = ap (λ (l : List HeldMap). first ∷ l) (take-place maps place held at)

in-place : (maps : List HeldMap) (place : ℕ) (held : HeldMap) (off : ℕ) (blob : Blob) → slice_get maps place ≡ Some held → IsInPart (take (place + 1) maps) off blob → IsInPart (take place maps) off blob ⊎ (get held off ≡ Some blob)
in-place maps place held off blob at found =
    in-both (take place maps) held off blob (subst (λ (l : List HeldMap). IsInPart l off blob) (ap (λ n. take n maps) (add-one place) ∙ take-place maps place held at) found)

pub held-at : (maps : List HeldMap) (place : ℕ) → place < length maps → (held : HeldMap) × (slice_get maps place ≡ Some held)
held-at [] place low = absurd (omega arith)
held-at (held ∷ maps) zero low = (held, refl)
held-at (held ∷ maps) (suc place) low = held-at maps place (omega arith)

pub none-gathered : (maps : List HeldMap) (asked : Bool) → AreGathered maps asked 0 []
none-gathered maps asked = record { each = none; all = λ off blob found. absurd (nothing maps off blob found) }
  where
    none : (piece : Piece) → Contains [] piece → IsPiece maps asked piece
    none piece (k, low, is) = absurd (omega arith)

    nothing : (maps : List HeldMap) (off : ℕ) (blob : Blob) → IsInPart (take 0 maps) off blob → ⊥
    nothing [] off blob found = found
    nothing (map ∷ maps) off blob found = found

module _ (maps : List HeldMap) (asked : Bool) (place : ℕ) (held : HeldMap) (part : Part) (at : slice_get maps place ≡ Some held) (apart : IsApart held) (read : IsReadOf asked place held part) where
  made-piece : (piece : Piece) → Contains (pieces_of place part.history part.extents.items) piece → IsPiece maps asked piece
  made-piece piece found =
      let it = contains-map _ part.extents.items piece found in
      let within : Contains (extents_of held) it.0 = subst (λ (es : List Extent). Contains es it.0) read.extents it.1 in
      let blob = each-extent (entries held) (true-of _ (entries_sorted held)) it.0 within in
      subst (λ (p : Piece). IsPiece maps asked p) (sym it.2)
      (record { store = held; at = at; blob = blob.0; found = get-entries held _ ∙ blob.1; is = blob.2; history = read.history; apart = apart })

  pub gathered-more : (old new : List Piece) → AreGathered maps asked place old → new ≡ old ++ pieces_of place part.history part.extents.items → AreGathered maps asked (place + 1) new
  gathered-more old new so_far is = subst (λ (l : List Piece). AreGathered maps asked (place + 1) l) (sym is) (record {
    each = λ piece found. elim (Contains-append_cases old (pieces_of place part.history part.extents.items) piece found) [ inl before ↦ so_far.each piece before | inr now ↦ made-piece piece now ];
    all = λ off blob found. elim (in-place maps place held off blob at found) [
      | inl there ↦ (let it = so_far.all off blob there in (it.0, Contains-append_left old (pieces_of place part.history part.extents.items) it.0 it.1, it.2))
      | inr here ↦ (
          let extent : Contains part.extents.items (extent_of (off, blob)) = subst (λ (es : List Extent). Contains es (extent_of (off, blob))) (sym read.extents) (has-extent (entries held) off blob (sym (get-entries held off) ∙ here)) in
          let piece : Piece = record { place = place; extent = extent_of (off, blob); history = part.history } in
          (piece, Contains-append_right old (pieces_of place part.history part.extents.items) piece (map-contains (λ (e : Extent). let p : Piece = record { place = place; extent = e; history = part.history } in p) part.extents.items (extent_of (off, blob)) extent), refl)
          )
    ];
  })

-- what was read of the store at a place
pub store-at : (asked : Bool) (place : ℕ) (maps : List HeldMap) (stores : List Part) (i : ℕ) (part : Part) → AreStores asked place maps stores → i < length stores → part ≡ get_or stores i part
    → (held : HeldMap) × (slice_get maps i ≡ Some held) × IsReadOf asked (place + i) held part × IsApart held
store-at asked place [] [] i part are low is = absurd (omega arith)
store-at asked place [] (first ∷ stores) i part are low is = absurd are
store-at asked place (held ∷ maps) [] i part are low is = absurd are
store-at asked place (held ∷ maps) (first ∷ stores) zero part are low is =
    let here : place ≡ place + 0 = omega arith in
    (held, refl, subst (λ n. IsReadOf asked n held part) here (subst (λ (p : Part). IsReadOf asked place held p) (sym is) are.0), are.1)
store-at asked place (held ∷ maps) (first ∷ stores) (suc i) part are low is =
    let it = store-at asked (place + 1) maps stores i part are.2 (omega arith) is in
    let there : place + 1 + i ≡ place + suc i = omega arith in
    (it.0, it.1, subst (λ n. IsReadOf asked n it.0 part) there it.2, it.3)

pub stores-long : (asked : Bool) (place : ℕ) (maps : List HeldMap) (stores : List Part) → AreStores asked place maps stores → length maps ≡ length stores
stores-long asked place [] [] are = refl
stores-long asked place [] (first ∷ stores) are = absurd are
stores-long asked place (held ∷ maps) [] are = absurd are
stores-long asked place (held ∷ maps) (first ∷ stores) are = ap suc (stores-long asked (place + 1) maps stores are.2)

pub gathered-permuted : (maps : List HeldMap) (asked : Bool) (count : ℕ) (xs ys : List Piece) → IsPermutation xs ys → AreGathered maps asked count xs → AreGathered maps asked count ys
gathered-permuted maps asked count xs ys same so_far = record {
  each = λ piece found. so_far.each piece (Contains-permutation ys xs piece (IsPermutation-sym xs ys same) found);
  all = λ off blob found. (let it = so_far.all off blob found in (it.0, Contains-permutation xs ys it.0 same it.1, it.2));
}

-- ---- each once

-- what is read of a list where it has no element
abbrev pub blank : Piece
blank = record { place = 0; extent = record { off = 0; fin = 0; digest = []; kind = OsmHeader; n = 0 }; history = false }

pub piece-at : (pieces : List Piece) (i : ℕ) → i < length pieces → get_or pieces i blank ≡ get_or pieces i (get_or pieces i blank)
piece-at pieces i low = read-is pieces i blank (get_or pieces i blank) low

row-push : (from : ℕ) (xs : List Piece) (piece : Piece) → IsRow from xs → IfLast (λ last. last.extent.fin ≤ piece.extent.off) xs → (xs ≡ [] → from ≤ piece.extent.off) → IsRow from (xs ++ piece ∷ [])
row-push from [] piece row last low = (low refl, tt)
row-push from (x ∷ []) piece row last low = (row.0, (last, tt))
row-push from (x ∷ y ∷ xs) piece row last low = (row.0, row-push x.extent.fin (y ∷ xs) piece row.1 last (λ none. absurd (cc)))

once-push : (done old new : List Piece) (piece : Piece) → AreOnce done old → IsNext piece old new → AreOnce (done ++ piece ∷ []) new
once-push done old new piece so_far next = elim next [
  | inl (same, has) ↦ subst (λ (l : List Piece). AreOnce (done ++ piece ∷ []) l) (sym same) (record {
    row = so_far.row;
    each = λ p found. Contains-append_left done (piece ∷ []) p (so_far.each p found);
    all = λ p found. elim (Contains-push_cases done piece p found) [
      | inl before ↦ so_far.all p before
      | inr is ↦ (has.0, has.1, has.2 ∙ ap (λ (q : Piece). q.extent) is)
    ];
  })
  | inr (same, last) ↦ subst (λ (l : List Piece). AreOnce (done ++ piece ∷ []) l) (sym same) (record {
    row = row-push 0 old piece so_far.row last (λ none. omega arith);
    each = λ p found. elim (Contains-push_cases old piece p found) [
      | inl before ↦ Contains-append_left done (piece ∷ []) p (so_far.each p before)
      | inr is ↦ subst (λ (q : Piece). Contains (done ++ piece ∷ []) q) is (Contains-push done piece)
    ];
    all = λ p found. elim (Contains-push_cases done piece p found) [
      | inl before ↦ (let it = so_far.all p before in (it.0, Contains-append_left old (piece ∷ []) it.0 it.1, it.2))
      | inr is ↦ (piece, Contains-push old piece, ap (λ (q : Piece). q.extent) is)
    ];
  })
]

pub once-more : (pieces : List Piece) (i : ℕ) (piece : Piece) (old new : List Piece) → i < length pieces → piece ≡ get_or pieces i piece → AreOnce (take i pieces) old → IsNext piece old new → AreOnce (take (i + 1) pieces) new
once-more pieces i piece old new low is so_far next =
    subst (λ (l : List Piece). AreOnce l new) (sym (taken pieces i piece low is)) (once-push (take i pieces) old new piece so_far next)

module _ (pieces : List Piece) (i : ℕ) (piece : Piece) (old : List Piece) (low : i < length pieces) (is : piece ≡ get_or pieces i piece) (so_far : AreOnce (take i pieces) old) (sorted : IsNonDecreasingBy offset_of pieces) where
  before : (last : Piece) → Contains old last → Contains pieces last × (last.extent.off ≤ piece.extent.off)
  before last found =
      let it = contains-take pieces i last (so_far.each last found) in
      let h : it.0 < i = it.1 in
      let le : offset_of (get_or pieces it.0 last) ≤ offset_of (get_or pieces i last) = sorted it.0 i last (omega arith) low in
      let here : get_or pieces i last ≡ piece = read-is pieces i last piece low ∙ sym is in
      ((it.0, it.2, it.3), subst (λ (q : Piece). offset_of q ≤ offset_of piece) it.3 (subst (λ (q : Piece). offset_of (get_or pieces it.0 last) ≤ offset_of q) here le))

  itself : Contains pieces piece
  itself = (i, low, sym is)

  pub in-the-way : (fault : PartsFault) → IsInTheWay piece old fault → IsAmong pieces fault
  in-the-way (Interleaved off) refused = absurd refused
  in-the-way (Refused Differs off) (last, found, here, there, differ) = (piece, last, itself, (before last found).0, here, there, differ)
  in-the-way (Refused Overlap off) (last, found, here, apart, over) =
      let it = before last found in let le : last.extent.off ≤ piece.extent.off = it.1 in
      let behind : last.extent.off < off = omega (arith, here, apart) in
      (piece, last, itself, it.0, here, behind, over)
  in-the-way (Store fault) memory = memory

-- ---- what is refused

module _ (maps : List HeldMap) (asked : Bool) (count : ℕ) (pieces : List Piece) (gathered : AreGathered maps asked count pieces) where
  held-there : (piece : Piece) (off : ℕ) → Contains pieces piece → piece.extent.off ≡ off → (blob : Blob) × IsInPart maps off blob × (extent_of (off, blob) ≡ piece.extent)
  held-there piece off found same =
      let it = gathered.each piece found in (
        it.blob,
        in-at maps piece.place it.store off it.blob it.at (ap (get it.store) (sym same) ∙ it.found),
        ap (λ (n : ℕ). extent_of (n, it.blob)) (sym same) ∙ it.is,
      )

  pub among-maps : (fault : PartsFault) → IsAmong pieces fault → IsOfMaps maps fault
  among-maps (Interleaved off) refused = absurd refused
  among-maps (Refused Differs off) (one, other, found, also, here, there, differ) =
      let first = held-there one off found here in
      let second = held-there other off also there in
      (first.0, second.0, first.1, second.1, λ same. differ (sym second.2 ∙ same ∙ first.2))
  among-maps (Refused Overlap off) (one, other, found, also, here, less, over) =
      let first = held-there one off found here in
      let second = held-there other other.extent.off also refl in
      let fin : second.0.fin ≡ other.extent.fin = ap (λ (e : Extent). e.fin) second.2 in
      (first.0, other.extent.off, second.0, first.1, second.1, less, omega (arith, fin, over))
  among-maps (Store fault) memory = λ foreign. subst (λ (f : StoreFault). IsForeign f) memory foreign
