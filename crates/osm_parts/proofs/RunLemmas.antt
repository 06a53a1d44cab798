-- From pieces in a row to the runs of the stores.
use Rattle.std.proofs.Common.{◌≡◌, ℕ, zero, suc, ◌+◌, ◌<◌, ◌≤◌, cond, Bool, List, [], ◌∷◌, ◌++◌, map, length, slice_get, Some, refl, sym, ◌∙◌, ap, subst, inl, inr, arith, append_assoc, append-nil}
use Rattle.std.specs.List.{Contains}
use Rattle.std.specs.Ordering.{nat_cmp}
use Rattle.std.specs.Cmp.{nat_cmp_total}
use Rattle.std.specs.FinMap.{get, entries, find, get-entries, entries_sorted, nat_cmp-IsAntisymmetric, from_entries, get-from_entries}
use Rattle.std.specs.FinMap.Entries.{same_entries}
use Rattle.std.proofs.lemmas.Bool.Decides.{eqb_tells}
use Rattle.std.proofs.lemmas.List.{map-append, take_all}
use Rattle.std.proofs.lemmas.List.Elements.{Contains-append_left, Contains-append_right, Contains-append_cases}
use Rattle.osm_rows.specs.Held.{Blob, HeldMap, IsApart}
use Rattle.osm_rows.specs.Keeping.{extents_of, extent_of}
use Rattle.osm_rows.specs.declared.keeper.Extent.{Extent}
use Rattle.osm_import.proofs.Touching.{find-head, find-cons}
use Rattle.osm_import.proofs.Delivering.{true-of}
use Rattle.osm_parts.specs.Parts.{LiesIn, FollowFrom, IsInPart}
use Rattle.osm_parts.specs.Interleaved.{AreInterleaved}
use Rattle.osm_parts.specs.Pieces.{IsPiece, AreGathered, IsRow, AreOnce}
use Rattle.osm_parts.specs.Reading.{IsPart, AreEach, AreRead}
use Rattle.osm_parts.specs.Runs.{first_offset, AreAt, IsRunOf, AreCut, IsPut, IsBetween}
use Rattle.osm_parts.specs.declared.pieces.Piece.{Piece}
use Rattle.osm_parts.specs.declared.runs.Part.{Part}
use Rattle.osm_parts.proofs.OpeningLemmas.{same-held}
use Rattle.osm_parts.proofs.Orders.{in-at, follow-apart}
use Rattle.osm_parts.proofs.PartsLemmas.{Rise, rise-later, rise-sorted, in_part-lies}
use Rattle.osm_parts.proofs.PieceLemmas.{map-contains, each-extent}

-- ---- one piece more

at-push : (place : ℕ) (pieces : List Piece) (piece : Piece) → AreAt place pieces → piece.place ≡ place → AreAt place (pieces ++ piece ∷ [])
at-push place [] piece at same = (same, tt)
at-push place (first ∷ pieces) piece at same = (at.0, at-push place pieces piece at.1 same)

cut-push : (old : List Part) (pieces : List Piece) (part : Part) (piece : Piece) → AreCut old pieces → IsRunOf part piece [] → AreCut (old ++ part ∷ []) (pieces ++ piece ∷ [])
cut-push [] pieces part piece none run = (piece, [], [], run, refl, ap (λ (l : List Piece). l ++ piece ∷ []) none)
cut-push (first ∷ old) pieces part piece (head, behind, rest, one, cut, is) run =
    (head, behind, rest ++ piece ∷ [], one, cut-push old rest part piece cut run, ap (λ (l : List Piece). l ++ piece ∷ []) is ∙ ap (λ (l : List Piece). head ∷ l) (append_assoc behind rest (piece ∷ [])))

record Grown (last part : Part) (piece : Piece) : Type 0 where
  pub same : last.place ≡ piece.place
  pub place : part.place ≡ last.place
  pub history : part.history ≡ last.history
  pub extents : part.extents.items ≡ last.extents.items ++ piece.extent ∷ []

run-grown : (last part : Part) (piece head : Piece) (behind : List Piece) → Grown last part piece → IsRunOf last head behind → IsRunOf part head (behind ++ piece ∷ [])
run-grown last part piece head behind grown run = record {
  place = run.place ∙ sym grown.place;
  places = subst (λ n. AreAt n (behind ++ piece ∷ [])) (sym grown.place) (at-push last.place behind piece run.places (sym grown.same));
  history = grown.history ∙ run.history;
  extents = grown.extents ∙ ap (λ (es : List Extent). es ++ piece.extent ∷ []) run.extents ∙ ap (λ (es : List Extent). head.extent ∷ es) (sym (map-append (λ (p : Piece). p.extent) behind (piece ∷ [])));
}

cut-grow : (front : List Part) (last part : Part) (pieces : List Piece) (piece : Piece) → AreCut (front ++ last ∷ []) pieces → Grown last part piece → AreCut (front ++ part ∷ []) (pieces ++ piece ∷ [])
cut-grow [] last part pieces piece (head, behind, rest, one, none, is) grown = (
  head,
  behind ++ piece ∷ [],
  [],
  run-grown last part piece head behind grown one,
  refl,
  ap (λ (l : List Piece). l ++ piece ∷ []) is ∙ ap (λ (l : List Piece). head ∷ ((behind ++ l) ++ piece ∷ [])) none ∙ ap (λ (l : List Piece). head ∷ (l ++ piece ∷ [])) (append-nil behind)
      ∙ ap (λ (l : List Piece). head ∷ l) (sym (append-nil (behind ++ piece ∷ []))),
)
cut-grow (first ∷ front) last part pieces piece (head, behind, rest, one, cut, is) grown =
    (head, behind, rest ++ piece ∷ [], one, cut-grow front last part rest piece cut grown, ap (λ (l : List Piece). l ++ piece ∷ []) is ∙ ap (λ (l : List Piece). head ∷ l) (append_assoc behind rest (piece ∷ [])))

pub cut-more : (old new : List Part) (pieces : List Piece) (piece : Piece) → AreCut old pieces → IsPut piece old new → AreCut new (pieces ++ piece ∷ [])
cut-more old new pieces piece cut (front, part, is, put) =
    subst (λ (l : List Part). AreCut l (pieces ++ piece ∷ [])) (sym is) (elim put [
      | inl (same, run) ↦ subst (λ (l : List Part). AreCut (l ++ part ∷ []) (pieces ++ piece ∷ [])) (sym same) (cut-push old pieces part piece cut run)
      | inr (last, was, same, place, history, extents) ↦ cut-grow front last part pieces piece (subst (λ (l : List Part). AreCut l pieces) was cut) (record { same = same; place = place; history = history; extents = extents })
    ])

-- ---- the blobs of one run

-- where the last of them ends
abbrev end_of : ℕ → List Piece → ℕ
end_of from [] = from
end_of from (piece ∷ pieces) = end_of piece.extent.fin pieces

row-split : (from : ℕ) (xs ys : List Piece) → IsRow from (xs ++ ys) → IsRow from xs × IsRow (end_of from xs) ys
row-split from [] ys row = (tt, row)
row-split from (x ∷ xs) ys row = let it = row-split x.extent.fin xs ys row.1 in ((row.0, it.0), it.1)

-- they are blobs of the map, and these are its entries
abbrev AreOf : HeldMap → List Piece → List (ℕ × Blob) → Type 0
AreOf held [] [] = Unit {0}
AreOf held [] (e ∷ es) = ⊥
AreOf held (piece ∷ pieces) [] = ⊥
AreOf held (piece ∷ pieces) (e ∷ es) = (get held e.0 ≡ Some e.1) × (extent_of e ≡ piece.extent) × AreOf held pieces es

head-contains : (x : Piece) (xs : List Piece) → Contains (x ∷ xs) x
head-contains x xs = (0, omega arith, refl)

tail-contains : (x : Piece) (xs : List Piece) (y : Piece) → Contains xs y → Contains (x ∷ xs) y
tail-contains x xs y (k, low, is) = (suc k, omega arith, is)

entries-of : (maps : List HeldMap) (asked : Bool) (place : ℕ) (held : HeldMap) (pieces : List Piece) → slice_get maps place ≡ Some held → AreAt place pieces → ((p : Piece) → Contains pieces p → IsPiece maps asked p)
    → (es : List (ℕ × Blob)) × AreOf held pieces es
entries-of maps asked place held [] at places each = ([], tt)
entries-of maps asked place held (piece ∷ pieces) at places each =
    let it = each piece (head-contains piece pieces) in
    let rest = entries-of maps asked place held pieces at places.1 (λ p found. each p (tail-contains piece pieces p found)) in
    let same : it.store ≡ held = same-held maps place it.store held (ap (slice_get maps) (sym places.0) ∙ it.at) at in
    ((piece.extent.off, it.blob) ∷ rest.0, (subst (λ (m : HeldMap). get m piece.extent.off ≡ Some it.blob) same it.found, it.is, rest.1))

module _ (held : HeldMap) (apart : IsApart held) where
  end-low : (from : ℕ) (pieces : List Piece) (es : List (ℕ × Blob)) → AreOf held pieces es → IsRow from pieces → from ≤ end_of from pieces
  end-low from [] [] are row = omega arith
  end-low from [] (e ∷ es) are row = absurd are
  end-low from (piece ∷ pieces) [] are row = absurd are
  end-low from (piece ∷ pieces) (e ∷ es) (found, is, rest) row =
      let filled : e.0 < e.1.fin = apart.filled e.0 e.1 found in
      let off : e.0 ≡ piece.extent.off = ap (λ (x : Extent). x.off) is in
      let fin : e.1.fin ≡ piece.extent.fin = ap (λ (x : Extent). x.fin) is in
      let low : from ≤ piece.extent.off = row.0 in
      let later : piece.extent.fin ≤ end_of piece.extent.fin pieces = end-low piece.extent.fin pieces es rest row.1 in omega arith

  rise-of : (from : ℕ) (pieces : List Piece) (es : List (ℕ × Blob)) → AreOf held pieces es → IsRow from pieces → Rise from es
  rise-of from [] [] are row = tt
  rise-of from [] (e ∷ es) are row = absurd are
  rise-of from (piece ∷ pieces) [] are row = absurd are
  rise-of from (piece ∷ pieces) (e ∷ es) (found, is, rest) row =
      let filled : e.0 < e.1.fin = apart.filled e.0 e.1 found in
      let off : e.0 ≡ piece.extent.off = ap (λ (x : Extent). x.off) is in
      let fin : e.1.fin ≡ piece.extent.fin = ap (λ (x : Extent). x.fin) is in
      let low : from ≤ piece.extent.off = row.0 in
      (omega arith, rise-later (e.0 + 1) piece.extent.fin es (omega arith) (rise-of piece.extent.fin pieces es rest row.1))

  found-of : (from : ℕ) (pieces : List Piece) (es : List (ℕ × Blob)) → AreOf held pieces es → IsRow from pieces → (off : ℕ) (blob : Blob) → find nat_cmp off es ≡ Some blob
      → (get held off ≡ Some blob) × (from ≤ off) × (blob.fin ≤ end_of from pieces)
  found-of from [] [] are row off blob found = absurd (cc)
  found-of from [] (e ∷ es) are row off blob found = absurd are
  found-of from (piece ∷ pieces) [] are row off blob found = absurd are
  found-of from (piece ∷ pieces) (e ∷ es) (there, is, rest) row off blob found =
      let filled : e.0 < e.1.fin = apart.filled e.0 e.1 there in
      let offs : e.0 ≡ piece.extent.off = ap (λ (x : Extent). x.off) is in
      let fins : e.1.fin ≡ piece.extent.fin = ap (λ (x : Extent). x.fin) is in
      let low : from ≤ piece.extent.off = row.0 in
      let later : piece.extent.fin ≤ end_of piece.extent.fin pieces = end-low piece.extent.fin pieces es rest row.1 in
      elim (eqb_tells off e.0) [
        | inl (test, same) ↦ (
            let here : Some e.1 ≡ Some blob = sym (find-cons off e es ∙ ap (λ b. cond b (Some e.1) (find nat_cmp off es)) test) ∙ found in
            let blobs : e.1 ≡ blob = cc in
            let fin : e.1.fin ≡ blob.fin = ap (λ (b : Blob). b.fin) blobs in
            (ap (get held) same ∙ there ∙ here, omega arith, omega arith)
            )
        | inr (test, _) ↦ (
            let it = found-of piece.extent.fin pieces es rest row.1 off blob (sym (find-cons off e es ∙ ap (λ b. cond b (Some e.1) (find nat_cmp off es)) test) ∙ found) in
            let h : piece.extent.fin ≤ off = it.1 in
            (it.0, omega arith, it.2)
            )
      ]

extents-are : (held : HeldMap) (pieces : List Piece) (es : List (ℕ × Blob)) → AreOf held pieces es → map extent_of es ≡ map (λ (p : Piece). p.extent) pieces
extents-are held [] [] are = refl
extents-are held [] (e ∷ es) are = absurd are
extents-are held (piece ∷ pieces) [] are = absurd are
extents-are held (piece ∷ pieces) (e ∷ es) (found, is, rest) =
    ap (λ (x : Extent). x ∷ map extent_of es) is ∙ ap (λ (xs : List Extent). piece.extent ∷ xs) (extents-are held pieces es rest)

made-map : List (ℕ × Blob) → HeldMap
made-map es = from_entries es

get-made : (es : List (ℕ × Blob)) (off : ℕ) → get (made-map es) off ≡ find nat_cmp off es
unfolding made-map
get-made es off = get-from_entries nat_cmp_total es off

entries-made : (from : ℕ) (es : List (ℕ × Blob)) → Rise from es → entries (made-map es) ≡ es
entries-made from es rise =
    same_entries nat_cmp nat_cmp_total nat_cmp-IsAntisymmetric (entries (made-map es)) es (entries_sorted (made-map es)) (rise-sorted from es rise)
    (λ off. sym (get-entries (made-map es) off) ∙ get-made es off)

-- ---- one run

record RunFrom (maps : List HeldMap) (asked : Bool) (part : Part) (from to : ℕ) (pieces : List Piece) : Type 0 where
  pub run : HeldMap
  pub is : IsPart maps asked part run
  pub low : from ≤ to
  pub lies : LiesIn from to run
  pub members : (p : Piece) → Contains pieces p → (blob : Blob) × (get run p.extent.off ≡ Some blob) × (extent_of (p.extent.off, blob) ≡ p.extent)

run-from : (maps : List HeldMap) (asked : Bool) (part : Part) (head : Piece) (behind : List Piece) (from : ℕ) → IsRunOf part head behind → IsRow from (head ∷ behind) → ((p : Piece) → Contains (head ∷ behind) p → IsPiece maps asked p)
    → RunFrom maps asked part from (end_of from (head ∷ behind)) (head ∷ behind)
run-from maps asked part head behind from cut row each =
    let first = each head (head-contains head behind) in
    let held = first.store in
    let at : slice_get maps part.place ≡ Some held = ap (slice_get maps) (sym cut.place) ∙ first.at in
    let made = entries-of maps asked part.place held (head ∷ behind) at (cut.place, cut.places) each in
    let es = made.0 in
    let rise = rise-of held first.apart from (head ∷ behind) es made.1 row in
    let run = made-map es in
    let listed : entries run ≡ es = entries-made from es rise in
    let known : (off : ℕ) (blob : Blob) → get run off ≡ Some blob → (get held off ≡ Some blob) × (from ≤ off) × (blob.fin ≤ end_of from (head ∷ behind))
    = λ off blob found. found-of held first.apart from (head ∷ behind) es made.1 row off blob (sym (get-made es off) ∙ found) in
    let members : (p : Piece) → Contains (head ∷ behind) p → (blob : Blob) × (get run p.extent.off ≡ Some blob) × (extent_of (p.extent.off, blob) ≡ p.extent)
    = λ p found. (
    let extent : Contains (map extent_of es) p.extent = subst (λ (xs : List Extent). Contains xs p.extent) (sym (extents-are held (head ∷ behind) es made.1)) (map-contains (λ (q : Piece). q.extent) (head ∷ behind) p found) in
    let it = each-extent es (true-of _ (rise-sorted from es rise)) p.extent extent in
    (it.0, get-made es p.extent.off ∙ it.1, it.2)
    ) in
    let one = members head (head-contains head behind) in
    record {
      run = run;
      is = record {
        store = held;
        at = at;
        within = λ off blob found. (known off blob found).0;
        extents = cut.extents ∙ sym (extents-are held (head ∷ behind) es made.1) ∙ ap (map extent_of) (sym listed);
        history = cut.history ∙ first.history;
        filled = (head.extent.off, one.0, one.1);
        apart = record {
          filled = λ off blob found. first.apart.filled off blob (known off blob found).0;
          limit = λ off blob found. first.apart.limit off blob (known off blob found).0;
          apart = λ off next blob other found also low. first.apart.apart off next blob other (known off blob found).0 (known next other also).0 low;
        };
      };
      low = end-low held first.apart from (head ∷ behind) es made.1 row;
      lies = λ off blob found. (let it = known off blob found in (it.1, first.apart.filled off blob it.0, it.2));
      members = members;
    }

-- ---- all runs

record RunsFrom (maps : List HeldMap) (asked : Bool) (parts : List Part) (from : ℕ) (pieces : List Piece) : Type 0 where
  pub ordered : List HeldMap
  pub each : AreEach maps asked parts ordered
  pub follow : FollowFrom from ordered
  pub members : (p : Piece) → Contains pieces p → (blob : Blob) × IsInPart ordered p.extent.off blob × (extent_of (p.extent.off, blob) ≡ p.extent)

runs-from : (maps : List HeldMap) (asked : Bool) (parts : List Part) (pieces : List Piece) (from : ℕ) → AreCut parts pieces → IsRow from pieces → ((p : Piece) → Contains pieces p → IsPiece maps asked p) → RunsFrom maps asked parts from pieces
runs-from maps asked [] pieces from none row each = subst (λ (l : List Piece). RunsFrom maps asked [] from l) (sym none) (record { ordered = []; each = tt; follow = tt; members = nothing })
  where
    nothing : (p : Piece) → Contains [] p → (blob : Blob) × IsInPart [] p.extent.off blob × (extent_of (p.extent.off, blob) ≡ p.extent)
    nothing p (k, low, is) = absurd (omega arith)
runs-from maps asked (part ∷ parts) pieces from (head, behind, rest, cut, later, is) row each =
    let known : (p : Piece) → Contains (head ∷ (behind ++ rest)) p → IsPiece maps asked p = λ p found. each p (subst (λ (l : List Piece). Contains l p) (sym is) found) in
    let rows = row-split from (head ∷ behind) rest (subst (λ (l : List Piece). IsRow from l) is row) in
    let one = run-from maps asked part head behind from cut rows.0 (λ p found. known p (Contains-append_left (head ∷ behind) rest p found)) in
    let others = runs-from maps asked parts rest (end_of from (head ∷ behind)) later rows.1 (λ p found. known p (Contains-append_right (head ∷ behind) rest p found)) in
    subst (λ (l : List Piece). RunsFrom maps asked (part ∷ parts) from l) (sym is) (record {
      ordered = one.run ∷ others.ordered;
      each = (one.is, others.each);
      follow = (end_of from (head ∷ behind), one.low, one.lies, others.follow);
      members = λ p found. elim (Contains-append_cases (head ∷ behind) rest p found) [
        | inl here ↦ (let it = one.members p here in (it.0, inl it.1, it.2))
        | inr there ↦ (let it = others.members p there in (it.0, inr it.1, it.2))
      ];
    })

pub runs-read : (maps : List HeldMap) (asked : Bool) (count : ℕ) (pieces kept : List Piece) (parts : List Part) → AreGathered maps asked count pieces → length maps ≡ count → AreOnce pieces kept → AreCut parts kept → AreRead maps asked parts
runs-read maps asked count pieces kept parts gathered counted once cut =
    let made = runs-from maps asked parts kept 0 cut once.row (λ p found. gathered.each p (once.each p found)) in
    record {
      ordered = made.ordered;
      each = made.each;
      follow = made.follow;
      all = λ off blob found.
          let there = gathered.all off blob (subst (λ (l : List HeldMap). IsInPart l off blob) (sym (take_all count maps (omega (arith, counted)))) found) in
          let kept_one = once.all there.0 there.1 in
          let it = made.members kept_one.0 kept_one.1 in
          let extent : kept_one.0.extent ≡ extent_of (off, blob) = kept_one.2 ∙ there.2 in
          let offs : kept_one.0.extent.off ≡ off = ap (λ (e : Extent). e.off) extent in
          (it.0, subst (λ n. IsInPart made.ordered n it.0) offs it.1, ap (λ (n : ℕ). extent_of (n, it.0)) (sym offs) ∙ it.2 ∙ extent);
    }

-- ---- runs between runs

each-at : (maps : List HeldMap) (asked : Bool) (parts : List Part) (ordered : List HeldMap) (i : ℕ) (part : Part) → AreEach maps asked parts ordered → slice_get parts i ≡ Some part
    → (run : HeldMap) × (slice_get ordered i ≡ Some run) × IsPart maps asked part run
each-at maps asked [] ordered i part each at = absurd (cc)
each-at maps asked (first ∷ parts) [] i part each at = absurd each
each-at maps asked (first ∷ parts) (run ∷ ordered) zero part each at = (run, refl, let same : first ≡ part = cc in subst (λ (p : Part). IsPart maps asked p run) same each.0)
each-at maps asked (first ∷ parts) (run ∷ ordered) (suc i) part each at = each-at maps asked parts ordered i part each.1 at

first-held : (es : List (ℕ × Blob)) (off : ℕ) (blob : Blob) → find nat_cmp off es ≡ Some blob → (first : Blob) × (find nat_cmp (first_offset (map extent_of es)) es ≡ Some first)
first-held [] off blob found = absurd (cc)
first-held (e ∷ es) off blob found = (e.1, find-head e es)

pub between-runs : (maps : List HeldMap) (asked : Bool) (parts : List Part) (off : ℕ) → AreRead maps asked parts → IsBetween parts off → AreInterleaved maps off
between-runs maps asked parts off read (index, r, begins) =
    let ordered = read.ordered in
    let first = each-at maps asked parts ordered r.early r.first read.each r.first_at in
    let middle = each-at maps asked parts ordered index r.between read.each r.between_at in
    let last = each-at maps asked parts ordered (index + 1) r.last read.each r.last_at in
    let some = middle.2.filled in
    let head = first-held (entries middle.0) some.0 some.1 (sym (get-entries middle.0 some.0) ∙ some.2) in
    let here : off ≡ first_offset (extents_of middle.0) = begins ∙ ap first_offset middle.2.extents in
    let begun : get middle.0 off ≡ Some head.0 = ap (get middle.0) here ∙ get-entries middle.0 _ ∙ head.1 in
    let early = first.2.filled in
    let late = last.2.filled in
    let early_lies = in_part-lies 0 ordered early.0 early.1 read.follow (in-at ordered r.early first.0 early.0 early.1 first.1 early.2) in
    let begun_lies = in_part-lies 0 ordered off head.0 read.follow (in-at ordered index middle.0 off head.0 middle.1 begun) in
    let late_lies = in_part-lies 0 ordered late.0 late.1 read.follow (in-at ordered (index + 1) last.0 late.0 late.1 last.1 late.2) in
    let h1 : early.0 < early.1.fin = early_lies.1 in
    let h2 : off < head.0.fin = begun_lies.1 in
    let h3 : late.0 < late.1.fin = late_lies.1 in
    let h4 : early.1.fin ≤ off = follow-apart 0 ordered r.early index first.0 middle.0 early.0 off early.1 head.0 read.follow first.1 middle.1 r.before early.2 begun in
    let h5 : head.0.fin ≤ late.0 = follow-apart 0 ordered index (index + 1) middle.0 last.0 off late.0 head.0 late.1 read.follow middle.1 last.1 (omega arith) begun late.2 in
    let same : first.2.store ≡ last.2.store = same-held maps r.last.place first.2.store last.2.store (ap (slice_get maps) (sym r.same) ∙ first.2.at) last.2.at in
    record {
      one = r.between.place;
      other = r.last.place;
      apart = r.other;
      part = middle.2.store;
      spanning = last.2.store;
      part_at = middle.2.at;
      spanning_at = last.2.at;
      begins = (head.0, middle.2.within off head.0 begun);
      spans = record {
        before = (early.0, early.1, subst (λ (m : HeldMap). get m early.0 ≡ Some early.1) same (first.2.within early.0 early.1 early.2), omega arith);
        behind = (late.0, late.1, last.2.within late.0 late.1 late.2, omega arith);
      };
    }
