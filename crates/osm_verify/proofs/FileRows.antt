-- From maps of which each blob stands at a frame of a file, and that leave no byte of it uncovered, to the frames of the file.
use Rattle.std.proofs.Common.{◌≡◌, ℕ, zero, suc, ◌+◌, ◌<◌, ◌≤◌, ◌&&◌, nat_lt, true, false, cond, List, [], ◌∷◌, ◌++◌, map, filter, length, drop, Some, refl, sym, ◌∙◌, ap, subst, inl, inr, arith, length-append}
use Rattle.std.specs.Prelude.{nat_le}
use Rattle.std.specs.Ordering.{nat_cmp}
use Rattle.std.specs.FinMap.{get, entries, find, is_sorted, get-entries, entries_sorted}
use Rattle.std.proofs.lemmas.Bool.Decides.{eqb_tells, leb_tells, nat_tests}
use Rattle.std.proofs.lemmas.List.{length-drop, drop_at, drop-drop, drop_all}
use Rattle.pbf_frame.specs.declared.part.TheConstants.{MAX_OFFSET}
use Rattle.osm_rows.specs.Held.{Blob, HeldMap, IsApart}
use Rattle.osm_rows.specs.Keeping.{extent_of, extents_of}
use Rattle.osm_rows.specs.declared.keeper.Extent.{Extent}
use Rattle.osm_import.specs.Files.{AreFrames, IsFile, StandsAt, joined}
use Rattle.osm_import.specs.Gaps.{AreGaps, IsCovered}
use Rattle.osm_reading.specs.Good.{IsFrame}
use Rattle.osm_import.proofs.Touching.{find-tail, find-head, sorted-tail}
use Rattle.osm_import.proofs.Delivering.{true-of}
use Rattle.osm_verify.specs.Agreements.{begins}
use Rattle.osm_verify.specs.Laws.{AreAlone}
use Rattle.osm_verify.specs.InFile.{StandsIn}

-- ---- bytes

pub stands-within : (file : List ℕ) (off : ℕ) (bytes : List ℕ) → StandsIn file off bytes → 0 < length bytes → off + length bytes ≤ length file
stands-within file off bytes stands some = omega (arith, ap length stands.1, length-drop off file, length-append bytes stands.0)

stands-behind : (file : List ℕ) (off : ℕ) (bytes : List ℕ) (stands : StandsIn file off bytes) → drop (off + length bytes) file ≡ stands.0
stands-behind file off bytes stands = sym (drop-drop (length bytes) off file) ∙ ap (drop (length bytes)) stands.1 ∙ drop_at bytes stands.0 (length bytes) refl

-- ---- what is held

pub one-blob : (held : HeldMap) (off : ℕ) (a b : Blob) → get held off ≡ Some a → get held off ≡ Some b → a ≡ b
one-blob held off a b x y = let e : Some a ≡ Some b = sym x ∙ y in cc

-- ---- no extent begins there

begins-below : (from to at : ℕ) → at < from → (nat_le from at && nat_lt at to) ≡ false
begins-below from to at low = grind (arith, nat_tests)

begins-above : (from to at : ℕ) → to ≤ at → (nat_le from at && nat_lt at to) ≡ false
begins-above from to at high = grind (arith, nat_tests)

begins-no : (from to at : ℕ) → (from ≤ at → at < to → ⊥) → (nat_le from at && nat_lt at to) ≡ false
begins-no from to at nay = elim (leb_tells from at) [
  | inl (_, low) ↦ elim (leb_tells to at) [ inl (_, high) ↦ begins-above from to at high | inr (_, high) ↦ absurd (nay low (omega arith)) ]
  | inr (_, below) ↦ begins-below from to at (omega arith)
]

none-of : (from to : ℕ) (es : List (ℕ × Blob)) → is_sorted nat_cmp es ≡ true → ((at : ℕ) (blob : Blob) → find nat_cmp at es ≡ Some blob → from ≤ at → at < to → ⊥) → filter (begins from to) (map extent_of es) ≡ []
none-of from to [] sorted nay = refl
none-of from to (e ∷ es) sorted nay =
    let rest : List Extent = filter (begins from to) (map extent_of es) in
    ap (λ b. cond b (extent_of e ∷ rest) rest) (begins-no from to e.0 (nay e.0 e.1 (find-head e es)))
    ∙ none-of from to es (sorted-tail e es sorted) (λ at blob is. nay at blob (find-tail e es sorted at blob is).1)

none-begin : (held : HeldMap) (from to : ℕ) → ((at : ℕ) (blob : Blob) → get held at ≡ Some blob → from ≤ at → at < to → ⊥) → filter (begins from to) (extents_of held) ≡ []
none-begin held from to nay = none-of from to (entries held) (true-of _ (entries_sorted held)) (λ at blob is. nay at blob (get-entries held at ∙ is))

-- ---- the frames from a place on

-- of frames one behind the other from this offset on, this is so of each
abbrev pub AreEach : (ℕ → List ℕ → Type 0) → ℕ → List (List ℕ) → Type 0
AreEach Is place [] = Unit {0}
AreEach Is place (frame ∷ frames) = Is place frame × AreEach Is (place + length frame) frames

-- a frame of the file stands there that ends at this offset, of which this is so
pub record Stands (file : List ℕ) (Is : ℕ → List ℕ → Type 0) (off fin : ℕ) : Type 0 where
  pub frame : List ℕ
  pub stands : StandsIn file off frame
  pub good : IsFrame frame
  pub ends : fin ≡ off + length frame
  pub long : 4 ≤ length frame
  pub is : Is off frame

-- no held blob reaches over this place
abbrev IsEdge : HeldMap → ℕ → Type 0
IsEdge whole place = (off : ℕ) (blob : Blob) → get whole off ≡ Some blob → off < place → blob.fin ≤ place

pub record Rows (file : List ℕ) (whole : HeldMap) (Is : ℕ → List ℕ → Type 0) (place : ℕ) : Type 0 where
  pub frames : List (List ℕ)
  pub good : AreFrames frames
  pub is_joined : drop place file ≡ joined frames
  pub is : AreEach Is place frames
  pub alone : AreAlone whole place frames
  pub each : (off : ℕ) (blob : Blob) → get whole off ≡ Some blob → place ≤ off → (frame : List ℕ) × StandsAt place frames off frame × StandsIn file off frame × IsFrame frame × (blob.fin ≡ off + length frame)
  pub held : (off : ℕ) (frame : List ℕ) → StandsAt place frames off frame → (blob : Blob) × (get whole off ≡ Some blob)

module _ (file : List ℕ) (whole : HeldMap) (Is : ℕ → List ℕ → Type 0) (part : (off : ℕ) (blob : Blob) → get whole off ≡ Some blob → Stands file Is off blob.fin) (apart : IsApart whole)
    (covered : (byte : ℕ) → byte < length file → IsCovered whole byte) where
  inside : (off : ℕ) (blob : Blob) → get whole off ≡ Some blob → blob.fin ≤ length file
  inside off blob found =
      let it = part off blob found in
      let fits : off + length it.frame ≤ length file = stands-within file off it.frame it.stands (omega (arith, it.long)) in
      omega (arith, it.ends, fits)

  at-end : (place : ℕ) → length file ≤ place → Rows file whole Is place
  at-end place end = record {
    frames = [];
    good = tt;
    is_joined = drop_all place file end;
    is = tt;
    alone = none-begin whole place MAX_OFFSET (λ at blob is low high. (let h1 = inside at blob is in let h2 = apart.filled at blob is in omega (arith, h1, h2, low, end)));
    each = λ off blob found low. (let h1 = inside off blob found in let h2 = apart.filled off blob found in absurd (omega (arith, h1, h2, low, end)));
    held = λ off frame stands. absurd stands;
  }

  module _ (place : ℕ) (edge : IsEdge whole place) (blob : Blob) (found : get whole place ≡ Some blob) where
    frame : List ℕ
    frame = (part place blob found).frame

    edge-next : IsEdge whole (place + length frame)
    unfolding frame
    edge-next off other is low = elim (leb_tells (place + 1) off) [
      | inl (_, behind) ↦ (let h1 = apart.apart place off blob other found is (omega arith) in let h2 = (part place blob found).ends in absurd (omega (arith, h1, h2, low)))
      | inr (_, before) ↦ elim (eqb_tells off place) [
        | inl (_, here) ↦ (
            let blobs : blob ≡ other = one-blob whole place blob other found (subst (λ n. get whole n ≡ Some other) here is) in
            let h = (part place blob found).ends in
            omega (arith, h, ap (λ (b : Blob). b.fin) blobs))
        | inr (_, other_place) ↦ (let h = edge off other is (omega (arith, before, other_place)) in omega (arith, h))
      ]
    ]

    add : Rows file whole Is (place + length frame) → Rows file whole Is place
    unfolding frame
    add rest =
        let it = part place blob found in
        let ends = it.ends in
        record {
          frames = it.frame ∷ rest.frames;
          good = (it.good, rest.good);
          is_joined = it.stands.1 ∙ ap (λ (l : List ℕ). it.frame ++ l) (sym (stands-behind file place it.frame it.stands) ∙ rest.is_joined);
          is = (it.is, rest.is);
          alone = (none-begin whole (place + 1) (place + length it.frame) (λ at other is low high. (let h = apart.apart place at blob other found is (omega arith) in omega (arith, h, ends, high))), rest.alone);
          each = λ off other is low. elim (eqb_tells off place) [
            | inl (_, here) ↦ (
                let blobs : blob ≡ other = one-blob whole place blob other found (subst (λ n. get whole n ≡ Some other) here is) in
                let fin : other.fin ≡ off + length it.frame = (let h = ap (λ (b : Blob). b.fin) blobs in omega (arith, h, ends, here)) in
                (it.frame, inl (here, refl), subst (λ n. StandsIn file n it.frame) (sym here) it.stands, it.good, fin))
            | inr (_, there) ↦ (
                let h = apart.apart place off blob other found is (omega (arith, low, there)) in
                let later = rest.each off other is (omega (arith, h, ends)) in
                (later.0, inr later.1, later.2, later.3, later.4))
          ];
          held = λ off other stands. elim stands [ inl here ↦ (blob, subst (λ n. get whole n ≡ Some blob) (sym here.0) found) | inr later ↦ rest.held off other later ];
        }

  at-place : (place : ℕ) → IsEdge whole place → IsCovered whole place → (blob : Blob) × (get whole place ≡ Some blob)
  at-place place edge c = elim (leb_tells place c.at) [
    | inl (_, low) ↦ (let here : c.at ≡ place = (let h = c.starts in omega arith) in (c.blob, subst (λ n. get whole n ≡ Some c.blob) here c.found))
    | inr (_, before) ↦ (let h1 = edge c.at c.blob c.found (omega arith) in let h2 = c.ends in absurd (omega (arith, h1, h2)))
  ]

  step : (fuel place : ℕ) (edge : IsEdge whole place) (blob : Blob) (found : get whole place ≡ Some blob) → length file ≤ place + suc fuel → length file ≤ place + length (frame place edge blob found) + fuel
  unfolding frame
  step fuel place edge blob found enough = omega (arith, enough, (part place blob found).long)

  row : (fuel place : ℕ) → length file ≤ place + fuel → IsEdge whole place → Rows file whole Is place
  row zero place enough edge = at-end place (omega arith)
  row (suc fuel) place enough edge = elim (leb_tells (length file) place) [
    | inl (_, end) ↦ at-end place end
    | inr (_, more) ↦ (
        let it = at-place place edge (covered place (omega arith)) in
        add place edge it.0 it.1 (row fuel (place + length (frame place edge it.0 it.1)) (step fuel place edge it.0 it.1 enough) (edge-next place edge it.0 it.1)))
  ]

none-covered : (whole : HeldMap) (size byte : ℕ) → AreGaps whole size [] → byte < size → IsCovered whole byte
none-covered whole size byte gaps low = elim (gaps.all byte low) [ inl covered ↦ covered | inr bad ↦ absurd bad ]

pub rows-of-file : (file : List ℕ) (whole : HeldMap) (Is : ℕ → List ℕ → Type 0) → ((off : ℕ) (blob : Blob) → get whole off ≡ Some blob → Stands file Is off blob.fin) → IsApart whole → AreGaps whole (length file) []
    → Rows file whole Is 0
rows-of-file file whole Is part apart gaps = row file whole Is part apart (λ byte low. none-covered whole (length file) byte gaps low) (length file) 0 (omega arith) (λ off blob found low. absurd (omega arith))

pub rows-are-file : (file : List ℕ) (whole : HeldMap) (Is : ℕ → List ℕ → Type 0) (rows : Rows file whole Is 0) → 0 < length file → IsFile file rows.frames
rows-are-file file whole Is rows some = record {
  some = λ none. (let bad : length file ≡ 0 = ap length rows.is_joined ∙ ap (λ (fs : List (List ℕ)). length (joined fs)) none in omega (arith, some, bad));
  whole = rows.good;
  is_joined = rows.is_joined;
}
