-- A map whose extents are those that were read of tables, whatever rows these have: what is said of maps of such extents is said
-- of the extents.
use Rattle.std.proofs.Common.{◌≡◌, ℕ, suc, pos, ◌+◌, ◌<◌, ◌≤◌, cond, List, [], ◌∷◌, map, length, All, Some, None, refl, sym, ◌∙◌, ap, subst, inl, inr, arith}
use Rattle.std.specs.Prelude.{replicate}
use Rattle.std.specs.Ordering.{nat_cmp}
use Rattle.std.specs.Cmp.{nat_cmp_total}
use Rattle.std.specs.List.{slice_index_or}
use Rattle.std.specs.FinMap.{get, entries, find, get-entries, entries_sorted, nat_cmp-IsAntisymmetric, from_entries, get-from_entries}
use Rattle.std.specs.FinMap.Entries.{same_entries}
use Rattle.std.proofs.lemmas.Bool.Decides.{eqb_tells}
use lib.ListN.{length-replicate}
use Rattle.pbf_frame.specs.declared.part.TheConstants.{MAX_OFFSET}
use Rattle.osm_value.specs.declared.element.Element.{Element}
use Rattle.osm_value.specs.declared.element.Element.TheVariants.{Node}
use Rattle.osm_rows.specs.Held.{Blob, HeldMap, IsApart}
use Rattle.osm_rows.specs.Keeping.{AscendApart, IsRange, extent_of, extents_of}
use Rattle.osm_rows.specs.declared.keeper.Extent.{Extent}
use Rattle.osm_import.proofs.Touching.{find-cons, find-head}
use Rattle.osm_parts.proofs.PartsLemmas.{Rise, rise-later, rise-sorted}
use Rattle.osm_verify.specs.Showing.{IsAmong}

-- ---- extents in a row

abbrev pub Row : ℕ → List Extent → Type 0
Row from [] = Unit {0}
Row from (e ∷ es) = (from ≤ e.off) × (e.off < e.fin) × (e.fin ≤ MAX_OFFSET) × Row e.fin es

row-from : (from : ℕ) (es : List Extent) → AscendApart es → All IsRange es → ((d : Extent) → 0 < length es → from ≤ (slice_index_or es 0 d).off) → Row from es
row-from from [] up ranges low = tt
row-from from (e ∷ es) up ranges low =
    let range : IsRange e = ranges 0 e (omega arith) in (
      low e (omega arith),
      range.0,
      range.1,
      row-from e.fin es (λ i j d less long. up (suc i) (suc j) d (omega arith) (omega (arith, long))) (λ k d long. ranges (suc k) d (omega (arith, long)))
          (λ d some. up 0 1 d (omega arith) (omega (arith, some))),
    )

pub row-of : (es : List Extent) → AscendApart es → All IsRange es → Row 0 es
row-of es up ranges = row-from 0 es up ranges (λ d some. omega arith)

among-row : (from : ℕ) (es : List Extent) → Row from es → (e : Extent) → IsAmong e es → (from ≤ e.off) × (e.off < e.fin) × (e.fin ≤ MAX_OFFSET)
among-row from [] row e among = absurd among
among-row from (first ∷ es) row e among = elim among [
  | inl same ↦ subst (λ (x : Extent). (from ≤ x.off) × (x.off < x.fin) × (x.fin ≤ MAX_OFFSET)) same (row.0, row.1, row.2)
  | inr later ↦ (let it = among-row first.fin es row.3 e later in let h1 = it.0 in let h2 = row.0 in let h3 = row.1 in (omega (arith, h1, h2, h3), it.1, it.2))
]

among-apart : (from : ℕ) (es : List Extent) → Row from es → (e f : Extent) → IsAmong e es → IsAmong f es → e.off < f.off → e.fin ≤ f.off
among-apart from [] row e f one other low = absurd one
among-apart from (first ∷ es) row e f one other low = elim one [
  | inl here ↦ elim other [
    | inl there ↦ (let h : e.off ≡ f.off = ap (λ (x : Extent). x.off) (sym here ∙ there) in absurd (omega (arith, h, low)))
    | inr there ↦ (let h = (among-row first.fin es row.3 f there).0 in let same : first.fin ≡ e.fin = ap (λ (x : Extent). x.fin) here in omega (arith, h, same))
  ]
  | inr here ↦ elim other [
    | inl there ↦ (
        let h = (among-row first.fin es row.3 e here).0 in
        let filled = row.1 in
        let same : first.off ≡ f.off = ap (λ (x : Extent). x.off) there in
        absurd (omega (arith, h, filled, same, low)))
    | inr there ↦ among-apart first.fin es row.3 e f here there low
  ]
]

-- ---- the map

-- any element
pub filler : Element
filler = Node (record { id = pos 0; lat = pos 0; lon = pos 0; tags = []; info = record { version = None; time = None; changeset = None; uid = None; user = None; visible = None } })

abbrev pub blob-of : Extent → Blob
blob-of e = record { fin = e.fin; digest = e.digest; kind = e.kind; elements = replicate e.n filler }

abbrev entry-of : Extent → ℕ × Blob
entry-of e = (e.off, blob-of e)

pub made : List Extent → HeldMap
made es = from_entries (map entry-of es)

extent-made : (e : Extent) → extent_of (e.off, blob-of e) ≡ e
extent-made e = let long : length (replicate e.n filler) ≡ e.n = length-replicate e.n filler in ap (λ n. record e { n = n }) long

extents-made : (es : List Extent) → map extent_of (map entry-of es) ≡ es
extents-made [] = refl
extents-made (e ∷ es) = ap (λ (x : Extent). x ∷ map extent_of (map entry-of es)) (extent-made e) ∙ ap (λ (xs : List Extent). e ∷ xs) (extents-made es)

rise-made : (from : ℕ) (es : List Extent) → Row from es → Rise from (map entry-of es)
rise-made from [] row = tt
rise-made from (e ∷ es) row = (row.0, rise-later (e.off + 1) e.fin (map entry-of es) (let h = row.1 in omega (arith, h)) (rise-made e.fin es row.3))

get-made : (es : List Extent) (off : ℕ) → get (made es) off ≡ find nat_cmp off (map entry-of es)
unfolding made
get-made es off = get-from_entries nat_cmp_total (map entry-of es) off

pub extents-of-made : (es : List Extent) → Row 0 es → extents_of (made es) ≡ es
unfolding made
extents-of-made es row =
    ap (map extent_of) (same_entries nat_cmp nat_cmp_total nat_cmp-IsAntisymmetric (entries (made es)) (map entry-of es) (entries_sorted (made es)) (rise-sorted 0 (map entry-of es) (rise-made 0 es row))
    (λ off. sym (get-entries (made es) off) ∙ get-made es off))
    ∙ extents-made es

-- ---- what it holds

find-among : (es : List Extent) (off : ℕ) (blob : Blob) → find nat_cmp off (map entry-of es) ≡ Some blob → (e : Extent) × IsAmong e es × (e.off ≡ off) × (blob-of e ≡ blob)
find-among [] off blob found = absurd (cc)
find-among (e ∷ es) off blob found = elim (eqb_tells off e.off) [
  | inl (test, same) ↦ (
      let here : Some (blob-of e) ≡ Some blob = sym (find-cons off (entry-of e) (map entry-of es) ∙ ap (λ b. cond b (Some (blob-of e)) (find nat_cmp off (map entry-of es))) test) ∙ found in
      let blobs : blob-of e ≡ blob = cc in
      (e, inl refl, sym same, blobs))
  | inr (test, _) ↦ (
      let it = find-among es off blob (sym (find-cons off (entry-of e) (map entry-of es) ∙ ap (λ b. cond b (Some (blob-of e)) (find nat_cmp off (map entry-of es))) test) ∙ found) in
      (it.0, inr it.1, it.2, it.3))
]

pub made-among : (es : List Extent) (off : ℕ) (blob : Blob) → get (made es) off ≡ Some blob → (e : Extent) × IsAmong e es × (e.off ≡ off) × (blob-of e ≡ blob)
made-among es off blob found = find-among es off blob (sym (get-made es off) ∙ found)

among-find : (from : ℕ) (es : List Extent) → Row from es → (e : Extent) → IsAmong e es → find nat_cmp e.off (map entry-of es) ≡ Some (blob-of e)
among-find from [] row e among = absurd among
among-find from (first ∷ es) row e among = elim among [
  | inl same ↦ subst (λ (x : Extent). find nat_cmp x.off (map entry-of (first ∷ es)) ≡ Some (blob-of x)) same (find-head (entry-of first) (map entry-of es))
  | inr later ↦ elim (eqb_tells e.off first.off) [
    | inl (_, same) ↦ (let h = (among-row first.fin es row.3 e later).0 in let filled = row.1 in absurd (omega (arith, h, filled, same)))
    | inr (test, _) ↦ find-cons e.off (entry-of first) (map entry-of es) ∙ ap (λ b. cond b (Some (blob-of first)) (find nat_cmp e.off (map entry-of es))) test ∙ among-find first.fin es row.3 e later
  ]
]

pub among-made : (es : List Extent) → Row 0 es → (e : Extent) → IsAmong e es → get (made es) e.off ≡ Some (blob-of e)
among-made es row e among = get-made es e.off ∙ among-find 0 es row e among

pub made-apart : (es : List Extent) → Row 0 es → IsApart (made es)
made-apart es row = record {
  filled = λ at blob found.
      let it = made-among es at blob found in
      let h = (among-row 0 es row it.0 it.1).1 in
      let fin : it.0.fin ≡ blob.fin = ap (λ (b : Blob). b.fin) it.3 in omega (arith, h, fin, it.2);
  limit = λ at blob found.
      let it = made-among es at blob found in
      let h = (among-row 0 es row it.0 it.1).2 in
      let fin : it.0.fin ≡ blob.fin = ap (λ (b : Blob). b.fin) it.3 in subst (λ n. n ≤ MAX_OFFSET) fin h;
  apart = λ at next blob other found also low.
      let it = made-among es at blob found in
      let that = made-among es next other also in
      let fin : it.0.fin ≡ blob.fin = ap (λ (b : Blob). b.fin) it.3 in
      let h = among-apart 0 es row it.0 that.0 it.1 that.1 (let h1 = it.2 in let h2 = that.2 in omega (arith, h1, h2, low)) in
      let h2 = that.2 in omega (arith, h, fin, h2);
}
