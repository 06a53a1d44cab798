-- From parts that leave no byte of a file uncovered to the frames of the file.
use Rattle.std.proofs.Common.{◌≡◌, ℕ, ◌+◌, ◌<◌, ◌≤◌, cond, List, [], ◌∷◌, ◌++◌, map, length, take, Option, Some, None, Result, Ok, refl, sym, ◌∙◌, ap, subst, inl, inr, arith}
use Rattle.std.specs.List.{cons_option}
use Rattle.std.specs.Ordering.{nat_cmp}
use Rattle.std.specs.FinMap.{get, entries, find, get-entries}
use Rattle.std.proofs.lemmas.Bool.Decides.{eqb_tells}
use Rattle.std.proofs.lemmas.List.{take_at}
use Rattle.pbf_frame.specs.Frame.{Found, frame_at, found_at}
use Rattle.pbf_frame.specs.declared.fault.FrameFault.{FrameFault}
use Rattle.pbf_frame.proofs.FrameLaws.{frame_again}
use Rattle.osm_rows.specs.Held.{Blob, HeldMap}
use Rattle.osm_rows.specs.Keeping.{extent_of}
use Rattle.osm_rows.specs.declared.keeper.Extent.{Extent}
use Rattle.osm_import.specs.Files.{StandsAt}
use Rattle.osm_import.specs.Gaps.{AreGaps}
use Rattle.osm_reading.specs.Good.{IsFrame}
use Rattle.osm_import.proofs.Touching.{find-cons, find-head}
use Rattle.osm_parts.specs.Parts.{IsInPart}
use Rattle.osm_parts.specs.Unions.{IsUnionOf}
use Rattle.osm_verify.specs.Agreements.{AreAlike, IsSame}
use Rattle.osm_verify.specs.Laws.{AreSame}
use Rattle.osm_verify.specs.declared.comparing.Depth.{Depth}
use Rattle.osm_verify.specs.declared.comparing.Depth.TheVariants.{Extents, Elements}
use Rattle.osm_verify.proofs.AuditLemmas.{frame-long}
use Rattle.osm_verify.proofs.LawLemmas.{verified-is-exact}
use Rattle.osm_verify.specs.InFile.{StandsIn}
use Rattle.osm_verify.specs.Judging.{IsJudged, AreJudged}
use Rattle.osm_verify.specs.Together.{AreAllJudged, IsPartOf, ArePartsOf, IsOfFrames, AreOfFrames, PartsHoldFile, AgreedHoldFile}
use Rattle.osm_verify.specs.declared.part_audit.Finding.{Finding}
use Rattle.osm_verify.proofs.FileRows.{AreEach, Stands, one-blob, rows-are-file, rows-of-file, stands-within}

-- ---- bytes

abbrev read_so : Found → Result Found FrameFault
read_so f = Ok f

-- two frames at the front of the same bytes are one
front-one : (a b x y : List ℕ) → IsFrame a → IsFrame b → a ++ x ≡ b ++ y → a ≡ b
front-one a b x y f g same =
    let one : read_so (found_at f.0 f.1 (length a)) ≡ read_so (found_at g.0 g.1 (length b))
    = sym (frame_again f.0 f.1 a x f.2) ∙ ap frame_at same ∙ frame_again g.0 g.1 b y g.2 in
    let is : found_at f.0 f.1 (length a) ≡ found_at g.0 g.1 (length b) = cc in
    let long : length a ≡ length b = ap (λ (f : Found). f.len) is in
    sym (take_at a x (length b) long) ∙ ap (take (length b)) same ∙ take_at b y (length b) refl

-- ---- what is held

ends-alike : (depth : Depth) (off : ℕ) (one other : Blob) → AreAlike depth off one other → one.fin ≡ other.fin
ends-alike Extents off one other alike = ap (λ (e : Extent). e.fin) alike
ends-alike Elements off one other alike = ap (λ (b : Blob). b.fin) alike

same-of : (depth : Depth) (one other : HeldMap) (off : ℕ) (frame : List ℕ) (blob : Blob) → get one off ≡ Some blob → get other off ≡ Some blob → IsSame depth one off frame → IsSame depth other off frame
same-of depth one other off frame blob is also same = record {
  entry = same.entry;
  is_entry = same.is_entry;
  blob = blob;
  found = also;
  alike = subst (λ (b : Blob). AreAlike depth off b same.entry) (one-blob one off same.blob blob same.found is) same.alike;
}

in-part : (depth : Depth) (file : List ℕ) (maps : List HeldMap) (off : ℕ) (blob : Blob) → ArePartsOf depth file maps → IsInPart maps off blob → (held : HeldMap) × (get held off ≡ Some blob) × IsPartOf depth file held
in-part depth file [] off blob parts found = absurd found
in-part depth file (held ∷ maps) off blob parts found = elim found [ inl here ↦ (held, here, parts.0) | inr later ↦ in-part depth file maps off blob parts.1 later ]

union-part : (depth : Depth) (file : List ℕ) (maps : List HeldMap) (whole : HeldMap) → ArePartsOf depth file maps → IsUnionOf maps whole → IsPartOf depth file whole
union-part depth file maps whole parts union off blob found =
    let there = in-part depth file maps off blob parts (union.only off blob found) in
    let it = there.2 off blob there.1 in
    (it.0, it.1, same-of depth there.0 whole off it.0 blob there.1 found it.2)

-- ---- the frames of the file

frame-at : (depth : Depth) (file : List ℕ) (whole : HeldMap) → IsPartOf depth file whole → (off : ℕ) (blob : Blob) → get whole off ≡ Some blob → Stands file (λ at frame. IsSame depth whole at frame) off blob.fin
frame-at depth file whole part off blob found =
    let it = part off blob found in
    let same = it.2 in
    let blobs : same.blob ≡ blob = one-blob whole off same.blob blob same.found found in
    let ends : same.blob.fin ≡ same.entry.fin = ends-alike depth off same.blob same.entry same.alike in
    let good = same.is_entry.good in
    record {
      frame = it.0;
      stands = it.1;
      good = (good.type_name, good.blob, good.placed.frame);
      ends = ap (λ (b : Blob). b.fin) (sym blobs) ∙ ends ∙ same.is_entry.ends;
      long = frame-long off it.0 same.entry same.is_entry;
      is = same;
    }

each-same : (depth : Depth) (whole : HeldMap) (place : ℕ) (frames : List (List ℕ)) → AreEach (λ at frame. IsSame depth whole at frame) place frames → AreSame depth whole place frames
each-same depth whole place [] are = tt
each-same depth whole place (frame ∷ frames) are = (are.0, each-same depth whole (place + length frame) frames are.1)

-- ---- the law

module _ (depth : Depth) (file : List ℕ) (frames : List (List ℕ)) (whole : HeldMap)
    (each : (off : ℕ) (blob : Blob) → get whole off ≡ Some blob → 0 ≤ off → (frame : List ℕ) × StandsAt 0 frames off frame × StandsIn file off frame × IsFrame frame × (blob.fin ≡ off + length frame)) where
  of-one : (held : HeldMap) → ((off : ℕ) (blob : Blob) → get held off ≡ Some blob → (other : Blob) × (get whole off ≡ Some other)) → IsPartOf depth file held → IsOfFrames depth frames held
  of-one held there part off blob found =
      let it = part off blob found in
      let other = there off blob found in
      let stands = each off other.0 other.1 (omega arith) in
      let good = it.2.is_entry.good in
      let same : stands.0 ≡ it.0 = front-one stands.0 it.0 stands.2.0 it.1.0 stands.3 (good.type_name, good.blob, good.placed.frame) (sym stands.2.1 ∙ it.1.1) in
      (it.0, subst (λ (w : List ℕ). StandsAt 0 frames off w) same stands.1, it.2)

  of-each : (maps : List HeldMap) → ((off : ℕ) (blob : Blob) → IsInPart maps off blob → (other : Blob) × (get whole off ≡ Some other)) → ArePartsOf depth file maps → AreOfFrames depth frames maps
  of-each [] there parts = tt
  of-each (held ∷ maps) there parts = (of-one held (λ off blob found. there off blob (inl found)) parts.0, of-each maps (λ off blob found. there off blob (inr found)) parts.1)

pub parts-hold-file : PartsHoldFile
parts-hold-file depth file maps whole some parts union apart gaps =
    let part = union-part depth file maps whole parts union in
    let Is : ℕ → List ℕ → Type 0 = λ at frame. IsSame depth whole at frame in
    let made = rows-of-file file whole Is (frame-at depth file whole part) apart gaps in
    record {
      frames = made.frames;
      is_file = rows-are-file file whole Is made some;
      each = of-each depth file made.frames whole made.each maps (λ off blob found. (let it = union.kept off blob found in (it.0, it.1))) parts;
      whole = whole;
      union = union;
      exact = verified-is-exact depth whole made.frames apart (record { same = each-same depth whole 0 made.frames made.is; alone = made.alone });
    }

-- ---- a verdict

none-nil : (found : Option Finding) (rest : List Finding) → cons_option found rest ≡ [] → (found ≡ None) × (rest ≡ [])
none-nil None rest is = (refl, is)
none-nil (Some finding) rest is = absurd (cc)

pub both-none : (own rest : List Finding) → own ++ rest ≡ [] → (own ≡ []) × (rest ≡ [])
both-none [] rest is = (refl, is)
both-none (finding ∷ own) rest is = absurd (cc)

judged-found : (depth : Depth) (file : List ℕ) (held : HeldMap) (es : List (ℕ × Blob)) (fs : List Finding) → fs ≡ [] → AreJudged depth held (Some file) (map extent_of es) fs
    → (off : ℕ) (blob : Blob) → find nat_cmp off es ≡ Some blob → (frame : List ℕ) × StandsIn file off frame × IsSame depth held off frame
judged-found depth file held [] fs none judged off blob found = absurd (cc)
judged-found depth file held (e ∷ es) fs none judged off blob found =
    let nil = none-nil judged.0 judged.1 (sym judged.4 ∙ none) in
    elim (eqb_tells off e.0) [
      | inl (_, here) ↦ (
          let it : (frame : List ℕ) × StandsIn file e.0 frame × IsSame depth held e.0 frame = subst (λ (o : Option Finding). IsJudged depth held (Some file) (extent_of e) o) nil.0 judged.2 in
          (it.0, subst (λ n. StandsIn file n it.0) (sym here) it.1, subst (λ n. IsSame depth held n it.0) (sym here) it.2))
      | inr (test, _) ↦ judged-found depth file held es judged.1 nil.1 judged.3 off blob (sym (find-cons off e es ∙ ap (λ b. cond b (Some e.1) (find nat_cmp off es)) test) ∙ found)
    ]

all-parts : (depth : Depth) (file : List ℕ) (maps : List HeldMap) (fs : List Finding) → fs ≡ [] → AreAllJudged depth (Some file) maps fs → ArePartsOf depth file maps
all-parts depth file [] fs none judged = tt
all-parts depth file (held ∷ maps) fs none judged =
    let nil = both-none judged.0 judged.1 (sym judged.4 ∙ none) in (
      (λ off blob found. judged-found depth file held (entries held) judged.0 nil.0 judged.2 off blob (sym (get-entries held off) ∙ found)),
      all-parts depth file maps judged.1 nil.1 judged.3,
    )

pub some-entry : (es : List (ℕ × Blob)) → 0 < length (map extent_of es) → (off : ℕ) × (blob : Blob) × (find nat_cmp off es ≡ Some blob)
some-entry [] some = absurd (omega arith)
some-entry (e ∷ es) some = (e.0, e.1, find-head e es)

pub agreed-hold-file : AgreedHoldFile
agreed-hold-file depth file maps verdict v agreed =
    let parts = all-parts depth file maps verdict.findings.items agreed.0 v.judged in
    let part = union-part depth file maps v.whole parts v.union in
    let one = some-entry (entries v.whole) (subst (λ n. 0 < n) v.blobs agreed.2) in
    let found : get v.whole one.0 ≡ Some one.1 = get-entries v.whole one.0 ∙ one.2 in
    let it = part one.0 one.1 found in
    let long = frame-long one.0 it.0 it.2.entry it.2.is_entry in
    let fits = stands-within file one.0 it.0 it.1 (omega (arith, long)) in
    let size : v.size ≡ length file = v.size_is in
    parts-hold-file depth file maps v.whole (omega (arith, long, fits)) parts v.union v.apart
    (subst (λ n. AreGaps v.whole n []) size (subst (λ (gaps : List (ℕ × ℕ)). AreGaps v.whole v.size gaps) agreed.1 v.gaps))
