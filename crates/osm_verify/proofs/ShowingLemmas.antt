-- From the extents that were read of stores, which are those of frames of a file, to the frames of the file.
use Rattle.std.proofs.Common.{◌≡◌, ℕ, ◌+◌, ◌<◌, false, List, [], ◌∷◌, ◌++◌, map, length, Some, None, Result, Ok, Err, sym, ◌∙◌, ap, subst, inl, inr, arith}
use Rattle.std.specs.Prelude.{IfOk, IfSome}
use Rattle.std.specs.FinMap.{get, entries, get-entries}
use Rattle.std.proofs.lemmas.List.{length-map}
use Rattle.osm_value.specs.declared.element.Element.{Element}
use Rattle.osm_rows.specs.Held.{Blob, HeldMap}
use Rattle.osm_rows.specs.declared.keeper.Extent.{Extent}
use Rattle.osm_rows.specs.declared.schema.layout.Layout.{Layout}
use Rattle.sqlite.specs.Tree.{Trees}
use Rattle.osm_import.specs.Gaps.{AreGaps}
use Rattle.osm_reading.specs.Framings.{Known}
use Rattle.osm_parts.specs.Parts.{IsInPart}
use Rattle.osm_parts.specs.Reading.{AreStores}
use Rattle.osm_parts.specs.declared.runs.Part.{Part}
use Rattle.osm_verify.proofs.AuditLemmas.{frame-long}
use Rattle.osm_verify.specs.Judging.{AreEntriesIn, ShowsPart}
use Rattle.osm_verify.specs.Showing.{AreShownFrom, AreShownParts, IsAmong, IsOfOne, IsShownPart, ShowTogether}
use Rattle.osm_verify.specs.Together.{Covers, IsClean}
use Rattle.osm_verify.specs.declared.part_audit.Finding.{Finding}
use Rattle.osm_verify.specs.declared.fault.AuditFault.{AuditFault}
use Rattle.osm_verify.specs.declared.together.Verdict.{Verdict}
use Rattle.osm_verify.proofs.FileFrames.{some-entry}
use Rattle.osm_verify.proofs.FileRows.{Stands, rows-are-file, rows-of-file, stands-within}
use Rattle.osm_verify.proofs.MadeMaps.{Row, among-made, blob-of, extents-of-made, made, made-among, made-apart, row-of}

-- ---- one store more

pub none-shown : {K : Type 0} (lies : ℕ → K → Type 0) (shows : K → List Extent → Type 0) (place : ℕ) (parts : List Part) → parts ≡ [] → AreShownParts lies shows place parts
none-shown lies shows place [] none = tt
none-shown lies shows place (part ∷ parts) none = absurd (cc)

pub shown-more : {K : Type 0} (lies : ℕ → K → Type 0) (shows : K → List Extent → Type 0) (place : ℕ) (parts : List Part) (part : Part) → AreShownParts lies shows place parts
    → IsShownPart (lies (place + length parts)) shows (place + length parts) part → AreShownParts lies shows place (parts ++ part ∷ [])
shown-more lies shows place [] part are one = let here : place + 0 ≡ place = omega arith in (subst (λ n. IsShownPart (lies n) shows n part) here one, tt)
shown-more lies shows place (first ∷ parts) part are one =
    let there : place + length (first ∷ parts) ≡ place + 1 + length parts = omega arith in
    (are.0, shown-more lies shows (place + 1) parts part are.1 (subst (λ n. IsShownPart (lies n) shows n part) there one))

-- ---- frames at the extents

abbrev Frame : List ℕ → ℕ → ℕ → Type 0
Frame file off fin = Stands file (λ at frame. Unit {0}) off fin

among-frame : (file : List ℕ) (extents : List Extent) (blobs : List (List Element)) → AreEntriesIn (λ off blob. Unit {0}) (Some file) extents blobs → (extent : Extent) → IsAmong extent extents → Frame file extent.off extent.fin
among-frame file [] [] are extent among = absurd among
among-frame file [] (elements ∷ blobs) are extent among = absurd are
among-frame file (first ∷ extents) [] are extent among = absurd are
among-frame file (first ∷ extents) (elements ∷ blobs) are extent among = elim among [
  | inl same ↦ (
      let it = are.0 in
      let entry = it.2 in
      let good = entry.is_entry.good in
      subst (λ (e : Extent). Frame file e.off e.fin) same (record {
        frame = it.0;
        stands = it.1;
        good = (good.type_name, good.blob, good.placed.frame);
        ends = it.3;
        long = frame-long first.off it.0 entry.entry entry.is_entry;
        is = tt;
      }))
  | inr later ↦ among-frame file extents blobs are.1 extent later
]

-- the extents of each store, and maps of these
abbrev read : List Part → List (List Extent)
read parts = map (λ (part : Part). part.extents.items) parts

abbrev maps-of : List Part → List HeldMap
maps-of parts = map (λ (part : Part). made part.extents.items) parts

module _ {K : Type 0} (lies : ℕ → K → Type 0) (has_rows : K → ℕ → Blob → Type 0) (layout : Layout) (trees : K → Trees) (file : List ℕ) where
  abbrev shows : K → List Extent → Type 0
  shows store extents = ShowsPart (has_rows store) layout (trees store) (Some file) extents

  row-at : (place : ℕ) (part : Part) → IsShownPart (lies place) shows place part → Row 0 part.extents.items
  row-at place part is = row-of part.extents.items is.at.shown.apart is.ranges

  pub are-stores : (place : ℕ) (parts : List Part) → AreShownParts lies shows place parts → AreStores false place (maps-of parts) parts
  are-stores place [] are = tt
  are-stores place (part ∷ parts) are =
      let row = row-at place part are.0 in (
        record { placed = are.0.placed; extents = sym (extents-of-made part.extents.items row); history = are.0.plain },
        made-apart part.extents.items row,
        are-stores (place + 1) parts are.1,
      )

  are-from : (place : ℕ) (parts : List Part) → AreShownParts lies shows place parts → AreShownFrom lies shows place (read parts)
  are-from place [] are = tt
  are-from place (part ∷ parts) are = (are.0.at, are-from (place + 1) parts are.1)

  -- a made blob is that of an extent, at which a frame stands
  at-extent : (place : ℕ) (parts : List Part) → AreShownParts lies shows place parts → (off : ℕ) (blob : Blob) → IsInPart (maps-of parts) off blob
      → (extent : Extent) × IsOfOne extent (read parts) × (extent.off ≡ off) × Frame file off blob.fin
  at-extent place [] are off blob found = absurd found
  at-extent place (part ∷ parts) are off blob found = elim found [
    | inl here ↦ (
        let it = made-among part.extents.items off blob here in
        let fin : it.0.fin ≡ blob.fin = ap (λ (b : Blob). b.fin) it.3 in
        let shown = are.0.at.shown in
        let frame = among-frame file part.extents.items shown.blobs shown.are it.0 it.1 in
        (it.0, inl it.1, it.2, subst (λ n. Frame file off n) fin (subst (λ n. Frame file n it.0.fin) it.2 frame)))
    | inr later ↦ (let it = at-extent (place + 1) parts are.1 off blob later in (it.0, inr it.1, it.2, it.3))
  ]

  extent-in : (place : ℕ) (parts : List Part) → AreShownParts lies shows place parts → (extent : Extent) → IsOfOne extent (read parts) → IsInPart (maps-of parts) extent.off (blob-of extent)
  extent-in place [] are extent found = absurd found
  extent-in place (part ∷ parts) are extent found = elim found [
    | inl here ↦ inl (among-made part.extents.items (row-at place part are.0) extent here)
    | inr later ↦ inr (extent-in (place + 1) parts are.1 extent later)
  ]

  pub show-together : (count : ℕ) (parts : List Part) (verdict : Verdict) → AreShownParts lies shows 0 parts → length parts ≡ count → Covers (Some file) (maps-of parts) verdict → IsClean verdict
      → ShowTogether lies shows count file
  show-together count parts verdict are many covers clean =
      let whole = covers.whole in
      let Is : ℕ → List ℕ → Type 0 = λ at frame. Unit {0} in
      let at : (off : ℕ) (blob : Blob) → get whole off ≡ Some blob → Frame file off blob.fin = λ off blob found. (at-extent 0 parts are off blob (covers.union.only off blob found)).3 in
      let size : covers.size ≡ length file = covers.size_is in
      let gaps = subst (λ n. AreGaps whole n []) size (subst (λ (gaps : List (ℕ × ℕ)). AreGaps whole covers.size gaps) clean.1 covers.gaps) in
      let rows = rows-of-file file whole Is at covers.apart gaps in
      let one = some-entry (entries whole) (subst (λ n. 0 < n) covers.blobs clean.2) in
      let first = at one.0 one.1 (get-entries whole one.0 ∙ one.2) in
      let fits = stands-within file one.0 first.frame first.stands (omega (arith, first.long)) in
      record {
        frames = rows.frames;
        is_file = rows-are-file file whole Is rows (omega (arith, fits, first.long));
        extents = read parts;
        many = length-map parts (λ (part : Part). part.extents.items) ∙ many;
        each = are-from 0 parts are;
        only = λ extent found.
            let other = covers.union.kept extent.off (blob-of extent) (extent-in 0 parts are extent found) in
            let stands = rows.each extent.off other.0 other.1 (omega arith) in
            let fin : other.0.fin ≡ extent.fin = ap (λ (e : Extent). e.fin) other.2 in
            (stands.0, stands.1, sym fin ∙ stands.4);
        all = λ off frame stands.
            let held = rows.held off frame stands in
            let it = at-extent 0 parts are off held.0 (covers.union.only off held.0 held.1) in
            (it.0, it.1, it.2);
      }

pub shown-known : {K : Type 0} (lies : ℕ → K → Type 0) (has_rows : K → ℕ → Blob → Type 0) (layout : Layout) (trees : K → Trees) (known : Known) (result : Result Verdict AuditFault) (count : ℕ) (stores : List Part) (findings : List Finding)
    → (findings ≡ [] → AreShownParts lies (λ store extents. ShowsPart (has_rows store) layout (trees store) known extents) 0 stores) → length stores ≡ count
    → IfOk result (λ verdict. verdict.findings.items ≡ findings) → ((maps : List HeldMap) → AreStores false 0 maps stores → IfOk result (Covers known maps))
    → IfOk result (λ verdict. IsClean verdict → IfSome known (λ file. ShowTogether lies (λ store extents. ShowsPart (has_rows store) layout (trees store) (Some file) extents) count file))
shown-known lies has_rows layout trees None (Ok verdict) count stores findings shown many same covers = λ clean. tt
shown-known lies has_rows layout trees None (Err fault) count stores findings shown many same covers = tt
shown-known lies has_rows layout trees (Some file) (Err fault) count stores findings shown many same covers = tt
shown-known lies has_rows layout trees (Some file) (Ok verdict) count stores findings shown many same covers = λ clean. (
    let are = shown (sym same ∙ clean.0) in
    show-together lies has_rows layout trees file count stores verdict are many (covers (maps-of stores) (are-stores lies has_rows layout trees file 0 stores are)) clean)
