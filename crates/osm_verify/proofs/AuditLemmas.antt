-- Where a database has the rows of each frame, and no others, these are the rows of what an import of the frames comes to.
use Rattle.std.proofs.Common.{◌≡◌, ℕ, ◌+◌, ◌<◌, ◌≤◌, ◌&&◌, Bool, true, false, T, cond, eqb, List, [], ◌∷◌, map, length, Some, refl, sym, ◌∙◌, ap, ap₂, subst, inl, inr, arith}
use Rattle.std.specs.Prelude.{◌↔◌, IsTrue}
use Rattle.std.specs.Ordering.{nat_cmp, is_lt}
use Rattle.std.specs.Cmp.{unsigned_tied}
use Rattle.std.specs.List.{AllByRecursion}
use Rattle.std.specs.FinMap.{get, entries, find, is_sorted, from_sorted, entries-from_sorted, get-entries}
use Rattle.std.specs.FinMap.Entries.{below_all}
use Rattle.std.proofs.lemmas.Bool.Decides.{eqb_tells, nat_tests}
use Rattle.sqlite.specs.Tree.{Trees}
use Rattle.osm_value.specs.declared.element.Element.{Element}
use Rattle.osm_value.specs.Elements.{IsElement}
use Rattle.osm_rows.specs.declared.schema.layout.Layout.{Layout}
use Rattle.osm_rows.specs.Audit.{IsPlain, ShowsBlob, ShowsCounts, counts_of, elements_held}
use Rattle.osm_rows.specs.Held.{Blob, HeldMap, HaveFewTexts}
use Rattle.osm_rows.proofs.AuditLemmas.AllRows.{shows_map}
use Rattle.osm_import.specs.Merges.{IsImported, placed_from}
use Rattle.osm_import.specs.Runs.{IsGoodIn}
use Rattle.osm_import.specs.Step.{IsEntry}
use Rattle.osm_import.proofs.FilesLemmas.{entry-same}
use Rattle.osm_reading.proofs.GoodLaws.{frame-filled}
use Rattle.osm_verify.specs.declared.comparing.Depth.TheVariants.{Elements}
use Rattle.osm_verify.specs.Agreements.{IsSame}
use Rattle.osm_verify.specs.Audits.{AreEntries, IsEntryOf, AuditedShowsImport, KeepsImport, TellsFrame}
use Rattle.osm_verify.proofs.LawLemmas.{exact-is-one}

pub frame-long : (off : ℕ) (frame : List ℕ) (blob : Blob) → IsEntry off frame blob → 4 ≤ length frame
frame-long off frame blob entry = frame-filled entry.good.type_name entry.good.blob frame entry.good.placed.frame

true-and : (a b : Bool) → T a → T b → T (a && b)
true-and true b p q = q
true-and false b p q = absurd p

-- what is told of the rows of a frame's entry is told of the frame
pub shown-told : (P : Blob → Type 0) (off : ℕ) (frame : List ℕ) (blob : Blob) (elements : List Element) (T : Type 0) → IsEntry off frame blob → blob.elements ≡ elements → T ↔ P blob → T ↔ IsEntryOf P off frame elements
shown-told P off frame blob elements T entry are told = (
  (λ t. record { entry = blob; is_entry = entry; elements_are = are; so = told.0 t }),
  (λ s. told.1 (subst P (entry-same off frame s.entry blob s.is_entry entry) s.so)),
)

-- what is so of a frame's entry implies what it implies
pub entry-weaker : (P Q : Blob → Type 0) (off : ℕ) (frame : List ℕ) (elements : List Element) → ((blob : Blob) → P blob → Q blob) → IsEntryOf P off frame elements → IsEntryOf Q off frame elements
entry-weaker P Q off frame elements weaker is = record { entry = is.entry; is_entry = is.is_entry; elements_are = is.elements_are; so = weaker is.entry is.so }

-- so it is told whether the rows at the offset are those of the frame
pub frame-told : (P : Blob → Type 0) (layout : Layout) (db : Trees) (off : ℕ) (frame : List ℕ) (blob : Blob) (elements : List Element) (told : Bool) → ((other : Blob) → P other → ShowsBlob layout db off other)
    → IsEntry off frame blob → blob.elements ≡ elements → IsTrue told ↔ P blob → TellsFrame P layout db off frame elements told
frame-told P layout db off frame blob elements told shows entry are is =
    let whether = shown-told P off frame blob elements (IsTrue told) entry are is in
    record { whether = whether; shown = λ yes. entry-weaker P (ShowsBlob layout db off) off frame elements shows (whether.0 yes) }

-- what a held map is told to have at a frame's offset
pub held-told : (held : HeldMap) (off : ℕ) (frame : List ℕ) (blob : Blob) (T : Type 0) → IsEntry off frame blob → T ↔ (get held off ≡ Some blob) → T ↔ IsSame Elements held off frame
held-told held off frame blob T entry told = (
  (λ t. record { entry = blob; is_entry = entry; blob = blob; found = told.0 t; alike = refl }),
  (λ s. told.1 (s.found ∙ ap Some (s.alike ∙ entry-same off frame s.entry blob s.is_entry entry))),
)

pub plain-each : (es : List Element) → AllByRecursion IsElement es → HaveFewTexts es → AllByRecursion IsPlain es
plain-each [] in_range few = tt
plain-each (e ∷ es) in_range few = ((in_range.0, few.0), plain-each es in_range.1 few.1)

module _ (P : ℕ → Blob → Type 0) where
  -- the blobs of the frames, by their offsets
  all : (start : ℕ) (frames : List (List ℕ)) (blobs : List (List Element)) → AreEntries P start frames blobs → List (ℕ × Blob)
  all start [] [] shown = []
  all start [] (elements ∷ blobs) shown = absurd shown
  all start (frame ∷ frames) [] shown = absurd shown
  all start (frame ∷ frames) (elements ∷ blobs) shown = (start, shown.0.entry) ∷ all (start + length frame) frames blobs shown.1

  elements-all : (start : ℕ) (frames : List (List ℕ)) (blobs : List (List Element)) (shown : AreEntries P start frames blobs) → map (λ (e : ℕ × Blob). e.1.elements) (all start frames blobs shown) ≡ blobs
  unfolding all
  elements-all start [] [] shown = refl
  elements-all start [] (elements ∷ blobs) shown = absurd shown
  elements-all start (frame ∷ frames) [] shown = absurd shown
  elements-all start (frame ∷ frames) (elements ∷ blobs) shown = ap₂ ◌∷◌ shown.0.elements_are (elements-all (start + length frame) frames blobs shown.1)

  shown-all : (start : ℕ) (frames : List (List ℕ)) (blobs : List (List Element)) (shown : AreEntries P start frames blobs) → AllByRecursion (λ (e : ℕ × Blob). P e.0 e.1) (all start frames blobs shown)
  unfolding all
  shown-all start [] [] shown = tt
  shown-all start [] (elements ∷ blobs) shown = absurd shown
  shown-all start (frame ∷ frames) [] shown = absurd shown
  shown-all start (frame ∷ frames) (elements ∷ blobs) shown = (shown.0.so, shown-all (start + length frame) frames blobs shown.1)

  less : (m n : ℕ) → m < n → T (is_lt (nat_cmp m n))
  less m n low = grind (arith, nat_tests)

  below : (low start : ℕ) (frames : List (List ℕ)) (blobs : List (List Element)) (shown : AreEntries P start frames blobs) → low < start → T (below_all nat_cmp low (all start frames blobs shown))
  unfolding all
  below low start [] [] shown h = tt
  below low start [] (elements ∷ blobs) shown h = absurd shown
  below low start (frame ∷ frames) [] shown h = absurd shown
  below low start (frame ∷ frames) (elements ∷ blobs) shown h = true-and _ _ (less low start h) (below low (start + length frame) frames blobs shown.1 (omega (arith, h)))

  sorted : (start : ℕ) (frames : List (List ℕ)) (blobs : List (List Element)) (shown : AreEntries P start frames blobs) → T (is_sorted nat_cmp (all start frames blobs shown))
  unfolding all
  sorted start [] [] shown = tt
  sorted start [] (elements ∷ blobs) shown = absurd shown
  sorted start (frame ∷ frames) [] shown = absurd shown
  sorted start (frame ∷ frames) (elements ∷ blobs) shown =
      let long = frame-long start frame shown.0.entry shown.0.is_entry in
      true-and _ _ (below start (start + length frame) frames blobs shown.1 (omega (arith, long))) (sorted (start + length frame) frames blobs shown.1)

  later : (start : ℕ) (frames : List (List ℕ)) (off : ℕ) (blob : Blob) → IsGoodIn (placed_from start frames) off blob → start ≤ off
  later start [] off blob good = absurd good
  later start (frame ∷ frames) off blob good = elim good [
    | inl (here, _) ↦ omega (arith, here)
    | inr more ↦ (let low = later (start + length frame) frames off blob more in omega (arith, low))
  ]

  found : (off start : ℕ) (entry : Blob) (es : List (ℕ × Blob)) → find nat_cmp off ((start, entry) ∷ es) ≡ cond (eqb off start) (Some entry) (find nat_cmp off es)
  found off start entry es = ap (λ b. cond b (Some entry) (find nat_cmp off es)) (unsigned_tied off start)

  exactly : (start : ℕ) (frames : List (List ℕ)) (blobs : List (List Element)) (shown : AreEntries P start frames blobs) (off : ℕ) (blob : Blob)
      → (find nat_cmp off (all start frames blobs shown) ≡ Some blob) ↔ IsGoodIn (placed_from start frames) off blob
  unfolding all
  exactly start [] [] shown off blob = ((λ is. absurd (cc)), λ good. absurd good)
  exactly start [] (elements ∷ blobs) shown off blob = absurd shown
  exactly start (frame ∷ frames) [] shown off blob = absurd shown
  exactly start (frame ∷ frames) (elements ∷ blobs) shown off blob =
      let entry = shown.0.entry in
      let rest = all (start + length frame) frames blobs shown.1 in
      let more = exactly (start + length frame) frames blobs shown.1 off blob in
      let known = found off start entry rest in
      elim (eqb_tells off start) [
        | inl (test, same) ↦
            let there : find nat_cmp off ((start, entry) ∷ rest) ≡ Some entry = known ∙ ap (λ b. cond b (Some entry) (find nat_cmp off rest)) test in (
              (λ is. (let both : Some entry ≡ Some blob = sym there ∙ is in let one : entry ≡ blob = cc in inl (same, subst (λ n. IsEntry n frame blob) (sym same) (subst (λ (b : Blob). IsEntry start frame b) one shown.0.is_entry)))),
              (λ good. elim good [
                | inl (_, other) ↦ there ∙ ap Some (entry-same start frame entry blob shown.0.is_entry (subst (λ n. IsEntry n frame blob) same other))
                | inr behind ↦ (let low = later (start + length frame) frames off blob behind in let long = frame-long start frame entry shown.0.is_entry in absurd (omega (arith, low, long, same)))
              ]),
            )
        | inr (test, apart) ↦
            let there : find nat_cmp off ((start, entry) ∷ rest) ≡ find nat_cmp off rest = known ∙ ap (λ b. cond b (Some entry) (find nat_cmp off rest)) test in (
              (λ is. inr (more.0 (sym there ∙ is))),
              (λ good. elim good [
                | inl (here, _) ↦ absurd (apart here)
                | inr behind ↦ there ∙ more.1 behind
              ]),
            )
      ]

  -- the map of these blobs
  map-of : (frames : List (List ℕ)) (blobs : List (List Element)) → AreEntries P 0 frames blobs → HeldMap
  map-of frames blobs shown = from_sorted (all 0 frames blobs shown)

  map-entries : (frames : List (List ℕ)) (blobs : List (List Element)) (shown : AreEntries P 0 frames blobs) → entries (map-of frames blobs shown) ≡ all 0 frames blobs shown
  unfolding map-of
  map-entries frames blobs shown = entries-from_sorted nat_cmp (all 0 frames blobs shown) (sorted 0 frames blobs shown)

  map-elements : (frames : List (List ℕ)) (blobs : List (List Element)) (shown : AreEntries P 0 frames blobs) → map (λ (e : ℕ × Blob). e.1.elements) (entries (map-of frames blobs shown)) ≡ blobs
  map-elements frames blobs shown = ap (map (λ (e : ℕ × Blob). e.1.elements)) (map-entries frames blobs shown) ∙ elements-all 0 frames blobs shown

  map-imported : (frames : List (List ℕ)) (blobs : List (List Element)) (shown : AreEntries P 0 frames blobs) → IsImported (placed_from 0 frames) (map-of frames blobs shown)
  map-imported frames blobs shown off blob =
      let all_told = exactly 0 frames blobs shown off blob in
      let known : get (map-of frames blobs shown) off ≡ find nat_cmp off (all 0 frames blobs shown) = get-entries (map-of frames blobs shown) off ∙ ap (find nat_cmp off) (map-entries frames blobs shown) in
      ((λ is. all_told.0 (sym known ∙ is)), λ good. known ∙ all_told.1 good)

  -- what an import of the frames comes to has the elements of these blobs
  pub imported-elements : (held : HeldMap) (frames : List (List ℕ)) (blobs : List (List Element)) → AreEntries P 0 frames blobs → IsImported (placed_from 0 frames) held → elements_held held ≡ blobs
  imported-elements held frames blobs shown imported =
      ap elements_held (exact-is-one held (map-of frames blobs shown) frames imported (map-imported frames blobs shown)) ∙ map-elements frames blobs shown

pub audited-shows-import : AuditedShowsImport
audited-shows-import layout db frames audited =
    let held : HeldMap = map-of (ShowsBlob layout db) frames audited.blobs audited.shown in
    record {
      held = held;
      imported = map-imported (ShowsBlob layout db) frames audited.blobs audited.shown;
      shown = shows_map layout db held (subst (AllByRecursion (λ (e : ℕ × Blob). ShowsBlob layout db e.0 e.1)) (sym (map-entries (ShowsBlob layout db) frames audited.blobs audited.shown)) (shown-all (ShowsBlob layout db) 0 frames audited.blobs audited.shown))
          (subst (λ (blobs : List (List Element)). ShowsCounts layout db (counts_of blobs)) (sym (map-elements (ShowsBlob layout db) frames audited.blobs audited.shown)) audited.counted);
    }

-- what is so of each entry implies what it implies
pub entries-weaker : (P Q : ℕ → Blob → Type 0) → ((off : ℕ) (blob : Blob) → P off blob → Q off blob) → (start : ℕ) (frames : List (List ℕ)) (blobs : List (List Element)) → AreEntries P start frames blobs → AreEntries Q start frames blobs
entries-weaker P Q weaker start [] [] all = tt
entries-weaker P Q weaker start [] (elements ∷ blobs) all = absurd all
entries-weaker P Q weaker start (frame ∷ frames) [] all = absurd all
entries-weaker P Q weaker start (frame ∷ frames) (elements ∷ blobs) all =
    (entry-weaker (P start) (Q start) start frame elements (weaker start) all.0, entries-weaker P Q weaker (start + length frame) frames blobs all.1)

-- what is so of each entry is so of each blob of what an import of the frames comes to
pub audited-keeps-import : (P : ℕ → Blob → Type 0) (layout : Layout) (db : Trees) (frames : List (List ℕ)) (blobs : List (List Element)) → AreEntries P 0 frames blobs → ShowsCounts layout db (counts_of blobs) → KeepsImport P layout db frames
audited-keeps-import P layout db frames blobs each counted = record {
  held = map-of P frames blobs each;
  imported = map-imported P frames blobs each;
  kept = subst (AllByRecursion (λ (e : ℕ × Blob). P e.0 e.1)) (sym (map-entries P frames blobs each)) (shown-all P 0 frames blobs each);
  counted = subst (λ (all : List (List Element)). ShowsCounts layout db (counts_of all)) (sym (map-elements P frames blobs each)) counted;
}
