-- From what is read and compared to what is found.
use Rattle.std.proofs.Common.{◌≡◌, ℕ, zero, suc, ◌+◌, ◌<◌, ◌≤◌, true, true≢false, List, [], ◌∷◌, ◌++◌, map, length, take, get_or, Option, Some, None, Result, Ok, Err, refl, sym, ◌∙◌, ap, subst, arith}
use Rattle.std.specs.Prelude.{IfOk, IfSome, IsNone}
use Rattle.std.specs.List.{cons_option}
use Rattle.std.specs.Ordering.{nat_cmp}
use Rattle.std.specs.FinMap.{get, entries, find, is_sorted, get-entries, entries_sorted}
use Rattle.std.proofs.lemmas.List.{take_at, take_all, take_more, length-map}
use Rattle.osm_value.specs.declared.element.Element.{Element}
use Rattle.osm_rows.specs.Audit.{elements_held}
use Rattle.osm_rows.specs.Calls.{OfHeld}
use Rattle.osm_rows.specs.Held.{Blob, HeldMap}
use Rattle.osm_rows.specs.Keeping.{extent_of, extents_of}
use Rattle.osm_rows.specs.declared.audit.counts.Counts.{Counts}
use Rattle.osm_rows.specs.declared.keeper.Extent.{Extent}
use Rattle.osm_rows.specs.declared.keeper.BlobReader.{Ghosts as ReaderOf}
use Rattle.osm_reading.specs.Bad.{IsBad, IsFinding}
use Rattle.osm_reading.specs.declared.examination.ExamineFault.{ExamineFault}
use Rattle.osm_reading.specs.declared.examination.ExamineFault.TheVariants as examined
use Rattle.osm_reading.specs.Framings.{Known}
use Rattle.osm_import.specs.Step.{IsEntry}
use Rattle.osm_reading.specs.declared.fault.Fault.{Fault}
use Rattle.osm_import.proofs.Delivering.{true-of}
use Rattle.osm_import.proofs.FilesLemmas.{entry-same}
use Rattle.osm_reading.proofs.GoodLaws.{good-not_bad}
use Rattle.osm_import.proofs.WalkLemmas.{read-is}
use Rattle.pbf_frame.specs.declared.kind.Kind.TheVariants.{OsmHeader}
use Rattle.osm_import.proofs.Touching.{find-head, find-tail, sorted-tail}
use Rattle.osm_verify.specs.Agreements.{AreAlike, IsAgreement, IsSame}
use Rattle.osm_verify.specs.Audits.{IsEntryOf}
use Rattle.osm_verify.specs.declared.comparing.Agreement.{Agreement}
use Rattle.osm_verify.specs.declared.comparing.Agreement.TheVariants.{Same, Missing, Differs}
use Rattle.osm_verify.specs.declared.comparing.Depth.{Depth}
use Rattle.osm_verify.specs.declared.comparing.Depth.TheVariants.{Elements}
use Rattle.osm_verify.specs.InFile.{IsIn}
use Rattle.osm_verify.specs.Judging.{AreEntriesIn, AreJudged, IsFound, IsJudged, IsNoEntry, IsStray, finding_of}
use Rattle.osm_verify.specs.Seeing.{SeesExtent, SeesFrame}
use Rattle.osm_verify.specs.declared.part_audit.Finding.{Finding}
use Rattle.osm_verify.specs.declared.part_audit.Finding.TheVariants as finding
use Rattle.osm_verify.proofs.FileRows.{one-blob}

-- ---- no good frame there

front-same : (bytes other x y : List ℕ) → length other ≡ length bytes → bytes ++ x ≡ other ++ y → other ≡ bytes
front-same bytes other x y long same = sym (take_at other y (length bytes) long) ∙ ap (take (length bytes)) (sym same) ∙ take_at bytes x (length bytes) refl

stray-bad : (known : Known) (extent : Extent) (bytes : List ℕ) → IsIn known extent.off bytes → extent.fin ≡ extent.off + length bytes → IsNoEntry extent.off bytes → IfSome known (λ file. IsStray file extent)
stray-bad None extent bytes within fin none = tt
stray-bad (Some file) extent bytes within fin none = λ other stands ends entry is. (
    let long : length other ≡ length bytes = omega (arith, fin, ends) in
    let same : other ≡ bytes = front-same bytes other within.0 stands.0 long (sym within.1 ∙ stands.1) in
    none entry (subst (λ (w : List ℕ). IsEntry extent.off w entry) same is))

pub bad-none : (off : ℕ) (bytes : List ℕ) (fault : Fault) → IsBad off bytes fault → IsNoEntry off bytes
bad-none off bytes fault bad = λ entry is. good-not_bad off bytes entry.kind entry.elements is.good fault bad

pub finding-none : (off : ℕ) (bytes : List ℕ) (fault : ExamineFault) (inner : Fault) → fault ≡ examined.Bad inner → IsFinding off bytes fault → IsNoEntry off bytes
finding-none off bytes fault inner is finding = bad-none off bytes inner (subst (λ (f : ExamineFault). IsFinding off bytes f) is finding)

-- ---- what is found

pub found-judged : (depth : Depth) (held : HeldMap) (known : Known) (extent : Extent) (bytes : List ℕ) (found : Option Finding) → IsIn known extent.off bytes → extent.fin ≡ extent.off + length bytes
    → IsFound depth held extent.off bytes found → IsJudged depth held known extent found
found-judged depth held known extent bytes None within fin same = (bytes, within, same)
found-judged depth held known extent bytes (Some (finding.Differs at)) within fin is = (is.0, (bytes, within, fin, is.1))
found-judged depth held known extent bytes (Some (finding.Extra at)) within fin is = (is.0, stray-bad known extent bytes within fin is.1)

pub agreement-found : (depth : Depth) (held : HeldMap) (off : ℕ) (bytes : List ℕ) (agreement : Agreement) → IsAgreement depth held off bytes agreement → IsFound depth held off bytes (finding_of off agreement)
agreement-found depth held off bytes Same is = is
agreement-found depth held off bytes Missing is = (
  refl,
  record {
    entry = is.entry;
    is_entry = is.is_entry;
    unlike = λ same. (let bad : Some same.blob ≡ None = sym same.found ∙ is.unheld in cc);
  },
)
agreement-found depth held off bytes Differs is = (
  refl,
  record {
    entry = is.entry;
    is_entry = is.is_entry;
    unlike = λ same. is.apart (
        subst (λ (b : Blob). AreAlike depth off b is.entry) (one-blob held off same.blob is.blob same.found is.found)
        (subst (λ (e : Blob). AreAlike depth off same.blob e) (entry-same off bytes same.entry is.entry same.is_entry is.is_entry) same.alike));
  },
)

pub none-is : (found : Option Finding) → IsNone found → found ≡ None
none-is None is = refl
none-is (Some finding) is = absurd (true≢false is)

pub none-same : (off : ℕ) (agreement : Agreement) → finding_of off agreement ≡ None → agreement ≡ Same
none-same off Same is = refl
none-same off Missing is = absurd (cc)
none-same off Differs is = absurd (cc)

-- what is found of the bytes that were read, with nothing found
pub read-seen : {K E : Type 0} (store : ReaderOf K) (old new : K) (has_tables : Type 0) (has_rows : ℕ → Blob → Type 0) (result : Result (Option Finding) E) (depth : Depth) (rows_old rows_new : Counts) (known : Known) (extent : Extent) (bytes : List ℕ)
    → IsIn known extent.off bytes → extent.fin ≡ extent.off + length bytes
    → IfOk result (λ found. IsNone found → SeesFrame store new has_tables has_rows depth rows_old rows_new extent.off bytes)
    → OfHeld store old new (λ held. IfOk result (IsFound depth held extent.off bytes))
    → IfOk result (λ found. IsNone found → SeesExtent store old new has_tables has_rows depth rows_old rows_new known extent)
read-seen store old new has_tables has_rows (Ok None) depth rows_old rows_new known extent bytes within fin seen found = λ none. record { frame = bytes; within = within; ends = fin; seen = seen none; same = found }
read-seen store old new has_tables has_rows (Ok (Some finding)) depth rows_old rows_new known extent bytes within fin seen found = λ none. absurd (true≢false none)
read-seen store old new has_tables has_rows (Err fault) depth rows_old rows_new known extent bytes within fin seen found = tt

-- ---- one more

cons-append : (found : Option Finding) (xs ys : List Finding) → cons_option found xs ++ ys ≡ cons_option found (xs ++ ys)
cons-append None xs ys = refl
cons-append (Some finding) xs ys = refl

pub judged-more : (depth : Depth) (held : HeldMap) (known : Known) (extents : List Extent) (findings : List Finding) (extent : Extent) (found : Option Finding) → AreJudged depth held known extents findings → IsJudged depth held known extent found
    → AreJudged depth held known (extents ++ extent ∷ []) (findings ++ cons_option found [])
judged-more depth held known [] findings extent found judged is = (found, [], is, refl, ap (λ (l : List Finding). l ++ cons_option found []) judged)
judged-more depth held known (first ∷ extents) findings extent found judged is = (
  judged.0,
  judged.1 ++ cons_option found [],
  judged.2,
  judged-more depth held known extents judged.1 extent found judged.3 is,
  ap (λ (l : List Finding). l ++ cons_option found []) judged.4 ∙ cons-append judged.0 judged.1 (cons_option found []),
)

pub entries-more : (P : ℕ → Blob → Type 0) (known : Known) (extents : List Extent) (blobs : List (List Element)) (extent : Extent) (elements : List Element) → AreEntriesIn P known extents blobs
    → (frame : List ℕ) × IsIn known extent.off frame × IsEntryOf (P extent.off) extent.off frame elements × (extent.fin ≡ extent.off + length frame) → AreEntriesIn P known (extents ++ extent ∷ []) (blobs ++ elements ∷ [])
entries-more P known [] [] extent elements entries is = (is, tt)
entries-more P known [] (blob ∷ blobs) extent elements entries is = absurd entries
entries-more P known (first ∷ extents) [] extent elements entries is = absurd entries
entries-more P known (first ∷ extents) (blob ∷ blobs) extent elements entries is = (entries.0, entries-more P known extents blobs extent elements entries.1 is)

pub nothing-more : (findings : List Finding) (found : Option Finding) → findings ++ cons_option found [] ≡ [] → (findings ≡ []) × (found ≡ None)
nothing-more [] None is = (refl, refl)
nothing-more [] (Some finding) is = absurd (cc)
nothing-more (finding ∷ findings) found is = absurd (cc)

-- ---- the elements of a map's blobs, by their extents

record Held (es : List (ℕ × Blob)) (i : ℕ) (extent : Extent) : Type 0 where
  blob : Blob
  found : find nat_cmp extent.off es ≡ Some blob
  more : take (suc i) (map (λ (entry : ℕ × Blob). entry.1.elements) es) ≡ take i (map (λ (entry : ℕ × Blob). entry.1.elements) es) ++ blob.elements ∷ []

held-here : (es : List (ℕ × Blob)) (i : ℕ) (extent : Extent) → is_sorted nat_cmp es ≡ true → i < length (map extent_of es) → extent ≡ get_or (map extent_of es) i extent → Held es i extent
held-here [] i extent sorted low is = absurd (omega arith)
held-here (e ∷ es) zero extent sorted low is =
    record { blob = e.1; found = subst (λ n. find nat_cmp n (e ∷ es) ≡ Some e.1) (sym (ap (λ (x : Extent). x.off) is)) (find-head e es); more = refl }
held-here (e ∷ es) (suc i) extent sorted low is =
    let it = held-here es i extent (sorted-tail e es sorted) (omega arith) is in
    record { blob = it.blob; found = (find-tail e es sorted extent.off it.blob it.found).1; more = ap (λ (l : List (List Element)). e.1.elements ∷ l) it.more }

pub elements-more : (held : HeldMap) (extents : List Extent) (i : ℕ) (extent : Extent) (frame : List ℕ) (elements : List Element) → extents ≡ extents_of held → i < length extents → extent ≡ get_or extents i extent
    → IsSame Elements held extent.off frame → IsEntryOf (λ entry. Unit {0}) extent.off frame elements → take (i + 1) (elements_held held) ≡ take i (elements_held held) ++ elements ∷ []
elements-more held extents i extent frame elements are low is same entry =
    let it = held-here (entries held) i extent (true-of _ (entries_sorted held)) (subst (λ (l : List Extent). i < length l) are low) (subst (λ (l : List Extent). extent ≡ get_or l i extent) are is) in
    let found : get held extent.off ≡ Some it.blob = get-entries held extent.off ∙ it.found in
    let blobs : it.blob ≡ entry.entry = one-blob held extent.off it.blob same.blob found same.found ∙ same.alike ∙ entry-same extent.off frame same.entry entry.entry same.is_entry entry.is_entry in
    let elements_are : it.blob.elements ≡ elements = ap (λ (b : Blob). b.elements) blobs ∙ entry.elements_are in
    let one : i + 1 ≡ suc i = omega arith in
    ap (λ n. take n (elements_held held)) one ∙ it.more ∙ ap (λ (l : List Element). take i (elements_held held) ++ l ∷ []) elements_are

pub elements-all : (held : HeldMap) (extents : List Extent) (i : ℕ) → extents ≡ extents_of held → length extents ≤ i → take i (elements_held held) ≡ elements_held held
elements-all held extents i are high =
    take_all i (elements_held held) (omega (arith, ap length are, length-map (entries held) extent_of, length-map (entries held) (λ (entry : ℕ × Blob). entry.1.elements)))

pub extent-taken : (extents : List Extent) (i : ℕ) (extent : Extent) → i < length extents → extent ≡ get_or extents i extent → take (i + 1) extents ≡ take i extents ++ extent ∷ []
extent-taken extents i extent low is = take_more extents i extent low ∙ ap (λ (e : Extent). take i extents ++ e ∷ []) (sym is)

pub extents-all : (extents : List Extent) (i : ℕ) → length extents ≤ i → take i extents ≡ extents
extents-all extents i high = take_all i extents high

-- what is read of a list where it has no element
abbrev pub blank : Extent
blank = record { off = 0; fin = 0; digest = []; kind = OsmHeader; n = 0 }

pub extent-read : (extents : List Extent) (i : ℕ) → i < length extents → get_or extents i blank ≡ get_or extents i (get_or extents i blank)
extent-read extents i low = read-is extents i blank (get_or extents i blank) low
