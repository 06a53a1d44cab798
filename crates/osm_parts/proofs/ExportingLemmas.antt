-- From walks over the blobs of parts to one over the blobs of the whole.
use Rattle.std.proofs.Common.{◌≡◌, ℕ, zero, suc, ◌+◌, ◌<◌, ◌≤◌, Bool, List, [], ◌∷◌, ◌++◌, length, take, drop, get_or, Some, Result, Ok, Err, refl, sym, ◌∙◌, ap, subst, inl, arith, append_assoc, append-nil, add-one, length-append}
use Rattle.std.specs.Ordering.{nat_cmp}
use Rattle.std.specs.FinMap.{get, entries, find, get-entries}
use Rattle.std.proofs.lemmas.List.{take-append-le, take_all}
use Rattle.osm_value.specs.declared.element.Element.{Element}
use Rattle.osm_rows.specs.Held.{Blob, HeldMap}
use Rattle.osm_rows.specs.declared.fault.StoreFault.{StoreFault}
use Rattle.osm_reading.specs.Framings.{Known}
use Rattle.osm_import.specs.ExportCauses.{ExportHasCause}
use Rattle.osm_import.specs.Walks.{Writing, elements_at, WritesOne, WritesInTurn, StopsAt, Walks}
use Rattle.osm_import.specs.declared.export.fault.ExportFault.{ExportFault}
use Rattle.osm_import.specs.declared.export.fault.ExportFault.TheVariants.{Incomplete, PastEnd, WriteFailed, BlockTooLarge, Miscounted, Store}
use Rattle.osm_parts.specs.Opening.{AddsUp}
use Rattle.osm_parts.specs.Parts.{AreParts, entries_in}
use Rattle.osm_parts.specs.Reading.{IsPart, AreEach, AreRead}
use Rattle.osm_parts.specs.declared.runs.Part.{Part}
use Rattle.osm_parts.proofs.PartsLemmas.{parts-join}
use Rattle.osm_parts.proofs.OpeningLemmas.{cause-closed, cause-later}

-- ---- one part

some-held : (held : HeldMap) (at : ℕ) (blob : Blob) → get held at ≡ Some blob → 0 < length (entries held)
some-held held at blob found = some (entries held) (sym (get-entries held at) ∙ found)
  where
    some : (es : List (ℕ × Blob)) → find nat_cmp at es ≡ Some blob → 0 < length es
    some [] found = absurd (cc)
    some (e ∷ es) found = omega arith

-- a store that wasn't opened
pub unopened : (Writes : Writing) (before : Known) (maps : List HeldMap) (asked : Bool) (part : Part) (held : HeldMap) (fault : StoreFault) → IsPart maps asked part held → Walks Writes before (entries held) before (Err (Store fault))
unopened Writes before maps asked part held fault is =
    record { count = 0; middle = before; here = some-held held is.filled.0 is.filled.1 is.filled.2; turns = refl; stopped = inl refl }

-- ---- part after part

pub record AtPart (maps : List HeldMap) (asked : Bool) (ordered : List HeldMap) (i : ℕ) (part : Part) : Type 0 where
  pub held : HeldMap
  pub is : IsPart maps asked part held
  pub taken : entries_in (take (suc i) ordered) ≡ entries_in (take i ordered) ++ entries held
  pub rest : entries_in ordered ≡ entries_in (take i ordered) ++ (entries held ++ entries_in (drop (suc i) ordered))

pub part-at : (maps : List HeldMap) (asked : Bool) (parts : List Part) (ordered : List HeldMap) (i : ℕ) (part : Part) → AreEach maps asked parts ordered → i < length parts → part ≡ get_or parts i part → AtPart maps asked ordered i part
part-at maps asked [] ordered i part each low is = absurd (omega arith)
part-at maps asked (first ∷ parts) [] i part each low is = absurd each
part-at maps asked (first ∷ parts) (held ∷ ordered) zero part each low is = record {
  held = held;
  is = subst (λ (p : Part). IsPart maps asked p held) (sym is) each.0;
  taken = append-nil (entries held);
  rest = refl;
}
part-at maps asked (first ∷ parts) (held ∷ ordered) (suc i) part each low is =
    let it = part-at maps asked parts ordered i part each.1 (omega arith) is in
    record {
      held = it.held;
      is = it.is;
      taken = ap (λ (es : List (ℕ × Blob)). entries held ++ es) it.taken ∙ sym (append_assoc (entries held) (entries_in (take i ordered)) (entries it.held));
      rest = ap (λ (es : List (ℕ × Blob)). entries held ++ es) it.rest ∙ sym (append_assoc (entries held) (entries_in (take i ordered)) (entries it.held ++ entries_in (drop (suc i) ordered)));
    }

turns-both : (Writes : Writing) (es fs : List (ℕ × Blob)) (before middle after : Known) → WritesInTurn Writes before es middle → WritesInTurn Writes middle fs after → WritesInTurn Writes before (es ++ fs) after
turns-both Writes [] fs before middle after same turns = subst (λ (k : Known). WritesInTurn Writes k fs after) same turns
turns-both Writes (e ∷ es) fs before middle after first turns = (first.0, first.1, turns-both Writes es fs first.0 middle after first.2 turns)

elements-front : (es fs : List (ℕ × Blob)) (i : ℕ) → i < length es → elements_at (es ++ fs) i ≡ elements_at es i
elements-front [] fs i low = absurd (omega arith)
elements-front (e ∷ es) fs zero low = refl
elements-front (e ∷ es) fs (suc i) low = elements-front es fs i (omega arith)

stops-front : (Writes : Writing) (before : Known) (es fs : List (ℕ × Blob)) (after : Known) (fault : ExportFault) → StopsAt Writes before es after fault → StopsAt Writes before (es ++ fs) after fault
stops-front Writes before es fs after fault stop =
    let low : stop.count < length es = stop.here in
    record {
      count = stop.count;
      middle = stop.middle;
      here = omega (arith, length-append es fs);
      turns = subst (λ (l : List (ℕ × Blob)). WritesInTurn Writes before l stop.middle) (sym (take-append-le stop.count es fs (omega arith))) stop.turns;
      stopped = subst (λ (l : List Element). WritesOne Writes stop.middle l after (Err fault)) (sym (elements-front es fs stop.count low)) stop.stopped;
    }

stops-behind : (Writes : Writing) (es fs : List (ℕ × Blob)) (before middle after : Known) (fault : ExportFault) → WritesInTurn Writes before es middle → StopsAt Writes middle fs after fault → StopsAt Writes before (es ++ fs) after fault
stops-behind Writes [] fs before middle after fault same stop = subst (λ (k : Known). StopsAt Writes k fs after fault) same stop
stops-behind Writes (e ∷ es) fs before middle after fault first stop =
    let rest = stops-behind Writes es fs first.0 middle after fault first.2 stop in
    let low : rest.count < length (es ++ fs) = rest.here in
    record { count = suc rest.count; middle = rest.middle; here = omega arith; turns = (first.0, first.1, rest.turns); stopped = rest.stopped }

module _ (Writes : Writing) (maps : List HeldMap) (asked : Bool) (parts : List Part) (ordered : List HeldMap) (i : ℕ) (part : Part) (before middle after : Known)
    (each : AreEach maps asked parts ordered) (low : i < length parts) (is : part ≡ get_or parts i part) (so_far : WritesInTurn Writes before (entries_in (take i ordered)) middle) where
  at : AtPart maps asked ordered i part
  at = part-at maps asked parts ordered i part each low is

  pub one-more : (held : HeldMap) → held ≡ (part-at maps asked parts ordered i part each low is).held → Walks Writes middle (entries held) after (Ok tt) → WritesInTurn Writes before (entries_in (take (i + 1) ordered)) after
  unfolding at
  one-more held same walk =
      subst (λ (n : ℕ). WritesInTurn Writes before (entries_in (take n ordered)) after) (sym (add-one i))
      (subst (λ (es : List (ℕ × Blob)). WritesInTurn Writes before es after) (sym at.taken)
      (turns-both Writes (entries_in (take i ordered)) (entries at.held) before middle after so_far (subst (λ (m : HeldMap). WritesInTurn Writes middle (entries m) after) same walk)))

  pub one-stops : (fault : ExportFault) → StopsAt Writes middle (entries (part-at maps asked parts ordered i part each low is).held) after fault → StopsAt Writes before (entries_in ordered) after fault
  unfolding at
  one-stops fault stop =
      subst (λ (es : List (ℕ × Blob)). StopsAt Writes before es after fault) (sym at.rest)
      (stops-behind Writes (entries_in (take i ordered)) (entries at.held ++ entries_in (drop (suc i) ordered)) before middle after fault so_far
      (stops-front Writes middle (entries at.held) (entries_in (drop (suc i) ordered)) after fault stop))

long-each : (maps : List HeldMap) (asked : Bool) (parts : List Part) (ordered : List HeldMap) → AreEach maps asked parts ordered → length ordered ≡ length parts
long-each maps asked [] [] each = refl
long-each maps asked [] (held ∷ ordered) each = absurd each
long-each maps asked (part ∷ parts) [] each = absurd each
long-each maps asked (part ∷ parts) (held ∷ ordered) each = ap suc (long-each maps asked parts ordered each.1)

pub all-turns : (Writes : Writing) (maps : List HeldMap) (asked : Bool) (parts : List Part) (ordered : List HeldMap) (i : ℕ) (before after : Known) → AreEach maps asked parts ordered → length parts ≤ i
    → WritesInTurn Writes before (entries_in (take i ordered)) after → WritesInTurn Writes before (entries_in ordered) after
all-turns Writes maps asked parts ordered i before after each long turns =
    subst (λ (l : List HeldMap). WritesInTurn Writes before (entries_in l) after) (take_all i ordered (omega (arith, long-each maps asked parts ordered each))) turns

-- ---- the whole

pub walks-whole : (Writes : Writing) (maps : List HeldMap) (asked : Bool) (parts : List Part) (whole : HeldMap) (before after : Known) (result : Result (Unit {0}) ExportFault) → (read : AreRead maps asked parts) → AreParts read.ordered whole
    → Walks Writes before (entries_in read.ordered) after result → Walks Writes before (entries whole) after result
walks-whole Writes maps asked parts whole before after result read are walk =
    subst (λ (es : List (ℕ × Blob)). Walks Writes before es after result) (sym (parts-join read.ordered whole 0 read.follow are)) walk

-- ---- why it fails

pub export-closed : (old lent new first last : ℕ) (failed : Bool) (result : Result (Unit {0}) ExportFault) → lent ≡ old → AddsUp lent last new → ExportHasCause first last failed result → ExportHasCause old new failed result
export-closed old lent new first last failed (Ok done) same adds cause = tt
export-closed old lent new first last failed (Err WriteFailed) same adds cause = cause
export-closed old lent new first last failed (Err (Store fault)) same adds cause = cause-closed old lent new first last fault same adds cause
export-closed old lent new first last failed (Err BlockTooLarge) same adds cause = tt
export-closed old lent new first last failed (Err (Miscounted off)) same adds cause = tt
export-closed old lent new first last failed (Err (Incomplete from to)) same adds cause = tt
export-closed old lent new first last failed (Err (PastEnd fin)) same adds cause = tt

pub export-later : (old middle new : ℕ) (failed : Bool) (result : Result (Unit {0}) ExportFault) → old ≤ middle → ExportHasCause middle new failed result → ExportHasCause old new failed result
export-later old middle new failed (Ok done) le cause = tt
export-later old middle new failed (Err WriteFailed) le cause = cause
export-later old middle new failed (Err (Store fault)) le cause = cause-later old middle new fault le cause
export-later old middle new failed (Err BlockTooLarge) le cause = tt
export-later old middle new failed (Err (Miscounted off)) le cause = tt
export-later old middle new failed (Err (Incomplete from to)) le cause = tt
export-later old middle new failed (Err (PastEnd fin)) le cause = tt
