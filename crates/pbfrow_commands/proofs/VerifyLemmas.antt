-- Counting compared blobs one by one, and what `verify` has done.
use Rattle.std.proofs.Common.{◌≡◌, ◌≢◌, ℕ, ◌+◌, ◌<◌, ◌≤◌, ◌==◌, ◌&&◌, nat_lt, cond, Bool, true, List, [], ◌∷◌, ◌++◌, filter, length, map, Ok, Err, refl, sym, ap, subst, ◌∙◌, arith, inl, inr, append-nil, append_assoc, add-zero, zero-add, length-append}
use Rattle.std.specs.Prelude.{IfSome, is_err, codes}
use Rattle.std.specs.Fmt.{decimal}
use Rattle.std.specs.List.{count_by, sum_by}
use Rattle.std.specs.Io.KnownBytes.{Consumes, IsAtEnd, Keeps}
use Rattle.std.proofs.KnownBytes.{Consumes-nil, Consumes-trans, Consumes-whole}
use Rattle.std.proofs.lemmas.Bool.{false≢true, and_parts}
use Rattle.std.proofs.lemmas.Bool.Decides.{nat_tests}
use Rattle.std.proofs.lemmas.List.Sums.{sum_by-cons}
use Rattle.std.proofs.lemmas.List.{nil_from_length}
use Rattle.pbf_frame.specs.declared.fault.FrameFault.{FrameFault}
use Rattle.pbf_frame.specs.declared.part.TheConstants.{MAX_OFFSET}
use Rattle.osm_value.specs.Sink.{Writes}
use Rattle.osm_value.specs.declared.element.Element.{Element}
use Rattle.osm_rows.specs.Audit.{AreCountable, ShowsBlob, ShowsCounts, counts_of as counts_of_rows, elements_held}
use Rattle.osm_rows.specs.Held.{Blob, HeldMap, IsApart}
use Rattle.osm_rows.specs.Keeping.{extents_of}
use Rattle.osm_rows.specs.declared.audit.counts.Counts.{Counts as Rows}
use Rattle.osm_rows.specs.declared.fault.StoreFault.{StoreFault}
use Rattle.osm_rows.specs.declared.keeper.Extent.{Extent}
use Rattle.osm_rows.specs.declared.schema.layout.Layout.{Layout}
use Rattle.osm_reading.specs.Framings.{Known}
use Rattle.osm_import.specs.Files.{AreFrames, IsFile}
use Rattle.osm_import.specs.Files as files
use Rattle.osm_reading.specs.Faults.{number_of, name_of}
use Rattle.osm_reading.specs.Lines.{fault_line}
use Rattle.osm_reading.specs.FrameReads.{Reading, GivesFrame, Halts}
use Rattle.osm_import.specs.Step.{HasCause}
use Rattle.osm_reading.specs.declared.fault.Fault.{Fault}
use Rattle.osm_reading.specs.declared.stream.fault.Stop.{Stop}
use Rattle.osm_reading.specs.declared.stream.fault.Stop.TheVariants.{Frame, NoHeaderFirst, ReadFailed, Memory}
use Rattle.osm_reading.specs.declared.stream.fault.StreamFault.{StreamFault}
use Rattle.osm_verify.specs.Agreements.{begins}
use Rattle.osm_verify.specs.Audits.{AreEntries, CountsMore, Trees}
use Rattle.osm_verify.specs.Laws.{AreSame, AreAlone, IsExact}
use Rattle.osm_verify.specs.declared.comparing.Depth.{Depth}
use Rattle.osm_verify.specs.declared.comparing.Depth.TheVariants.{Elements}
use Rattle.osm_verify.specs.declared.comparing.Agreement.{Agreement}
use Rattle.osm_verify.specs.declared.comparing.Agreement.TheVariants.{Same, Missing, Differs}
use Rattle.osm_verify.proofs.AuditLemmas.{audited-keeps-import, audited-shows-import, entries-weaker, imported-elements}
use Rattle.osm_verify.proofs.LawLemmas.{verified-is-exact}
use Rattle.pbfrow_reading.specs.Checking.{capped}
use Rattle.pbfrow_reading.specs.CommandLines.{stop_line}
use Rattle.pbfrow_reading.specs.Walks.{Part, IsWholeFrame, joined, lines_from, AreFound, status_of}
use Rattle.pbfrow_commands.specs.Verifying.{Comparison, Compared, IsComparison, HasCompared, HasCountedRows, HasElements, HasOwnElements, HasSeen, HasSeenInput, ShowsFile, agree, rows_of, is_whole, first_extra, is_missing, is_other, counts_of, agreement_line, comparison_line, IsBroken, IsClosing, HasClosed, close_text, counts_behind, counts_line, header_line, extra_lines, compared_lines, is_agreed, ComparesBlobs, VerifiesInput}
use Rattle.pbfrow_commands.specs.declared.verify.Close.{Close}
use Rattle.pbfrow_commands.specs.declared.verify.Close.TheVariants.{Whole, Early, Broken, Unwritten}
use Rattle.pbfrow_commands.specs.declared.verify.Counts.{Counts}
use Rattle.pbfrow_commands.proofs.CommandTexts.{four-counts}
use Rattle.pbfrow_reading.proofs.Walking.{Going, found-push, joined-push, refused, tells-early, tells-nothing, lines-unwritten, status-zero}

-- ---- pieces of lines, joined

pub at_parts : (before label : List ℕ) (off : ℕ) → ((before ++ label) ++ decimal off) ++ codes "\n" ≡ before ++ (label ++ decimal off ++ codes "\n")
at_parts before label off = three before label (decimal off) (codes "\n")
  where
    three : (b p q r : List ℕ) → ((b ++ p) ++ q) ++ r ≡ b ++ (p ++ q ++ r)
    three b p q r = simp append_assoc

pub counts_parts : (before : List ℕ) (c : Counts)
    → ((((before ++ (codes "blobs " ++ decimal c.blobs)) ++ (codes " missing " ++ decimal c.missing)) ++ (codes " differs " ++ decimal c.differs)) ++ (codes " extra " ++ decimal c.extra)) ++ codes "\n" ≡ before ++ counts_line c
counts_parts before c = four-counts before (codes "blobs ") (decimal c.blobs) (codes " missing ") (decimal c.missing) (codes " differs ") (decimal c.differs) (codes " extra ") (decimal c.extra) (codes "\n")

pub fault_parts : (before : List ℕ) (at number : ℕ) (name : List ℕ) (fault : Fault) (verdict : Comparison) → verdict ≡ Err fault → number ≡ number_of fault → name ≡ name_of fault
    → before ++ fault_line number name at ≡ before ++ comparison_line at verdict
fault_parts before at number name fault verdict is numbered named =
    ap (λ n. before ++ fault_line n name at) numbered ∙ ap (λ (m : List ℕ). before ++ fault_line (number_of fault) m at) named ∙ ap (λ (v : Comparison). before ++ comparison_line at v) (sym is)

pub agreement_parts : (before : List ℕ) (at : ℕ) (agreement : Agreement) (verdict : Comparison) → verdict ≡ Ok agreement → before ++ agreement_line at agreement ≡ before ++ comparison_line at verdict
agreement_parts before at agreement verdict is = ap (λ (v : Comparison). before ++ comparison_line at v) (sym is)

-- ---- what stands behind the blobs

none-there : (blobs : List (Part Compared)) (c : Counts) → c ≡ counts_of blobs 0 → c.blobs ≡ 0 → blobs ≡ []
none-there blobs c is none =
    let capped_is : c.blobs ≡ capped (length blobs) = ap (λ (x : Counts). x.blobs) is in
    nil_from_length blobs (omega (arith, capped_is, none))

pub lack-parts : (before : List ℕ) (blobs : List (Part Compared)) (c : Counts) → c ≡ counts_of blobs 0 → c.blobs ≡ 0 → before ++ stop_line NoHeaderFirst 0 ≡ before ++ header_line blobs
lack-parts before blobs c is none = ap (λ (bs : List (Part Compared)). before ++ header_line bs) (sym (none-there blobs c is none))

pub no-lack : (before : List ℕ) (blobs : List (Part Compared)) (c : Counts) → c ≡ counts_of blobs 0 → (c.blobs ≡ 0 → ⊥) → before ≡ before ++ header_line blobs
no-lack before [] c is some = absurd (some (ap (λ (x : Counts). x.blobs) is))
no-lack before (p ∷ blobs) c is some = sym (append-nil before)

pub whole-parts : (before : List ℕ) (blobs : List (Part Compared)) (extras : List Extent) (c : Counts) → c ≡ counts_of blobs (length extras)
    → ((before ++ header_line blobs) ++ extra_lines extras) ++ counts_line c ≡ before ++ (header_line blobs ++ extra_lines extras ++ counts_line (counts_of blobs (length extras)))
whole-parts before blobs extras c is = joined-three before (header_line blobs) (extra_lines extras) (counts_line c) ∙ ap (λ (x : Counts). before ++ (header_line blobs ++ extra_lines extras ++ counts_line x)) is
  where
    joined-three : (b p q r : List ℕ) → ((b ++ p) ++ q) ++ r ≡ b ++ (p ++ q ++ r)
    joined-three b p q r = simp append_assoc

no-counts : (blobs : List (Part Compared)) (stop : Stop) → ((fault : FrameFault) → stop ≢ Frame fault) → counts_behind blobs stop ≡ []
no-counts blobs (Frame fault) other = absurd (other fault refl)
no-counts blobs NoHeaderFirst other = refl
no-counts blobs ReadFailed other = refl
no-counts blobs Memory other = refl

pub frame-end : (before : List ℕ) (blobs : List (Part Compared)) (stop : StreamFault) (fault : FrameFault) (c : Counts) → stop.fault ≡ Frame fault → c ≡ counts_of blobs 0
    → (before ++ stop_line stop.fault stop.at) ++ counts_line c ≡ before ++ close_text (Early stop) blobs
frame-end before blobs stop fault c of is =
    append_assoc before (stop_line stop.fault stop.at) (counts_line c) ∙ ap (λ (t : List ℕ). before ++ (stop_line stop.fault stop.at ++ t)) (ap counts_line is ∙ sym (ap (counts_behind blobs) of))

pub other-end : (before : List ℕ) (blobs : List (Part Compared)) (stop : StreamFault) → ((fault : FrameFault) → stop.fault ≢ Frame fault) → before ++ stop_line stop.fault stop.at ≡ before ++ close_text (Early stop) blobs
other-end before blobs stop other =
    let line = stop_line stop.fault stop.at in
    ap (λ (t : List ℕ). before ++ t) (sym (append-nil line) ∙ ap (λ (t : List ℕ). line ++ t) (sym (no-counts blobs stop.fault other)))

-- ---- how they end

-- memory was refused before a byte was read
pub closes-nothing : (depth : Depth) (held : HeldMap) (left written : Known) (failed : Bool) (before after : ℕ) (stop : StreamFault) → stop ≡ refused 0 → ComparesBlobs depth held left written written failed before after [] (Early stop)
closes-nothing depth held left written failed before after stop is =
    let told = tells-nothing (HasCompared depth held) compared_lines left written failed stop is in
    record { found = tt; behind = told.walked.behind; read = told.walked.read; closed = told.walked.ended; lines = told.lines }

pub closes-early : (depth : Depth) (held : HeldMap) (left : Known) (was now : Reading) (old mid : Known) (failed : Bool) (before after : ℕ) (blobs : List (Part Compared)) (stop : StreamFault)
    → Going (HasCompared depth held) compared_lines left was old mid failed blobs → Halts was now stop → ComparesBlobs depth held left old mid failed before after blobs (Early stop)
closes-early depth held left was now old mid failed before after blobs stop so_far halts =
    let told = tells-early (HasCompared depth held) compared_lines left was now old mid failed blobs stop so_far halts in
    record { found = told.walked.found; behind = told.walked.behind; read = told.walked.read; closed = told.walked.ended; lines = told.lines }

pub closes-broken : (depth : Depth) (held : HeldMap) (left : Known) (now : Reading) (old mid : Known) (failed : Bool) (before after : ℕ) (blobs : List (Part Compared)) (fault : StoreFault) (at : ℕ)
    → Going (HasCompared depth held) compared_lines left now old mid failed blobs → at ≡ now.offset → IsBroken before after fault → ComparesBlobs depth held left old mid failed before after blobs (Broken fault at)
closes-broken depth held left now old mid failed before after blobs fault at so_far here broken = record {
  found = so_far.found;
  behind = now.left;
  read = so_far.read;
  closed = (here ∙ so_far.stands, broken);
  lines = so_far.lines;
}

pub closes-unwritten : (depth : Depth) (held : HeldMap) (left : Known) (now : Reading) (old mid written : Known) (was failed : Bool) (before after : ℕ) (blobs : List (Part Compared))
    → failed ≡ true → Keeps mid written → Going (HasCompared depth held) compared_lines left now old mid was blobs → ComparesBlobs depth held left old written failed before after blobs Unwritten
closes-unwritten depth held left now old mid written was failed before after blobs is kept so_far = record {
  found = so_far.found;
  behind = now.left;
  read = so_far.read;
  closed = is;
  lines = lines-unwritten (HasCompared depth held) compared_lines left now old mid written was failed blobs is kept so_far;
}

-- at the end of the input, whatever the store answers there
pub closes-whole : (depth : Depth) (held : HeldMap) (left : Known) (now : Reading) (old mid : Known) (failed : Bool) (before after : ℕ) (blobs : List (Part Compared)) (end : ℕ) (close : Close)
    → Going (HasCompared depth held) compared_lines left now old mid failed blobs → IsAtEnd now.left → end ≡ now.offset → IsClosing held end before after close
    → ComparesBlobs depth held left old mid failed before after blobs close
closes-whole depth held left now old mid failed before after blobs end close so_far ended here closing =
    record { found = so_far.found; behind = now.left; read = so_far.read; closed = of-close close closing; lines = so_far.lines }
  where
    there : end ≡ length (joined blobs)
    there = here ∙ so_far.stands

    of-close : (close : Close) → IsClosing held end before after close → HasClosed held (length (joined blobs)) now.left failed before after close
    of-close (Whole extras) is = (ended, is ∙ ap (λ n. filter (begins n MAX_OFFSET) (extents_of held)) there)
    of-close (Early stop) none = absurd none
    of-close (Broken fault off) broken = (broken.0 ∙ there, broken.1)
    of-close Unwritten none = absurd none

-- a fault's cause lasts
pub cause-later : (before mid now : ℕ) (fault : StoreFault) → before ≤ mid → HasCause mid now fault → HasCause before now fault
cause-later before mid now fault le (inl memory) = inl memory
cause-later before mid now fault le (inr (inl less)) = inr (inl (omega arith))
cause-later before mid now fault le (inr (inr full)) = inr (inr full)

pub closing-later : (held : HeldMap) (at before mid now : ℕ) (close : Close) → before ≤ mid → IsClosing held at mid now close → IsClosing held at before now close
closing-later held at before mid now (Whole extras) le is = is
closing-later held at before mid now (Early stop) le none = absurd none
closing-later held at before mid now (Broken fault off) le b = (b.0, record { cause = cause-later before mid now fault le b.1.cause; own = b.1.own })
closing-later held at before mid now Unwritten le none = absurd none

-- ---- the whole

closed-on : (held : HeldMap) (at : ℕ) (left : Known) (was failed : Bool) (before now : ℕ) (close : Close) → (close ≡ Unwritten → failed ≡ was) → HasClosed held at left was before now close → HasClosed held at left failed before now close
closed-on held at left was failed before now (Whole extras) same h = h
closed-on held at left was failed before now (Early stop) same h = h
closed-on held at left was failed before now (Broken fault off) same h = h
closed-on held at left was failed before now Unwritten same h = same refl ∙ h

pub verifies-input : (depth : Depth) (held : HeldMap) (left old mid written : Known) (was failed : Bool) (before now : ℕ) (blobs : List (Part Compared)) (close : Close) (status : ℕ)
    → ComparesBlobs depth held left old mid was before now blobs close → (close ≡ Unwritten → failed ≡ was) → Writes mid was written failed (close_text close blobs)
    → status ≡ status_of (is_agreed close blobs) failed → VerifiesInput depth held left old written failed before now status
verifies-input depth held left old mid written was failed before now blobs close status told same line is = record {
  blobs = blobs;
  close = close;
  found = told.found;
  behind = told.behind;
  read = told.read;
  closed = closed-on held (length (joined blobs)) told.behind was failed before now close same told.closed;
  text = line old (lines_from compared_lines 0 blobs) told.lines;
  status_is = is;
}

-- ---- at 0

-- the frames of blobs
frames_of : List (Part Compared) → List (List ℕ)
frames_of [] = []
frames_of (p ∷ ps) = p.bytes ∷ frames_of ps

frames-joined : (ps : List (Part Compared)) → joined ps ≡ files.joined (frames_of ps)
unfolding frames_of
frames-joined [] = refl
frames-joined (p ∷ ps) = ap (λ (v : List ℕ). p.bytes ++ v) (frames-joined ps)

frames-whole : (Has : ℕ → Part Compared → Type 0) (at : ℕ) (ps : List (Part Compared)) → AreFound Has at ps → AreFrames (frames_of ps)
unfolding frames_of
frames-whole Has at [] found = tt
frames-whole Has at (p ∷ ps) found = ((p.type_name, p.blob, found.0), frames-whole Has (at + length p.bytes) ps found.2)

record AllZero (ps : List (Part Compared)) : Type 0 where
  bad : count_by (λ (q : Part Compared). is_err q.found.verdict) ps ≡ 0
  missing : count_by (λ (q : Part Compared). is_missing q.found.verdict) ps ≡ 0
  differs : count_by (λ (q : Part Compared). is_other q.found.verdict) ps ≡ 0
  extra : sum_by (λ (q : Part Compared). length q.found.extras) ps ≡ 0

zero-sum : (n m k : ℕ) → n ≡ 0 → n ≡ m + k → (m ≡ 0) × (k ≡ 0)
zero-sum n m k zero sum = (omega (arith, zero, sum), omega (arith, zero, sum))

abbrev one_if : Bool → ℕ
one_if b = cond b 1 0

verdict-same : (v : Comparison) → one_if (is_err v) ≡ 0 → one_if (is_missing v) ≡ 0 → one_if (is_other v) ≡ 0 → v ≡ Ok Same
verdict-same (Ok Same) bad missing differs = refl
verdict-same (Ok Missing) bad missing differs = absurd (omega (arith, missing))
verdict-same (Ok Differs) bad missing differs = absurd (omega (arith, differs))
verdict-same (Err fault) bad missing differs = absurd (omega (arith, bad))

first-same : (p : Part Compared) (ps : List (Part Compared)) → AllZero (p ∷ ps) → (p.found.verdict ≡ Ok Same) × (length p.found.extras ≡ 0) × AllZero ps
first-same p ps zero =
    let bad = zero-sum _ _ _ zero.bad (sum_by-cons (λ (q : Part Compared). cond (is_err q.found.verdict) 1 0) p ps) in
    let missing = zero-sum _ _ _ zero.missing (sum_by-cons (λ (q : Part Compared). cond (is_missing q.found.verdict) 1 0) p ps) in
    let differs = zero-sum _ _ _ zero.differs (sum_by-cons (λ (q : Part Compared). cond (is_other q.found.verdict) 1 0) p ps) in
    let extra = zero-sum _ _ _ zero.extra (sum_by-cons (λ (q : Part Compared). length q.found.extras) p ps) in
    (verdict-same p.found.verdict bad.0 missing.0 differs.0, extra.0, record { bad = bad.1; missing = missing.1; differs = differs.1; extra = extra.1 })

all-same : (depth : Depth) (held : HeldMap) (at : ℕ) (ps : List (Part Compared)) → AreFound (HasCompared depth held) at ps → AllZero ps → filter (begins (at + length (joined ps)) MAX_OFFSET) (extents_of held) ≡ []
    → AreSame depth held at (frames_of ps) × AreAlone held at (frames_of ps)
unfolding frames_of
all-same depth held at [] found zero none = (tt, ap (λ n. filter (begins n MAX_OFFSET) (extents_of held)) (sym (add-zero at)) ∙ none)
all-same depth held at (p ∷ ps) found zero none =
    let first = first-same p ps zero in
    let own : IsComparison depth held at p.bytes (Ok Same) = subst (λ (v : Comparison). IsComparison depth held at p.bytes v) first.0 found.1.judged in
    let inside : p.found.extras ≡ filter (begins (at + 1) (at + length p.bytes)) (extents_of held)
    = found.1.extras ∙ ap (λ (v : Comparison). filter (begins (first_extra at v) (at + length p.bytes)) (extents_of held)) first.0 in
    let there : at + length p.bytes + length (joined ps) ≡ at + length (joined (p ∷ ps)) = omega (arith, length-append p.bytes (joined ps)) in
    let rest = all-same depth held (at + length p.bytes) ps found.2 first.2 (ap (λ n. filter (begins n MAX_OFFSET) (extents_of held)) there ∙ none) in (
      (own, rest.0),
      (sym inside ∙ nil_from_length p.found.extras first.1, rest.1),
    )

capped-zero : (c n : ℕ) → c ≡ capped n → c ≡ 0 → n ≡ 0
capped-zero c n is zero = omega (arith, is, zero)

eq-zero : (n : ℕ) → (n == 0) ≡ true → n ≡ 0
eq-zero n is = grind (arith, nat_tests)

lt-zero : (n : ℕ) → nat_lt 0 n ≡ true → 0 < n
lt-zero n is = grind (arith, nat_tests)

some-frames : (ps : List (Part Compared)) → 0 < capped (length ps) → frames_of ps ≢ []
unfolding frames_of
some-frames [] some none = omega arith
some-frames (p ∷ ps) some none = (let bad : p.bytes ∷ frames_of ps ≡ [] = none in cc)

record Agreed (ps : List (Part Compared)) (behind : ℕ) : Type 0 where
  zeros : AllZero ps
  none : behind ≡ 0
  some : 0 < capped (length ps)

agreed-all : (ps : List (Part Compared)) (behind : ℕ) → agree (counts_of ps behind) ≡ true → Agreed ps behind
agreed-all ps behind agreed =
    let c = counts_of ps behind in
    let one = and_parts (nat_lt 0 c.blobs) ((c.bad == 0 && c.missing == 0) && (c.differs == 0 && c.extra == 0)) agreed in
    let two = and_parts (c.bad == 0 && c.missing == 0) (c.differs == 0 && c.extra == 0) one.1 in
    let left_two = and_parts (c.bad == 0) (c.missing == 0) two.0 in
    let right_two = and_parts (c.differs == 0) (c.extra == 0) two.1 in
    let sums = zero-sum _ (sum_by (λ (q : Part Compared). length q.found.extras) ps) behind (capped-zero c.extra _ refl (eq-zero c.extra right_two.1)) refl in
    record {
      zeros = record {
        bad = capped-zero c.bad _ refl (eq-zero c.bad left_two.0);
        missing = capped-zero c.missing _ refl (eq-zero c.missing left_two.1);
        differs = capped-zero c.differs _ refl (eq-zero c.differs right_two.0);
        extra = sums.0;
      };
      none = sums.1;
      some = lt-zero c.blobs one.0;
    }

pub exact-at-zero : (depth : Depth) (held : HeldMap) (left old written : Known) (failed : Bool) (before now status : ℕ) → IsApart held → VerifiesInput depth held left old written failed before now status → status ≡ 0
    → IfSome left (λ bytes. (frames : List (List ℕ)) × IsFile bytes frames × IsExact depth held frames)
exact-at-zero depth held left old written failed before now status apart h zero =
    let well = status-zero (is_agreed h.close h.blobs) failed status h.status_is zero in
    of-close h.close refl well.0
  where
    of-close : (close : Close) → h.close ≡ close → is_agreed close h.blobs ≡ true → IfSome left (λ bytes. (frames : List (List ℕ)) × IsFile bytes frames × IsExact depth held frames)
    of-close (Early stop) is agreed = absurd (false≢true agreed)
    of-close (Broken fault at) is agreed = absurd (false≢true agreed)
    of-close Unwritten is agreed = absurd (false≢true agreed)
    of-close (Whole extras) is agreed =
        let closed : IsAtEnd h.behind × (extras.items ≡ filter (begins (length (joined h.blobs)) MAX_OFFSET) (extents_of held))
        = subst (λ (close : Close). HasClosed held (length (joined h.blobs)) h.behind failed before now close) is h.closed in
        let agrees = agreed-all h.blobs (length extras.items) agreed in
        let none : filter (begins (0 + length (joined h.blobs)) MAX_OFFSET) (extents_of held) ≡ []
        = ap (λ n. filter (begins n MAX_OFFSET) (extents_of held)) (zero-add (length (joined h.blobs))) ∙ sym closed.1 ∙ nil_from_length extras.items agrees.none in
        let all = all-same depth held 0 h.blobs h.found agrees.zeros none in
        Consumes-whole left h.behind (joined h.blobs) (λ bytes. (frames : List (List ℕ)) × IsFile bytes frames × IsExact depth held frames) h.read closed.0 (
          frames_of h.blobs,
          record { some = some-frames h.blobs agrees.some; whole = frames-whole (HasCompared depth held) 0 h.blobs h.found; is_joined = frames-joined h.blobs },
          verified-is-exact depth held (frames_of h.blobs) apart (record { same = all.0; alone = all.1 }),
        )

-- ---- the rows of the tables

abbrev elements_of : List (Part Compared) → List (List Element)
elements_of ps = map (λ (p : Part Compared). p.found.elements) ps

elements-push : (ps : List (Part Compared)) (p : Part Compared) → elements_of ps ++ p.found.elements ∷ [] ≡ elements_of (ps ++ p ∷ [])
elements-push [] p = refl
elements-push (q ∷ ps) p = ap (λ (l : List (List Element)). q.found.elements ∷ l) (elements-push ps p)

pub rows-push : (ps : List (Part Compared)) (p : Part Compared) (old new : Rows) → CountsMore old p.found.elements new → old ≡ rows_of ps → new ≡ rows_of (ps ++ p ∷ [])
rows-push ps p old new more is = more (elements_of ps) is ∙ ap counts_of_rows (elements-push ps p)

found-weaker : (Has Had : ℕ → Part Compared → Type 0) → ((at : ℕ) (p : Part Compared) → Has at p → Had at p) → (at : ℕ) (ps : List (Part Compared)) → AreFound Has at ps → AreFound Had at ps
found-weaker Has Had f at [] found = tt
found-weaker Has Had f at (p ∷ ps) found = (found.0, f at p found.1, found-weaker Has Had f (at + length p.bytes) ps found.2)

own-entries : (at : ℕ) (ps : List (Part Compared)) → AreFound HasOwnElements at ps → AllZero ps → AreEntries (λ off blob. Unit {0}) at (frames_of ps) (elements_of ps)
unfolding frames_of
own-entries at [] found zero = tt
own-entries at (p ∷ ps) found zero =
    let first = first-same p ps zero in
    (subst (λ (v : Comparison). HasElements at p.bytes v p.found.elements) first.0 found.1, own-entries (at + length p.bytes) ps found.2 first.2)

seen-entries : (P : ℕ → Blob → Type 0) (at : ℕ) (ps : List (Part Compared)) → AreFound (HasSeen P Elements) at ps → AllZero ps → AreEntries P at (frames_of ps) (elements_of ps)
unfolding frames_of
seen-entries P at [] found zero = tt
seen-entries P at (p ∷ ps) found zero =
    let first = first-same p ps zero in
    (found.1 refl first.0, seen-entries P (at + length p.bytes) ps found.2 first.2)

-- where all frames are held alike and nothing else is held, the counts of their rows are those of the map
rows-alike : (held : HeldMap) (ps : List (Part Compared)) → IsApart held → AreFound (HasCompared Elements held) 0 ps → AllZero ps → filter (begins (0 + length (joined ps)) MAX_OFFSET) (extents_of held) ≡ []
    → rows_of ps ≡ counts_of_rows (elements_held held)
rows-alike held ps apart found zeros none =
    let same = all-same Elements held 0 ps found zeros none in
    let exact = verified-is-exact Elements held (frames_of ps) apart (record { same = same.0; alone = same.1 }) in
    let own = own-entries 0 ps (found-weaker (HasCompared Elements held) HasOwnElements (λ at p has. has.elements_are) 0 ps found) zeros in
    ap counts_of_rows (sym (imported-elements (λ off blob. Unit {0}) held (frames_of ps) (elements_of ps) own exact))

pub rows-held : (depth : Depth) (held : HeldMap) (ps : List (Part Compared)) (end : ℕ) (c : Counts) (rows : Rows) → IsApart held → AreFound (HasCompared depth held) 0 ps → end ≡ length (joined ps) → c ≡ counts_of ps 0 → rows ≡ rows_of ps
    → depth ≡ Elements → agree c ≡ true → filter (begins end MAX_OFFSET) (extents_of held) ≡ [] → rows ≡ counts_of_rows (elements_held held)
rows-held depth held ps end c rows apart found here counted rows_are deep agreed none =
    let all = agreed-all ps 0 (sym (ap agree counted) ∙ agreed) in
    let behind : filter (begins (0 + length (joined ps)) MAX_OFFSET) (extents_of held) ≡ [] = ap (λ n. filter (begins n MAX_OFFSET) (extents_of held)) (zero-add (length (joined ps)) ∙ sym here) ∙ none in
    rows_are ∙ rows-alike held ps apart (subst (λ (d : Depth). AreFound (HasCompared d held) 0 ps) deep found) all.zeros behind

-- ---- whatever rows they have

-- The frames so far, so counted; where the store can be trusted, they are found alike only where their rows are there.
pub record Reads (trusted : Type 0) (P : ℕ → Blob → Type 0) (depth : Depth) (left : Known) (now : Reading) (counts : Counts) (rows : Rows) (blobs : List (Part Compared)) : Type 0 where
  pub found : AreFound HasOwnElements 0 blobs
  pub stands : now.offset ≡ length (joined blobs)
  pub read : Consumes left now.left (joined blobs)
  pub counted : counts ≡ counts_of blobs 0
  pub rows_are : rows ≡ rows_of blobs
  pub seen : trusted → AreFound (HasSeen P depth) 0 blobs

pub reads-none : (trusted : Type 0) (P : ℕ → Blob → Type 0) (depth : Depth) (left : Known) (now : Reading) (counts : Counts) (rows : Rows) → now.offset ≡ 0 → now.left ≡ left → counts ≡ counts_of [] 0 → rows ≡ rows_of []
    → Reads trusted P depth left now counts rows []
reads-none trusted P depth left now counts rows here same counted rows_are =
    record { found = tt; stands = here; read = subst (λ (o : Known). Consumes left o []) (sym same) (Consumes-nil left); counted = counted; rows_are = rows_are; seen = λ trust. tt }

pub reads-more : (before trusted : Type 0) (P : ℕ → Blob → Type 0) (depth : Depth) (left : Known) (was now : Reading) (at : ℕ) (w : List ℕ) (c d : Counts) (r s : Rows) (blobs : List (Part Compared)) (p : Part Compared)
    → (trusted → before) → Reads before P depth left was c r blobs → GivesFrame was now at w → p.bytes ≡ w → IsWholeFrame p → HasOwnElements at p
    → ((bs : List (Part Compared)) → c ≡ counts_of bs 0 → d ≡ counts_of (bs ++ p ∷ []) 0) → CountsMore r p.found.elements s → (trusted → HasSeen P depth at p)
    → Reads trusted P depth left now d s (blobs ++ p ∷ [])
reads-more before trusted P depth left was now at w c d r s blobs p weaker so_far gives bytes is own counts rows seen =
    let here : at ≡ length (joined blobs) = gives.here ∙ so_far.stands in
    let there : at ≡ 0 + length (joined blobs) = here ∙ sym (zero-add (length (joined blobs))) in
    record {
      found = found-push HasOwnElements 0 blobs p so_far.found is (subst (λ k. HasOwnElements k p) there own);
      stands = gives.next ∙ omega (arith, here, ap length (joined-push blobs p), ap length bytes, length-append (joined blobs) p.bytes);
      read = subst (λ (v : List ℕ). Consumes left now.left v) (sym (joined-push blobs p))
          (Consumes-trans left was.left now.left (joined blobs) p.bytes so_far.read (subst (λ (v : List ℕ). Consumes was.left now.left v) (sym bytes) gives.read));
      counted = counts blobs so_far.counted;
      rows_are = rows-push blobs p r s rows so_far.rows_are;
      seen = λ trust. found-push (HasSeen P depth) 0 blobs p (so_far.seen (weaker trust)) is (subst (λ k. HasSeen P depth k p) there (seen trust));
    }

-- at the end of the input
pub seen-whole : (before is_open has_tables : Type 0) (P : ℕ → Blob → Type 0) (layout : Layout) (first last : Trees) (depth : Depth) (left : Known) (now : Reading) (counts : Counts) (rows : Rows) (blobs : List (Part Compared)) (close : Close)
    → Reads before P depth left now counts rows blobs → IsAtEnd now.left → (is_open → before) → (is_open → (last ≡ first) × has_tables)
    → HasCountedRows is_open has_tables layout last depth counts rows close → HasSeenInput P layout first depth left counts close
seen-whole before is_open has_tables P layout first last depth left now counts rows blobs (Whole extras) so_far ended trust there counted = (
  blobs,
  record {
    found = so_far.found;
    behind = now.left;
    read = so_far.read;
    ended = ended;
    counted = so_far.counted;
    shown = λ deep agreed none few.
        let told = counted deep agreed none (subst (λ (r : Rows). AreCountable r) (sym so_far.rows_are) few) in
        let same = there told.0 in
        (so_far.seen (trust told.0), subst (λ (r : Rows). ShowsCounts layout first r) so_far.rows_are (subst (λ (db : Trees). ShowsCounts layout db rows) same.0 (told.1 same.1)));
  },
)
seen-whole before is_open has_tables P layout first last depth left now counts rows blobs (Early stop) so_far ended trust there counted = tt
seen-whole before is_open has_tables P layout first last depth left now counts rows blobs (Broken fault at) so_far ended trust there counted = tt
seen-whole before is_open has_tables P layout first last depth left now counts rows blobs Unwritten so_far ended trust there counted = tt

pub shown-at-zero : (P : ℕ → Blob → Type 0) (layout : Layout) (db : Trees) (shows : (off : ℕ) (blob : Blob) → P off blob → ShowsBlob layout db off blob) (left : Known) (c : Counts) (close : Close) (failed : Bool) (status : ℕ) → HasSeenInput P layout db Elements left c close → is_whole close ≡ true
    → ((blobs : List (Part Compared)) → c ≡ counts_of blobs 0 → status ≡ status_of (is_agreed close blobs) failed) → status ≡ 0
    → IfSome left (λ bytes. (frames : List (List ℕ)) × IsFile bytes frames × ShowsFile P layout db frames)
shown-at-zero P layout db shows left c (Early stop) failed status seen whole line zero = absurd (false≢true whole)
shown-at-zero P layout db shows left c (Broken fault at) failed status seen whole line zero = absurd (false≢true whole)
shown-at-zero P layout db shows left c Unwritten failed status seen whole line zero = absurd (false≢true whole)
shown-at-zero P layout db shows left c (Whole extras) failed status seen whole line zero =
    let blobs = seen.0 in
    let h = seen.1 in
    let well = status-zero (is_agreed (Whole extras) blobs) failed status (line blobs h.counted) zero in
    let all = agreed-all blobs (length extras.items) well.0 in
    let none : extras.items ≡ [] = nil_from_length extras.items all.none in
    let agreed : agree c ≡ true = ap agree (h.counted ∙ ap (counts_of blobs) (sym all.none)) ∙ well.0 in
    Consumes-whole left h.behind (joined blobs) (λ bytes. (frames : List (List ℕ)) × IsFile bytes frames × ShowsFile P layout db frames) h.read h.ended (
      frames_of blobs,
      record { some = some-frames blobs all.some; whole = frames-whole HasOwnElements 0 blobs h.found; is_joined = frames-joined blobs },
      record {
        blobs = elements_of blobs;
        are = own-entries 0 blobs h.found all.zeros;
        kept = λ few. let shown = h.shown refl agreed none few in audited-keeps-import P layout db (frames_of blobs) (elements_of blobs) (seen-entries P 0 blobs shown.0 all.zeros) shown.1;
        imported = λ few.
            let shown = h.shown refl agreed none few in
            audited-shows-import layout db (frames_of blobs)
            (record { blobs = elements_of blobs; shown = entries-weaker P (ShowsBlob layout db) shows 0 (frames_of blobs) (elements_of blobs) (seen-entries P 0 blobs shown.0 all.zeros); counted = shown.1 });
      },
    )
