-- Counting blobs one by one, and what `check` has done.
use Rattle.std.proofs.Common.{◌≡◌, ◌≢◌, ℕ, ◌+◌, ◌-◌, ◌^◌, ◌==◌, ◌&&◌, min, cond, Bool, true, List, [], ◌∷◌, ◌++◌, length, Ok, Err, refl, sym, ap, subst, ◌∙◌, arith, append-nil, append_assoc, add-zero, ◌<◌, take, get_or}
use Rattle.std.specs.Prelude.{IfSome, is_ok, is_err}
use Rattle.std.specs.List.{count_by, flat_map}
use Rattle.std.specs.Io.KnownBytes.{Appends}
use Rattle.std.proofs.KnownBytes.{Consumes-whole}
use Rattle.std.proofs.lemmas.Bool.{false≢true, and_parts, ne_eqb}
use Rattle.std.proofs.lemmas.Bool.Decides.{nat_tests}
use Rattle.std.proofs.lemmas.List.Sums.{sum_by-cons, sum_by_push}
use Rattle.std.proofs.lemmas.List.{flat_map_more, length_push, nil_from_length, take_more}
use Rattle.osm_value.specs.Sink.{Wrote, Writes}
use Rattle.osm_value.specs.declared.element.Element.{Element}
use Rattle.pbf_frame.specs.declared.fault.FrameFault.{FrameFault}
use Rattle.osm_value.proofs.SinkLemmas.{Wrote-text, whole_text}
use Rattle.osm_reading.specs.Framings.{Known}
use Rattle.osm_reading.specs.declared.fault.Fault.{Fault}
use Rattle.osm_reading.specs.declared.stream.fault.Stop.{Stop}
use Rattle.osm_reading.specs.declared.stream.fault.Stop.TheVariants.{Frame, NoHeaderFirst, ReadFailed, Memory}
use Rattle.pbfrow_reading.specs.Checking.{ChecksInput, Passes, bad_line, capped, check_end, checked_line, counts_at_end, counts_behind, counts_of, elements_in, some_good, tally, totals_line}
use Rattle.osm_reading.specs.declared.stream.fault.StreamFault.{StreamFault}
use Rattle.pbfrow_reading.specs.CommandLines.{stop_line}
use Rattle.pbfrow_reading.specs.Verdicts.{Content, Verdict, Judged, HasVerdict, all_good}
use Rattle.pbfrow_reading.specs.Walks.{joined, lines_from, ReadsFrames, TellsFrames, is_whole, status_of}
use Rattle.pbfrow_reading.specs.declared.check.Counts.{Counts}
use Rattle.pbfrow_reading.specs.declared.input.Ending.{Ending}
use Rattle.pbfrow_reading.specs.declared.input.Ending.TheVariants.{Whole, Early, Unwritten}
use Rattle.pbfrow_reading.proofs.Walking.{walks-on, status-zero, ended-whole}

abbrev pub all_in : List Judged → List Element
all_in blobs = flat_map (λ p. elements_in p.found) blobs

abbrev pub bad_in : List Judged → ℕ
bad_in blobs = count_by (λ p. is_err p.found) blobs

-- ---- a count that stops

pub capped-more : (sum old n more : ℕ) → sum ≡ min (old + more) (2 ^ 64 - 1) → old ≡ capped n → sum ≡ capped (n + more)
capped-more sum old n more is was = omega (arith, is, was)

zero-is : (n m : ℕ) → n ≡ capped m → (n == 0) ≡ (m == 0)
zero-is n m is = grind (arith, nat_tests)

abbrev five_counts : ℕ → ℕ → ℕ → ℕ → ℕ → Counts
five_counts blobs nodes ways relations faults = record { blobs = blobs; nodes = nodes; ways = ways; relations = relations; faults = faults }

same : (a b c d e a' b' c' d' e' : ℕ) → a ≡ a' → b ≡ b' → c ≡ c' → d ≡ d' → e ≡ e' → five_counts a b c d e ≡ five_counts a' b' c' d' e'
same a b c d e a' b' c' d' e' p q r s t = rw (p, q, r, s, t) refl

-- ---- one more

count-push : {X : Type 0} (p : X → Bool) (xs : List X) (x : X) → count_by p (xs ++ x ∷ []) ≡ count_by p xs + cond (p x) 1 0
count-push p xs x = sum_by_push (λ y. cond (p y) 1 0) xs x

flat-push : {X Y : Type 0} (f : X → List Y) (xs : List X) (x : X) → flat_map f (xs ++ x ∷ []) ≡ flat_map f xs ++ f x
flat-push f xs x = sym (flat_map_more f [] xs x)

-- the counts of blobs and one more
counts-push : (blobs : List Judged) (p : Judged) → counts_of (blobs ++ p ∷ []) 0
    ≡ tally (length blobs + 1) (flat_map (λ q. elements_in q.found) blobs ++ elements_in p.found) (count_by (λ q. is_err q.found) blobs + cond (is_err p.found) 1 0 + 0)
counts-push blobs p =
    rw (length_push blobs p, flat-push (λ (q : Judged). elements_in q.found) blobs p, count-push (λ (q : Judged). is_err q.found) blobs p) refl

pub good-counted : (blobs : List Judged) (p : Judged) (content : Content) (c : Counts) → p.found ≡ Ok content
    → c ≡ tally (length blobs + 1) (flat_map (λ q. elements_in q.found) blobs ++ content.elements) (count_by (λ q. is_err q.found) blobs + 0) → c ≡ counts_of (blobs ++ p ∷ []) 0
good-counted blobs p content c is was =
    was ∙ sym (counts-push blobs p
    ∙ ap (λ (v : Verdict). tally (length blobs + 1) (flat_map (λ q. elements_in q.found) blobs ++ elements_in v) (count_by (λ q. is_err q.found) blobs + cond (is_err v) 1 0 + 0)) is
    ∙ ap (λ n. tally (length blobs + 1) (flat_map (λ q. elements_in q.found) blobs ++ content.elements) n) (omega arith))

pub bad-counted : (blobs : List Judged) (p : Judged) (fault : Fault) (c : Counts) → p.found ≡ Err fault
    → c ≡ tally (length blobs + 1) (flat_map (λ q. elements_in q.found) blobs) (count_by (λ q. is_err q.found) blobs + 0 + 1) → c ≡ counts_of (blobs ++ p ∷ []) 0
bad-counted blobs p fault c is was =
    was ∙ sym (counts-push blobs p
    ∙ ap (λ (v : Verdict). tally (length blobs + 1) (flat_map (λ q. elements_in q.found) blobs ++ elements_in v) (count_by (λ q. is_err q.found) blobs + cond (is_err v) 1 0 + 0)) is
    ∙ ap (λ (es : List Element). tally (length blobs + 1) es (count_by (λ q. is_err q.found) blobs + 1 + 0)) (append-nil (flat_map (λ q. elements_in q.found) blobs))
    ∙ ap (λ n. tally (length blobs + 1) (flat_map (λ q. elements_in q.found) blobs) n) (omega arith))

pub one-more : (blobs : List Judged) (c : Counts) → c ≡ tally (length blobs) (flat_map (λ q. elements_in q.found) blobs) (count_by (λ q. is_err q.found) blobs + 0 + 1) → c ≡ counts_of blobs 1
one-more blobs c is = is ∙ ap (λ n. tally (length blobs) (flat_map (λ q. elements_in q.found) blobs) n) (omega arith)

-- ---- what stands behind the blobs

pub none-there : (blobs : List Judged) (c : Counts) → c ≡ counts_of blobs 0 → c.blobs ≡ 0 → blobs ≡ []
none-there blobs c is none =
    let capped_is : c.blobs ≡ capped (length blobs) = ap (λ (x : Counts). x.blobs) is in
    nil_from_length blobs (omega (arith, capped_is, none))

pub some-there : (blobs : List Judged) (c : Counts) → c ≡ counts_of blobs 0 → (c.blobs ≡ 0 → ⊥) → counts_at_end blobs ≡ totals_line c
some-there [] c is some = absurd (some (ap (λ (x : Counts). x.blobs) is))
some-there (p ∷ blobs) c is some = ap totals_line (sym is)

good-or-bad : (v : Verdict) (rest : Bool) (n m : ℕ) → n ≡ cond (is_err v) 1 0 + m → rest ≡ (m == 0) → (is_ok v && rest) ≡ (n == 0)
good-or-bad (Ok content) rest n m is good = good ∙ ap (λ k. k == 0) (omega (arith, is))
good-or-bad (Err fault) rest n m is good = sym (ne_eqb n 0 (λ none. omega (arith, is, none)))

none-bad : (blobs : List Judged) → all_good blobs ≡ (count_by (λ p. is_err p.found) blobs == 0)
none-bad [] = refl
none-bad (p ∷ blobs) = good-or-bad p.found (all_good blobs) _ _ (sum_by-cons (λ (q : Judged). cond (is_err q.found) 1 0) p blobs) (none-bad blobs)

pub no-fault : (blobs : List Judged) (c : Counts) → c ≡ counts_of blobs 0 → (c.blobs ≡ 0 → ⊥) → (c.faults == 0) ≡ some_good blobs
no-fault [] c is some = absurd (some (ap (λ (x : Counts). x.blobs) is))
no-fault (p ∷ blobs) c is some =
    zero-is c.faults (count_by (λ (q : Judged). is_err q.found) (p ∷ blobs) + 0) (ap (λ (x : Counts). x.faults) is)
    ∙ ap (λ n. n == 0) (add-zero (count_by (λ (q : Judged). is_err q.found) (p ∷ blobs)))
    ∙ sym (none-bad (p ∷ blobs))

pub no-counts : (blobs : List Judged) (stop : Stop) → ((fault : FrameFault) → stop ≢ Frame fault) → counts_behind blobs stop ≡ []
no-counts blobs (Frame fault) other = absurd (other fault refl)
no-counts blobs NoHeaderFirst other = refl
no-counts blobs ReadFailed other = refl
no-counts blobs Memory other = refl

pub frame-end : (before : List ℕ) (blobs : List Judged) (stop : StreamFault) (fault : FrameFault) (c : Counts) → stop.fault ≡ Frame fault → c ≡ counts_of blobs 1
    → (before ++ stop_line stop.fault stop.at) ++ totals_line c ≡ before ++ check_end (Early stop) blobs
frame-end before blobs stop fault c of is =
    append_assoc before (stop_line stop.fault stop.at) (totals_line c) ∙ ap (λ (t : List ℕ). before ++ (stop_line stop.fault stop.at ++ t)) (ap totals_line is ∙ sym (ap (counts_behind blobs) of))

pub other-end : (before : List ℕ) (blobs : List Judged) (stop : StreamFault) → ((fault : FrameFault) → stop.fault ≢ Frame fault) → before ++ stop_line stop.fault stop.at ≡ before ++ check_end (Early stop) blobs
other-end before blobs stop other =
    let line = stop_line stop.fault stop.at in
    ap (λ (t : List ℕ). before ++ t) (sym (append-nil line) ∙ ap (λ (t : List ℕ). line ++ t) (sym (no-counts blobs stop.fault other)))

pub empty-end : (before : List ℕ) (blobs : List Judged) (old new : Counts) → old ≡ counts_of blobs 0 → old.blobs ≡ 0 → new ≡ counts_of blobs 1
    → (before ++ stop_line NoHeaderFirst 0) ++ totals_line new ≡ before ++ counts_at_end blobs
empty-end before blobs old new was none is =
    let empty : blobs ≡ [] = none-there blobs old was none in
    append_assoc before (stop_line NoHeaderFirst 0) (totals_line new)
    ∙ ap (λ (c : Counts). before ++ (stop_line NoHeaderFirst 0 ++ totals_line c)) (is ∙ ap (λ (bs : List Judged). counts_of bs 1) empty)
    ∙ ap (λ (bs : List Judged). before ++ counts_at_end bs) (sym empty)

pub element-more : (es xs : List Element) (i : ℕ) (x : Element) → i < length xs → x ≡ get_or xs i x → (es ++ take i xs) ++ x ∷ [] ≡ es ++ take (i + 1) xs
element-more es xs i x within at =
    append_assoc es (take i xs) (x ∷ []) ∙ ap (λ (l : List Element). es ++ l) (ap (λ (y : Element). take i xs ++ y ∷ []) at ∙ sym (take_more xs i x within))

-- ---- the whole

pub checks-input : (left old mid written : Known) (before failed : Bool) (blobs : List Judged) (ending : Ending) (status : ℕ) → TellsFrames HasVerdict checked_line left old mid before blobs ending → (ending ≡ Unwritten → failed ≡ before)
    → Writes mid before written failed (check_end ending blobs) → status ≡ status_of (is_whole ending && some_good blobs) failed → ChecksInput left old written failed status
checks-input left old mid written before failed blobs ending status told same line is = record {
  blobs = blobs;
  ending = ending;
  walked = walks-on HasVerdict left before failed blobs ending same told.walked;
  text = line old (lines_from checked_line 0 blobs) told.lines;
  status_is = is;
}

no-line : (at : ℕ) (v : Verdict) → is_ok v ≡ true → bad_line at v ≡ []
no-line at (Ok content) is = refl
no-line at (Err fault) is = absurd (false≢true is)

no-lines : (at : ℕ) (blobs : List Judged) → all_good blobs ≡ true → lines_from checked_line at blobs ≡ []
no-lines at [] good = refl
no-lines at (p ∷ blobs) good =
    let both = and_parts (is_ok p.found) (all_good blobs) good in
    ap (λ (v : List ℕ). v ++ lines_from checked_line (at + length p.bytes) blobs) (no-line at p.found both.0) ∙ no-lines (at + length p.bytes) blobs both.1

record SomeGood (blobs : List Judged) : Type 0 where
  some : blobs ≢ []
  good : all_good blobs ≡ true
  counted : counts_at_end blobs ≡ totals_line (counts_of blobs 0)

some-good : (blobs : List Judged) → some_good blobs ≡ true → SomeGood blobs
some-good [] is = absurd (false≢true is)
some-good (p ∷ blobs) is = record { some = λ e. absurd (omega (arith, ap length e)); good = is; counted = refl }

-- all blobs of an input of which all bytes are known
pub checks-whole : (left old written : Known) (failed : Bool) (status : ℕ) → ChecksInput left old written failed status → status ≡ 0 → IfSome left (λ bytes. (text : List ℕ) × Passes bytes text × Appends old written text)
checks-whole left old written failed status h zero =
    let well = status-zero (is_whole h.ending && some_good h.blobs) failed status h.status_is zero in
    let both = and_parts (is_whole h.ending) (some_good h.blobs) well.0 in
    let whole : h.ending ≡ Whole = ended-whole h.ending both.0 in
    let good = some-good h.blobs both.1 in
    let walked : ReadsFrames HasVerdict left failed h.blobs Whole = subst (λ (e : Ending). ReadsFrames HasVerdict left failed h.blobs e) whole h.walked in
    let lines = lines_from checked_line 0 h.blobs in
    let text : Wrote old (lines ++ counts_at_end h.blobs) written failed = subst (λ (e : Ending). Wrote old (lines ++ check_end e h.blobs) written failed) whole h.text in
    let total = totals_line (counts_of h.blobs 0) in
    let short : Wrote old total written failed = Wrote-text old (lines ++ counts_at_end h.blobs) total written failed (ap (λ (v : List ℕ). v ++ counts_at_end h.blobs) (no-lines 0 h.blobs good.good) ∙ good.counted) text in
    Consumes-whole left walked.behind (joined h.blobs) (λ bytes. (text : List ℕ) × Passes bytes text × Appends old written text) walked.read walked.ended
    (total, record { blobs = h.blobs; some = good.some; found = walked.found; good = good.good; tiled = refl; counted = refl }, whole_text old written total failed well.1 short)
