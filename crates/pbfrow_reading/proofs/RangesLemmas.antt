-- From the frames that were read, one by one, to the ranges that are cut of them.
use Rattle.std.proofs.Common.{◌≡◌, ℕ, ◌+◌, ◌-◌, ◌<◌, ◌&&◌, Bool, true, false, List, [], ◌∷◌, ◌++◌, length, Option, refl, sym, ap, subst, ◌∙◌, arith, add-zero, append-nil, length-append}
use Rattle.std.specs.Prelude.{IfSome, slice_get, unwrap_or}
use Rattle.std.specs.Io.KnownBytes.{Appends, Consumes}
use Rattle.std.proofs.KnownBytes.{Consumes-nil, Consumes-trans, Consumes-whole}
use Rattle.osm_value.specs.Sink.{Wrote, Writes}
use Rattle.osm_value.proofs.SinkLemmas.{started, whole_text, Wrote-text}
use Rattle.osm_reading.specs.Framings.{Known}
use Rattle.osm_reading.specs.FrameReads.{Reading, GivesFrame, Halts, LacksFrame, framing_of}
use Rattle.osm_reading.specs.declared.stream.fault.StreamFault.{StreamFault}
use Rattle.pbf_frame.specs.Cutting.{AreEnds, AreRanges, last_end}
use Rattle.pbf_frame.specs.declared.ranges.Range.{Range}
use Rattle.pbf_frame.proofs.CuttingLemmas.{last_end-get, last_end-push}
use Rattle.pbfrow_reading.specs.Listing.{Plain, HasAny}
use Rattle.pbfrow_reading.specs.Ranging.{AreCut, Cuts, CutsInput, ends_from, range_lines}
use Rattle.pbfrow_reading.specs.Walks.{joined, AreFound, ReadsFrames, is_whole, ending_line, status_of}
use Rattle.pbfrow_reading.specs.declared.input.Ending.{Ending}
use Rattle.pbfrow_reading.specs.declared.input.Ending.TheVariants.{Whole, Early, Unwritten}
use Rattle.pbfrow_reading.proofs.ListLemmas.{are-parts}
use Rattle.pbfrow_reading.proofs.Walking.{ended-whole, found-push, joined-push, place, refused, status-zero, walks-on}

-- ---- the ends of frames

ends-push : (from : ℕ) (ends : List ℕ) (end : ℕ) → AreEnds from ends → last_end from ends < end → AreEnds from (ends ++ end ∷ [])
ends-push from [] end are next = (next, tt)
ends-push from (e ∷ ends) end are next = (are.0, ends-push e ends end are.1 next)

ends_from-push : (at : ℕ) (ps : List Plain) (p : Plain) → ends_from at (ps ++ p ∷ []) ≡ ends_from at ps ++ (at + length (joined ps) + length p.bytes) ∷ []
ends_from-push at [] p = ap (λ n. (n + length p.bytes) ∷ []) (sym (add-zero at))
ends_from-push at (q ∷ ps) p =
    ap (λ (v : List ℕ). (at + length q.bytes) ∷ v) (ends_from-push (at + length q.bytes) ps p ∙ ap (λ n. ends_from (at + length q.bytes) ps ++ (n + length p.bytes) ∷ []) (place at q ps))

pub last_end-ends_from : (at : ℕ) (ps : List Plain) → last_end at (ends_from at ps) ≡ at + length (joined ps)
last_end-ends_from at [] = sym (add-zero at)
last_end-ends_from at (p ∷ ps) = last_end-ends_from (at + length p.bytes) ps ∙ place at p ps

-- ---- the frames so far

pub record Passing (left : Known) (now : Reading) (frames : List Plain) (ends : List ℕ) : Type 0 where
  pub found : AreFound HasAny 0 frames
  pub stands : now.offset ≡ length (joined frames)
  pub read : Consumes left now.left (joined frames)
  pub are_ends : AreEnds 0 ends
  pub last : last_end 0 ends ≡ now.offset
  pub ends_are : ends ≡ ends_from 0 frames

pub passing-none : (left : Known) (now : Reading) (ends : List ℕ) → now.offset ≡ 0 → now.left ≡ left → ends ≡ [] → Passing left now [] ends
passing-none left now ends here same none = record {
  found = tt;
  stands = here;
  read = subst (λ (o : Known). Consumes left o []) (sym same) (Consumes-nil left);
  are_ends = subst (λ (e : List ℕ). AreEnds 0 e) (sym none) tt;
  last = ap (last_end 0) none ∙ sym here;
  ends_are = none;
}

-- the frame that was given, in which nothing is looked for
abbrev pub given : (was now : Reading) (at : ℕ) (w : List ℕ) → GivesFrame was now at w → Plain
given was now at w gives = record { type_name = gives.whole.0; blob = gives.whole.1; bytes = w; found = tt }

pub passing-more : (left : Known) (was now : Reading) (at end : ℕ) (w : List ℕ) (frames : List Plain) (ends after : List ℕ) (gives : GivesFrame was now at w)
    → end ≡ at + length w → after ≡ ends ++ end ∷ [] → Passing left was frames ends → Passing left now (frames ++ given was now at w gives ∷ []) after
passing-more left was now at end w frames ends after gives end-is after-is so_far =
    let p : Plain = given was now at w gives in
    let here : at ≡ length (joined frames) = gives.here ∙ so_far.stands in
    let behind : last_end 0 ends < end = omega (arith, so_far.last, gives.here, gives.some, end-is) in
    let place_is : end ≡ 0 + length (joined frames) + length w = omega (arith, here, end-is) in record {
      found = found-push HasAny 0 frames p so_far.found gives.whole.2 tt;
      stands = omega (arith, gives.next, here, ap length (joined-push frames p), length-append (joined frames) w);
      read = subst (λ (v : List ℕ). Consumes left now.left v) (sym (joined-push frames p)) (Consumes-trans left was.left now.left (joined frames) w so_far.read gives.read);
      are_ends = subst (λ (e : List ℕ). AreEnds 0 e) (sym after-is) (ends-push 0 ends end so_far.are_ends behind);
      last = ap (last_end 0) after-is ∙ last_end-push 0 ends end ∙ end-is ∙ sym gives.next;
      ends_are = after-is ∙ ap (λ (e : List ℕ). e ++ end ∷ []) so_far.ends_are ∙ ap (λ n. ends_from 0 frames ++ n ∷ []) place_is ∙ sym (ends_from-push 0 frames p);
    }

-- ---- how they end

abbrev pub WalksTo : Known → List Plain → Ending → Type 0
WalksTo left frames ending = ReadsFrames HasAny left false frames ending

pub passed-early : (left : Known) (was now : Reading) (frames : List Plain) (ends : List ℕ) (stop : StreamFault) → Passing left was frames ends → Halts was now stop → WalksTo left frames (Early stop)
passed-early left was now frames ends stop so_far halts = record {
  found = so_far.found;
  behind = was.left;
  read = so_far.read;
  ended = (halts.here ∙ so_far.stands, (halts.got, halts.behind, now.has_failed, halts.read, subst (λ n. LacksFrame (framing_of n halts.got) halts.behind now.has_failed stop.fault) so_far.stands halts.why));
}

-- memory was refused behind the last frame
pub cut-refused : (left : Known) (frames : List Plain) (ends : List ℕ) (at : ℕ) (stop : StreamFault) → WalksTo left frames Whole → ends ≡ ends_from 0 frames → at ≡ last_end 0 ends → stop ≡ refused at → WalksTo left frames (Early stop)
cut-refused left frames ends at stop walked ends-are at-is is =
    let end : at ≡ length (joined frames) = omega (arith, at-is, ap (last_end 0) ends-are, last_end-ends_from 0 frames) in
    subst (λ (s : StreamFault). WalksTo left frames (Early s)) (sym is) (record { found = walked.found; behind = walked.behind; read = walked.read; ended = (end, ([], walked.behind, false, Consumes-nil walked.behind, tt)) })

pub last-or-none : (ends : List ℕ) → unwrap_or (slice_get ends (length ends - 1)) 0 ≡ last_end 0 ends
last-or-none [] = refl
last-or-none (end ∷ ends) = ap (λ (o : Option ℕ). unwrap_or o 0) (last_end-get 0 end ends)

-- ---- what was written

whole-written : Whole ≡ Unwritten → ⊥
whole-written same = cc

early-written : (stop : StreamFault) → Early stop ≡ Unwritten → ⊥
early-written stop same = cc

-- the lines of all ranges
pub cuts-whole : (count : ℕ) (left old mid written : Known) (before between failed : Bool) (frames : List Plain) (ranges : List Range) (status : ℕ) → WalksTo left frames Whole → AreRanges (ends_from 0 frames) count ranges
    → Writes old before mid between (range_lines ranges) → Writes mid between written failed (ending_line Whole) → status ≡ status_of (is_whole Whole && true) failed → CutsInput count left old written failed status
cuts-whole count left old mid written before between failed frames ranges status walked are lines line is = record {
  frames = frames;
  ending = Whole;
  ranges = ranges;
  walked = walks-on HasAny left false failed frames Whole (λ same. absurd (whole-written same)) walked;
  cut = are;
  text = line old (range_lines ranges) (lines old [] (started old before));
  status_is = is;
}

-- the line of what ended the frames
pub cuts-early : (count : ℕ) (left old written : Known) (before failed : Bool) (frames : List Plain) (stop : StreamFault) (status : ℕ) → WalksTo left frames (Early stop)
    → Writes old before written failed (ending_line (Early stop)) → status ≡ status_of (is_whole (Early stop) && true) failed → CutsInput count left old written failed status
cuts-early count left old written before failed frames stop status walked line is = record {
  frames = frames;
  ending = Early stop;
  ranges = [];
  walked = walks-on HasAny left false failed frames (Early stop) (λ same. absurd (early-written stop same)) walked;
  cut = refl;
  text = line old [] (started old before);
  status_is = is;
}

-- the ranges of an input of which all bytes are known
pub cuts-known : (count : ℕ) (left old written : Known) (failed : Bool) (status : ℕ) → CutsInput count left old written failed status → status ≡ 0
    → IfSome left (λ bytes. (ranges : List Range) × Cuts count bytes ranges × Appends old written (range_lines ranges))
cuts-known count left old written failed status c zero =
    let well = status-zero (is_whole c.ending) failed status c.status_is zero in
    let whole : c.ending ≡ Whole = ended-whole c.ending well.0 in
    let walked : ReadsFrames HasAny left failed c.frames Whole = subst (λ (e : Ending). ReadsFrames HasAny left failed c.frames e) whole c.walked in
    let cut : AreRanges (ends_from 0 c.frames) count c.ranges = subst (λ (e : Ending). AreCut count c.frames e c.ranges) whole c.cut in
    let text : Wrote old (range_lines c.ranges ++ []) written failed = subst (λ (e : Ending). Wrote old (range_lines c.ranges ++ ending_line e) written failed) whole c.text in
    Consumes-whole left walked.behind (joined c.frames) (λ bytes. (ranges : List Range) × Cuts count bytes ranges × Appends old written (range_lines ranges)) walked.read walked.ended (
      c.ranges,
      (c.frames, are-parts HasAny 0 c.frames walked.found, refl, cut),
      whole_text old written (range_lines c.ranges) failed well.1 (Wrote-text old (range_lines c.ranges ++ []) (range_lines c.ranges) written failed (append-nil (range_lines c.ranges)) text),
    )
