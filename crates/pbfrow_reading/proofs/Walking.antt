-- Going over the frames of an input one by one, as a loop does.
use Rattle.std.proofs.Common.{◌≡◌, ℕ, ◌+◌, ◌&&◌, Bool, true, false, List, [], ◌∷◌, ◌++◌, length, refl, sym, ap, subst, ◌∙◌, arith, append_assoc, append-nil, length-append, add-zero, zero-add}
use Rattle.std.proofs.lemmas.Bool.{false≢true}
use Rattle.std.specs.Io.KnownBytes.{Consumes, Keeps}
use Rattle.std.proofs.KnownBytes.{Appends-kept, Consumes-trans, Consumes-nil}
use Rattle.osm_value.specs.Sink.{Wrote, Writes}
use Rattle.osm_value.proofs.SinkLemmas.{Appends-from_keeps, Wrote-append, Wrote-text, started, whole_text}
use Rattle.osm_reading.specs.Framings.{Known}
use Rattle.osm_reading.specs.FrameReads.{Reading, GivesFrame, Halts, LacksFrame, framing_of}
use Rattle.osm_reading.specs.declared.stream.fault.StreamFault.{StreamFault}
use Rattle.osm_reading.specs.declared.stream.fault.Stop.TheVariants.{Memory}
use Rattle.pbfrow_reading.specs.Walks.{Part, IsWholeFrame, joined, lines_from, AreFound, HasEnded, ReadsFrames, TellsFrames, is_whole, status_of}
use Rattle.pbfrow_reading.specs.declared.input.Ending.{Ending}
use Rattle.pbfrow_reading.specs.declared.input.Ending.TheVariants.{Whole, Early, Unwritten}

-- ---- one frame more

pub joined-push : {A : Type 0} (ps : List (Part A)) (p : Part A) → joined (ps ++ p ∷ []) ≡ joined ps ++ p.bytes
joined-push [] p = append-nil p.bytes
joined-push (q ∷ ps) p = ap (λ (v : List ℕ). q.bytes ++ v) (joined-push ps p) ∙ sym (append_assoc q.bytes (joined ps) p.bytes)

pub place : {A : Type 0} (at : ℕ) (q : Part A) (ps : List (Part A)) → at + length q.bytes + length (joined ps) ≡ at + length (joined (q ∷ ps))
place at q ps = omega (arith, length-append q.bytes (joined ps))

lines-push : {A : Type 0} (line : ℕ → Part A → List ℕ) (at : ℕ) (ps : List (Part A)) (p : Part A) → lines_from line at (ps ++ p ∷ []) ≡ lines_from line at ps ++ line (at + length (joined ps)) p
lines-push line at [] p = append-nil (line at p) ∙ ap (λ k. line k p) (sym (add-zero at))
lines-push line at (q ∷ ps) p =
    ap (λ (v : List ℕ). line at q ++ v) (lines-push line (at + length q.bytes) ps p ∙ ap (λ k. lines_from line (at + length q.bytes) ps ++ line k p) (place at q ps))
    ∙ sym (append_assoc (line at q) (lines_from line (at + length q.bytes) ps) (line (at + length (joined (q ∷ ps))) p))

pub found-push : {A : Type 0} (Has : ℕ → Part A → Type 0) (at : ℕ) (ps : List (Part A)) (p : Part A) → AreFound Has at ps → IsWholeFrame p → Has (at + length (joined ps)) p → AreFound Has at (ps ++ p ∷ [])
found-push Has at [] p all is has = (is, subst (λ k. Has k p) (add-zero at) has, tt)
found-push Has at (q ∷ ps) p all is has = (all.0, all.1, found-push Has (at + length q.bytes) ps p all.2 is (subst (λ k. Has k p) (sym (place at q ps)) has))

-- ---- the frames so far, with their lines

pub record Going {A : Type 0} (Has : ℕ → Part A → Type 0) (line : ℕ → Part A → List ℕ) (left : Known) (now : Reading) (written_old written_now : Known) (failed : Bool) (frames : List (Part A)) : Type 0 where
  pub found : AreFound Has 0 frames
  pub stands : now.offset ≡ length (joined frames)
  pub read : Consumes left now.left (joined frames)
  pub lines : Wrote written_old (lines_from line 0 frames) written_now failed

pub going-none : {A : Type 0} (Has : ℕ → Part A → Type 0) (line : ℕ → Part A → List ℕ) (left written : Known) (now : Reading) (failed : Bool) → now.offset ≡ 0 → now.left ≡ left → Going Has line left now written written failed []
going-none Has line left written now failed here same = record {
  found = tt;
  stands = here;
  read = subst (λ (o : Known). Consumes left o []) (sym same) (Consumes-nil left);
  lines = started written failed;
}

-- the output keeps what it holds, and goes on
wrote-kept : (start : Known) (text : List ℕ) (mid now : Known) (was failed : Bool) → was ≡ false → Wrote start text mid was → Keeps mid now → Wrote start text now failed
wrote-kept start text mid now was failed fine h kept =
    Wrote-text start (text ++ []) text now failed (append-nil text) (Wrote-append start text [] mid now failed (whole_text start mid text was fine h) (Appends-from_keeps mid now kept))

-- it has failed
wrote-failed : (start : Known) (text : List ℕ) (mid now : Known) (was : Bool) → Wrote start text mid was → Keeps mid now → Wrote start text now true
wrote-failed start text mid now false h kept = wrote-kept start text mid now false true refl h kept
wrote-failed start text mid now true h kept = (h.0, h.1, h.2, Appends-kept start mid now h.0 h.3 kept)

pub going-on : {A : Type 0} (Has : ℕ → Part A → Type 0) (line : ℕ → Part A → List ℕ) (left : Known) (was now : Reading) (old mid written : Known) (before failed : Bool) (frames : List (Part A))
    → now ≡ was → before ≡ false → Keeps mid written → Going Has line left was old mid before frames → Going Has line left now old written failed frames
going-on Has line left was now old mid written before failed frames same fine kept so_far =
    subst (λ (r : Reading). Going Has line left r old written failed frames) (sym same) (record {
      found = so_far.found;
      stands = so_far.stands;
      read = so_far.read;
      lines = wrote-kept old (lines_from line 0 frames) mid written before failed fine so_far.lines kept;
    })

pub going-more : {A : Type 0} (Has : ℕ → Part A → Type 0) (line : ℕ → Part A → List ℕ) (left : Known) (was now : Reading) (at : ℕ) (w : List ℕ) (old mid written : Known) (before failed : Bool) (frames : List (Part A)) (p : Part A)
    → Going Has line left was old mid before frames → GivesFrame was now at w → p.bytes ≡ w → IsWholeFrame p → Has at p → Writes mid before written failed (line at p) → Going Has line left now old written failed (frames ++ p ∷ [])
going-more Has line left was now at w old mid written before failed frames p so_far gives bytes is has writes =
    let here : at ≡ length (joined frames) = gives.here ∙ so_far.stands in
    let there : at ≡ 0 + length (joined frames) = here ∙ sym (zero-add (length (joined frames))) in
    record {
      found = found-push Has 0 frames p so_far.found is (subst (λ k. Has k p) there has);
      stands = gives.next ∙ omega (arith, here, ap length (joined-push frames p), ap length bytes, length-append (joined frames) p.bytes);
      read = subst (λ (v : List ℕ). Consumes left now.left v) (sym (joined-push frames p))
          (Consumes-trans left was.left now.left (joined frames) p.bytes so_far.read (subst (λ (v : List ℕ). Consumes was.left now.left v) (sym bytes) gives.read));
      lines = Wrote-text old (lines_from line 0 frames ++ line at p) (lines_from line 0 (frames ++ p ∷ [])) written failed
          (ap (λ k. lines_from line 0 frames ++ line k p) there ∙ sym (lines-push line 0 frames p)) (writes old (lines_from line 0 frames) so_far.lines);
    }

-- ---- how they end

-- the next frame can't be read
pub tells-early : {A : Type 0} (Has : ℕ → Part A → Type 0) (line : ℕ → Part A → List ℕ) (left : Known) (was now : Reading) (old written : Known) (failed : Bool) (frames : List (Part A)) (stop : StreamFault)
    → Going Has line left was old written failed frames → Halts was now stop → TellsFrames Has line left old written failed frames (Early stop)
tells-early Has line left was now old written failed frames stop so_far halts = record {
  walked = record {
    found = so_far.found;
    behind = was.left;
    read = so_far.read;
    ended = (halts.here ∙ so_far.stands, (halts.got, halts.behind, now.has_failed, halts.read, subst (λ n. LacksFrame (framing_of n halts.got) halts.behind now.has_failed stop.fault) so_far.stands halts.why));
  };
  lines = so_far.lines;
}

abbrev pub refused : ℕ → StreamFault
refused at = record { fault = Memory; at = at }

-- memory was refused for what is in the next frame
unfoldable pub walks-refused : {A : Type 0} (Has : ℕ → Part A → Type 0) (line : ℕ → Part A → List ℕ) (left : Known) (was now : Reading) (at : ℕ) (w : List ℕ) (old mid : Known) (before failed : Bool) (frames : List (Part A))
    → Going Has line left was old mid before frames → GivesFrame was now at w → ReadsFrames Has left failed frames (Early (refused at))
walks-refused Has line left was now at w old mid before failed frames so_far gives =
    record { found = so_far.found; behind = was.left; read = so_far.read; ended = (gives.here ∙ so_far.stands, (w, now.left, false, gives.read, tt)) }

pub tells-refused : {A : Type 0} (Has : ℕ → Part A → Type 0) (line : ℕ → Part A → List ℕ) (left : Known) (was now : Reading) (at : ℕ) (w : List ℕ) (old mid : Known) (failed : Bool) (frames : List (Part A)) (ending : Ending)
    → Going Has line left was old mid failed frames → GivesFrame was now at w → ending ≡ Early (refused at) → TellsFrames Has line left old mid failed frames ending
tells-refused Has line left was now at w old mid failed frames ending so_far gives is = record {
  walked = subst (λ (e : Ending). ReadsFrames Has left failed frames e) (sym is) (walks-refused Has line left was now at w old mid failed failed frames so_far gives);
  lines = so_far.lines;
}

-- memory was refused before a byte was read
pub walks-nothing : {A : Type 0} (Has : ℕ → Part A → Type 0) (left : Known) (failed : Bool) (stop : StreamFault) → stop ≡ refused 0 → ReadsFrames Has left failed [] (Early stop)
walks-nothing Has left failed stop is = subst (λ (s : StreamFault). ReadsFrames Has left failed [] (Early s)) (sym is)
    (record { found = tt; behind = left; read = Consumes-nil left; ended = (refl, ([], left, false, Consumes-nil left, tt)) })

pub tells-nothing : {A : Type 0} (Has : ℕ → Part A → Type 0) (line : ℕ → Part A → List ℕ) (left written : Known) (failed : Bool) (stop : StreamFault) → stop ≡ refused 0 → TellsFrames Has line left written written failed [] (Early stop)
tells-nothing Has line left written failed stop is = record { walked = walks-nothing Has left failed stop is; lines = started written failed }

-- the output has failed
pub walks-unwritten : {A : Type 0} (Has : ℕ → Part A → Type 0) (line : ℕ → Part A → List ℕ) (left : Known) (now : Reading) (old mid : Known) (before failed : Bool) (frames : List (Part A))
    → failed ≡ true → Going Has line left now old mid before frames → ReadsFrames Has left failed frames Unwritten
walks-unwritten Has line left now old mid before failed frames is so_far = record { found = so_far.found; behind = now.left; read = so_far.read; ended = is }

pub lines-unwritten : {A : Type 0} (Has : ℕ → Part A → Type 0) (line : ℕ → Part A → List ℕ) (left : Known) (now : Reading) (old mid written : Known) (before failed : Bool) (frames : List (Part A))
    → failed ≡ true → Keeps mid written → Going Has line left now old mid before frames → Wrote old (lines_from line 0 frames) written failed
lines-unwritten Has line left now old mid written before failed frames is kept so_far =
    subst (λ f. Wrote old (lines_from line 0 frames) written f) (sym is) (wrote-failed old (lines_from line 0 frames) mid written before so_far.lines kept)

pub tells-unwritten : {A : Type 0} (Has : ℕ → Part A → Type 0) (line : ℕ → Part A → List ℕ) (left : Known) (now : Reading) (old mid written : Known) (before failed : Bool) (frames : List (Part A))
    → failed ≡ true → Keeps mid written → Going Has line left now old mid before frames → TellsFrames Has line left old written failed frames Unwritten
tells-unwritten Has line left now old mid written before failed frames is kept so_far = record {
  walked = walks-unwritten Has line left now old mid before failed frames is so_far;
  lines = lines-unwritten Has line left now old mid written before failed frames is kept so_far;
}

-- ---- what is written behind them

-- where the output had failed, it still has
pub ended-on : (at : ℕ) (left : Known) (before failed : Bool) (ending : Ending) → (ending ≡ Unwritten → failed ≡ before) → HasEnded at left before ending → HasEnded at left failed ending
ended-on at left before failed Whole same h = h
ended-on at left before failed (Early stop) same h = h
ended-on at left before failed Unwritten same h = same refl ∙ h

unfoldable pub walks-on : {A : Type 0} (Has : ℕ → Part A → Type 0) (left : Known) (before failed : Bool) (frames : List (Part A)) (ending : Ending) → (ending ≡ Unwritten → failed ≡ before) → ReadsFrames Has left before frames ending → ReadsFrames Has left failed frames ending
walks-on Has left before failed frames ending same h =
    record { found = h.found; behind = h.behind; read = h.read; ended = ended-on (length (joined frames)) h.behind before failed ending same h.ended }

-- ---- the exit status

pub and-true : (b : Bool) → (b && true) ≡ b
and-true true = refl
and-true false = refl

pub status-zero : (well failed : Bool) (status : ℕ) → status ≡ status_of well failed → status ≡ 0 → (well ≡ true) × (failed ≡ false)
status-zero true false status is zero = (refl, refl)
status-zero true true status is zero = absurd (omega arith)
status-zero false failed status is zero = absurd (omega arith)

pub ended-whole : (ending : Ending) → is_whole ending ≡ true → ending ≡ Whole
ended-whole Whole is = refl
ended-whole (Early stop) is = absurd (false≢true is)
ended-whole Unwritten is = absurd (false≢true is)
