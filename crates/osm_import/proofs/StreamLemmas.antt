-- From frame to frame of a stream.
use Rattle.std.proofs.Common.{◌≡◌, ◌⊎◌, ℕ, ◌+◌, ◌<◌, ◌≤◌, ◌&&◌, eqb, cond, Bool, true, false, List, [], ◌∷◌, ◌++◌, length, Option, Some, None, Ok, Err, refl, sym, ap, subst, ◌∙◌, arith, append_assoc, append-nil, length-append}
use Rattle.std.proofs.lemmas.Bool.Decides.{nat_tests}
use Rattle.std.specs.Io.KnownBytes.{Appends, Consumes, IsAtEnd, prepend_known}
use Rattle.std.proofs.KnownBytes.{Appends-trans, Consumes-trans, prepend_known-nil, Consumes-nil, Appends-nil}
use Rattle.pbf_frame.specs.declared.fault.FrameFault.{FrameFault}
use Rattle.pbf_frame.specs.Framer.{Framing, FrameWaits, FaultStands, IsUnfinished, waiting}
use Rattle.pbf_frame.proofs.WaitingLaws.{waiting_again}
use Rattle.pbf_wire.proofs.Choices.{ok_is}
use Rattle.osm_reading.specs.Good.{IsFrame}
use Rattle.osm_import.specs.Files.{AreFrames, joined}
use Rattle.osm_import.specs.Deliveries.{DeliveryValue}
use Rattle.osm_reading.specs.Framings.{Known, HasNoFrame}
use Rattle.osm_import.specs.Flows.{Input, Output}
use Rattle.osm_import.specs.Runs.{IsFault, IsNone}
use Rattle.osm_import.specs.Lines.{told_line}
use Rattle.osm_import.specs.Streams.{Reply, frames_of, answers_of, deliveries_at, lines_at, end_at, summary_of, ended_at, IsStop, Stops, Streams}
use Rattle.osm_import.specs.StreamSteps.{FrameAnswered, FrameStop}
use Rattle.osm_import.specs.declared.answer.Answer.{Answer}
use Rattle.osm_import.specs.declared.answer.Answer.TheVariants as answers
use Rattle.osm_import.specs.declared.stream.summary.Summary.{Summary}
use Rattle.osm_import.specs.declared.stream.run.Delivered.{Delivered}
use Rattle.osm_import.specs.declared.stream.fault.ImportFault.{ImportFault}
use Rattle.osm_import.specs.declared.stream.fault.ImportFault.TheVariants.{Stream, WriteFailed, Store, BlobLimit}
use Rattle.osm_reading.specs.declared.stream.fault.Stop.TheVariants.{Frame, NoHeaderFirst, ReadFailed, Memory}
use Rattle.osm_import.proofs.RunsLemmas.{none-push}
use Rattle.osm_reading.proofs.GoodLaws.{frame-filled}
use Rattle.osm_import.proofs.WritingLemmas.{front-of-piece}
use Rattle.osm_import.proofs.StreamLists.{frames-push, answers-push, delivery_of, deliveries-push, answers-length, lines-push, end-push, frames-more, joined-push, Small, small-of}

-- ---- one frame

abbrev nothing_given : Option (ℕ × List ℕ)
nothing_given = None

pub none-waits : (f : Framing) → waiting f ≡ Ok None → FrameWaits f → ⊥
none-waits f none waits = let e : nothing_given ≡ Some (f.offset, f.rest) = ok_is {E = FrameFault} nothing_given (Some (f.offset, f.rest)) (sym none ∙ waiting_again f waits) in cc

nil-of-both : (xs ys : List ℕ) → xs ++ ys ≡ [] → ys ≡ []
nil-of-both [] ys e = e
nil-of-both (x ∷ xs) ys e = absurd cc

-- nothing is left, and nothing of the last piece
pub at-end : (before : Known) (piece : List ℕ) (left : Known) (x : List ℕ) → IsAtEnd (prepend_known piece left) → Consumes before (prepend_known piece left) x → IsAtEnd left × Consumes before left x
at-end None piece None x end h = (tt, tt)
at-end None piece (Some ys) x end h = (nil-of-both piece ys end, tt)
at-end (Some bs) piece None x end h = absurd h
at-end (Some bs) piece (Some ys) x end h = (nil-of-both piece ys end, h ∙ ap (λ (v : List ℕ). x ++ v) (end ∙ sym (nil-of-both piece ys end)))

-- what was read of the reader, with what of the last piece wasn't given on
pub unread : (before : Known) (piece : List ℕ) (left : Known) (x : List ℕ) → Consumes before (prepend_known piece left) x → Consumes before left (x ++ piece)
unread None piece left x h = tt
unread (Some bs) piece None x h = h
unread (Some bs) piece (Some ys) x h = h ∙ sym (append_assoc x piece ys)

-- ---- the frames so far

pub record InStream (tells : Answer → Bool) (from count : ℕ) (f : Framing) (before now written_old written_now : Known) (summary : Summary) (Took : List DeliveryValue → List Answer → Type 0) : Type 0 where
  pub replies : List Reply
  pub frames : AreFrames (frames_of replies)
  pub took : Took (deliveries_at from replies) (answers_of replies)
  pub answered : IsNone IsFault (answers_of replies)
  pub many : length replies ≡ count
  pub stands : f.offset ≡ end_at from replies
  pub inside : f.offset ≤ 4611686018427387904
  pub empty : f.rest ≡ []
  pub read : Consumes before now (joined (frames_of replies))
  pub lines : Appends written_old written_now (lines_at tells from replies)
  pub sums : summary ≡ summary_of (answers_of replies) (end_at from replies)
  pub next : summary.next ≡ f.offset
  pub small : Small summary count

-- the same after one more delivery
abbrev pub Grows : (List DeliveryValue → List Answer → Type 0) → (ℕ → List ℕ → Answer → Type 0) → (List DeliveryValue → List Answer → Type 0) → Type 0
Grows Then One Now = (ds : List DeliveryValue) (rs : List Answer) (off : ℕ) (bytes : List ℕ) (a : Answer) → IsNone IsFault rs → Then ds rs → One off bytes a → Now (ds ++ delivery_of off bytes ∷ []) (rs ++ a ∷ [])

took-push : (from : ℕ) (rs : List Reply) (w : List ℕ) (a : Answer) (Then Now : List DeliveryValue → List Answer → Type 0) (One : ℕ → List ℕ → Answer → Type 0) → Grows Then One Now
    → IsNone IsFault (answers_of rs) → Then (deliveries_at from rs) (answers_of rs) → (off : ℕ) → off ≡ end_at from rs → One off w a
    → Now (deliveries_at from (rs ++ (w, a) ∷ [])) (answers_of (rs ++ (w, a) ∷ []))
took-push from rs w a Then Now One grows answered took off here one =
    subst (λ (ds : List DeliveryValue). Now ds (answers_of (rs ++ (w, a) ∷ []))) (sym (deliveries-push from rs (w, a)))
    (subst (λ (xs : List Answer). Now (deliveries_at from rs ++ delivery_of (end_at from rs) w ∷ []) xs) (sym (answers-push rs (w, a)))
    (subst (λ n. Now (deliveries_at from rs ++ delivery_of n w ∷ []) (answers_of rs ++ a ∷ [])) here
    (grows (deliveries_at from rs) (answers_of rs) off w a answered took one)))

-- the summary of some answers becomes that of these and one more
abbrev pub Counts : Summary → Answer → ℕ → Summary → Type 0
Counts summary a fin next = (list : List Answer) (at : ℕ) → summary ≡ summary_of list at → next ≡ summary_of (list ++ a ∷ []) fin

pub stream-more : (from count : ℕ) (f g : Framing) (before written_old : Known) (input : Input) (output : Output) (summary next : Summary) (Then Now : List DeliveryValue → List Answer → Type 0) (One : ℕ → List ℕ → Answer → Type 0) (blob : Delivered)
    → InStream output.tells from count f before input.before written_old output.before summary Then → FrameAnswered f g input output One blob → Grows Then One Now → Counts summary blob.answer blob.fin next
    → InStream output.tells from (count + 1) g before input.after written_old output.after next Now
stream-more from count f g before written_old input output summary next Then Now One blob so_far one grows counts =
    let rs = so_far.replies in
    let r : Reply = (one.frame, blob.answer) in
    let fin : blob.fin ≡ end_at from rs + length one.frame = one.ends ∙ ap (λ n. n + length one.frame) so_far.stands in
    let sums : next ≡ summary_of (answers_of (rs ++ r ∷ [])) (end_at from (rs ++ r ∷ [])) =
    counts (answers_of rs) (end_at from rs) so_far.sums ∙ ap (λ (list : List Answer). summary_of list blob.fin) (sym (answers-push rs r))
    ∙ ap (λ n. summary_of (answers_of (rs ++ r ∷ [])) n) (fin ∙ sym (end-push from rs r)) in
    let many : length (rs ++ r ∷ []) ≡ count + 1 = length-append rs (r ∷ []) ∙ ap (λ n. n + 1) so_far.many in
    let stands : g.offset ≡ end_at from (rs ++ r ∷ []) = one.moved ∙ ap (λ n. n + length one.frame) so_far.stands ∙ sym (end-push from rs r) in
    record {
      replies = rs ++ r ∷ [];
      frames = subst AreFrames (sym (frames-push rs r)) (frames-more (frames_of rs) one.frame so_far.frames one.whole);
      took = took-push from rs one.frame blob.answer Then Now One grows so_far.answered so_far.took f.offset so_far.stands one.took;
      answered = subst (IsNone IsFault) (sym (answers-push rs r)) (none-push IsFault (answers_of rs) blob.answer so_far.answered one.answered);
      many = many;
      stands = stands;
      inside = (let fits = one.fits in let moved = one.moved in omega arith);
      empty = one.empty;
      read = subst (λ (v : List ℕ). Consumes before input.after v) (sym (ap joined (frames-push rs r) ∙ joined-push (frames_of rs) one.frame)) (Consumes-trans before input.before input.after (joined (frames_of rs)) one.frame so_far.read one.read);
      lines = subst (λ (v : List ℕ). Appends written_old output.after v) (sym (lines-push output.tells from rs r))
          (Appends-trans written_old output.before output.after (lines_at output.tells from rs) (told_line output.tells (end_at from rs) blob.answer) so_far.lines (subst (λ n. Appends output.before output.after (told_line output.tells n blob.answer)) so_far.stands one.line));
      sums = sums;
      next = ap (λ (s : Summary). s.next) sums ∙ sym stands;
      small = subst (λ (s : Summary). Small s (count + 1)) (sym sums) (subst (λ n. Small (summary_of (answers_of (rs ++ r ∷ [])) (end_at from (rs ++ r ∷ []))) n)
          (answers-length (rs ++ r ∷ []) ∙ many) (small-of (answers_of (rs ++ r ∷ [])) (end_at from (rs ++ r ∷ []))));
    }

-- ---- the end of the input

end-le : (off : ℕ) (rs : List Reply) → off ≤ end_at off rs
end-le off [] = omega arith
end-le off (r ∷ rs) = let h : off + length r.0 ≤ end_at (off + length r.0) rs = end-le (off + length r.0) rs in omega arith

no-frames : (off : ℕ) (rs : List Reply) → AreFrames (frames_of rs) → end_at off rs ≡ off → rs ≡ []
no-frames off [] frames e = refl
no-frames off (r ∷ rs) frames e =
    let long : 4 ≤ length r.0 = frame-filled frames.0.0 frames.0.1 r.0 frames.0.2 in
    let behind : off + length r.0 ≤ end_at (off + length r.0) rs = end-le (off + length r.0) rs in absurd (omega arith)

both-zero : (a b : ℕ) → (eqb a 0 && eqb b 0) ≡ true → (a ≡ 0) × (b ≡ 0)
both-zero a b e = grind (arith, nat_tests)

not-both-zero : (a b : ℕ) → (eqb a 0 && eqb b 0) ≡ false → a ≡ 0 → b ≡ 0 → ⊥
not-both-zero a b e x y = grind (arith, nat_tests)

pub stream-ends : (from limit count : ℕ) (f : Framing) (input : Input) (piece : List ℕ) (output : Output) (summary : Summary) (Took : List DeliveryValue → List Answer → Type 0)
    → InStream output.tells from count f input.before (prepend_known piece input.after) output.before output.after summary Took → IsAtEnd (prepend_known piece input.after) → count ≤ limit
    → Streams from limit input output Took (ended_at from summary)
stream-ends from limit count f input piece output summary Took so_far end few = by (eqb from 0 && eqb summary.next 0) refl
  where
    rs : List Reply
    rs = so_far.replies

    left : IsAtEnd input.after × Consumes input.before input.after (joined (frames_of rs))
    left = at-end input.before piece input.after (joined (frames_of rs)) end so_far.read

    all : rs ++ [] ≡ rs
    all = append-nil rs

    by : (b : Bool) → (eqb from 0 && eqb summary.next 0) ≡ b → Streams from limit input output Took (cond b (Err (record { fault = Stream NoHeaderFirst; at = 0 })) (Ok summary))
    by false e = record {
      replies = rs;
      frames = so_far.frames;
      took = so_far.took;
      answered = so_far.answered;
      few = (let many = so_far.many in omega arith);
      read = left.1;
      ended = left.0;
      lines = so_far.lines;
      sums = so_far.sums;
      some = λ zero_from none. not-both-zero from summary.next e zero_from (so_far.next ∙ so_far.stands ∙ ap (end_at from) none ∙ zero_from);
    }
    by true e =
        let zeros = both-zero from summary.next e in
        let none : rs ≡ [] = no-frames from rs so_far.frames (sym so_far.stands ∙ sym so_far.next ∙ zeros.1 ∙ sym zeros.0) in
        record {
          replies = rs;
          last = [];
          rest = [];
          frames = subst (λ (xs : List Reply). AreFrames (frames_of xs)) (sym all) so_far.frames;
          took = subst (λ (xs : List Reply). Took (deliveries_at from xs) (answers_of xs)) (sym all) so_far.took;
          answered = so_far.answered;
          few = (let many = so_far.many in let len = ap length all in omega arith);
          stands = sym zeros.0 ∙ sym (ap (end_at from) none);
          read = subst (λ (v : List ℕ). Consumes input.before input.after v) (sym (append-nil (joined (frames_of (rs ++ []))) ∙ ap (λ (xs : List Reply). joined (frames_of xs)) all)) left.1;
          why = (refl, zeros.0, none, refl, left.0, subst (λ (xs : List Reply). Appends output.before output.after (lines_at output.tells from xs)) none so_far.lines);
        }

-- ---- a stop

abbrev pub Stays : (List DeliveryValue → List Answer → Type 0) → Type 0 → (List DeliveryValue → List Answer → Type 0) → Type 0
Stays Then Same Now = (ds : List DeliveryValue) (rs : List Answer) → Same → Then ds rs → Now ds rs

-- a stop at which no frame was being delivered
pub stop-between : (from limit count : ℕ) (f : Framing) (input : Input) (piece : List ℕ) (mid : Known) (output : Output) (written_mid : Known) (summary : Summary) (Then Now : List DeliveryValue → List Answer → Type 0) (Same : Type 0) (fault : ImportFault) (got : List ℕ)
    → InStream output.tells from count f input.before mid output.before written_mid summary Then → Consumes mid (prepend_known piece input.after) got → Stays Then Same Now → Same → count ≤ limit
    → ((rs : List Reply) → length rs ≡ count → f.offset ≡ end_at from rs → Appends output.before written_mid (lines_at output.tells from rs) → IsStop from limit input output rs [] (got ++ piece) fault)
    → Stops from limit input output Now (record { fault = fault; at = summary.next })
stop-between from limit count f input piece mid output written_mid summary Then Now Same fault got so_far read stays same few why =
    let rs = so_far.replies in
    let all : rs ++ [] ≡ rs = append-nil rs in
    let both : Consumes input.before input.after ((joined (frames_of rs) ++ got) ++ piece) = unread input.before piece input.after (joined (frames_of rs) ++ got) (Consumes-trans input.before mid (prepend_known piece input.after) (joined (frames_of rs)) got so_far.read read) in
    record {
      replies = rs;
      last = [];
      rest = got ++ piece;
      frames = subst (λ (xs : List Reply). AreFrames (frames_of xs)) (sym all) so_far.frames;
      took = subst (λ (xs : List Reply). Now (deliveries_at from xs) (answers_of xs)) (sym all) (stays (deliveries_at from rs) (answers_of rs) same so_far.took);
      answered = so_far.answered;
      few = (let many = so_far.many in let len = ap length all in omega arith);
      stands = so_far.next ∙ so_far.stands;
      read = subst (λ (v : List ℕ). Consumes input.before input.after v) (append_assoc (joined (frames_of rs)) got piece ∙ ap (λ (xs : List Reply). joined (frames_of xs) ++ (got ++ piece)) (sym all)) both;
      why = why rs so_far.many so_far.stands so_far.lines;
    }

-- a stop at a frame that was being delivered
pub stop-at : (from limit count : ℕ) (f : Framing) (input : Input) (piece : List ℕ) (mid : Known) (output : Output) (written_mid : Known) (summary : Summary) (Then Now : List DeliveryValue → List Answer → Type 0) (One : ℕ → List ℕ → Answer → Type 0) (fault : ImportFault) (w : List ℕ) (a : Answer)
    → InStream output.tells from count f input.before mid output.before written_mid summary Then → Consumes mid (prepend_known piece input.after) w → Grows Then One Now → IsFrame w → One f.offset w a → count < limit
    → ((rs : List Reply) → f.offset ≡ end_at from rs → Appends output.before written_mid (lines_at output.tells from rs) → IsStop from limit input output rs ((w, a) ∷ []) piece fault)
    → Stops from limit input output Now (record { fault = fault; at = summary.next })
stop-at from limit count f input piece mid output written_mid summary Then Now One fault w a so_far read grows whole one few why =
    let rs = so_far.replies in
    let r : Reply = (w, a) in
    let all : joined (frames_of (rs ++ r ∷ [])) ≡ joined (frames_of rs) ++ w = ap joined (frames-push rs r) ∙ joined-push (frames_of rs) w in
    record {
      replies = rs;
      last = r ∷ [];
      rest = piece;
      frames = subst AreFrames (sym (frames-push rs r)) (frames-more (frames_of rs) w so_far.frames whole);
      took = took-push from rs w a Then Now One grows so_far.answered so_far.took f.offset so_far.stands one;
      answered = so_far.answered;
      few = (let many = so_far.many in let len = length-append rs (r ∷ []) in omega arith);
      stands = so_far.next ∙ so_far.stands;
      read = subst (λ (v : List ℕ). Consumes input.before input.after (v ++ piece)) (sym all) (unread input.before piece input.after (joined (frames_of rs) ++ w) (Consumes-trans input.before mid (prepend_known piece input.after) (joined (frames_of rs)) w so_far.read read));
      why = why rs so_far.stands so_far.lines;
    }

-- what the call for a frame stopped at, after the frames so far
pub stream-stops : (from limit count : ℕ) (f : Framing) (input : Input) (piece : List ℕ) (mid : Known) (output : Output) (written_mid : Known) (summary : Summary) (Then Now : List DeliveryValue → List Answer → Type 0) (One : ℕ → List ℕ → Answer → Type 0) (Same : Type 0) (fault : ImportFault)
    → InStream output.tells from count f input.before mid output.before written_mid summary Then → FrameStop f (record { before = mid; after = prepend_known piece input.after; has_failed = input.has_failed }) (record { tells = output.tells; before = written_mid; after = output.after; has_failed = output.has_failed }) Same One fault
    → Stays Then Same Now → Grows Then One Now → count < limit → (fault ≡ Stream ReadFailed → piece ≡ [])
    → Stops from limit input output Now (record { fault = fault; at = summary.next })
stream-stops from limit count f input piece mid output written_mid summary Then Now One Same (Stream (Frame fault)) so_far h stays grows few spent =
    let it = h.2 in
    stop-between from limit count f input piece mid output written_mid summary Then Now Same (Stream (Frame fault)) it.0 so_far it.2 stays h.1 (omega arith)
    (λ rs many here lines. (
      refl,
      subst (λ (o : Known). Appends output.before o (lines_at output.tells from rs)) (sym h.0) lines,
      (it.0, piece, it.1, refl, subst (λ n. FaultStands fault (record { offset = n; rest = it.0; lent = it.1 }) ⊎ (IsUnfinished fault (record { offset = n; rest = it.0; lent = it.1 }) × IsAtEnd (prepend_known piece input.after))) here it.3),
    ))
stream-stops from limit count f input piece mid output written_mid summary Then Now One Same (Stream ReadFailed) so_far h stays grows few spent =
    stop-between from limit count f input piece mid output written_mid summary Then Now Same (Stream ReadFailed) h.3.0 so_far h.3.1 stays h.1 (omega arith)
    (λ rs many here lines. (
      h.2,
      refl,
      subst (λ (o : Known). Appends output.before o (lines_at output.tells from rs)) (sym h.0) lines,
      subst (λ n. HasNoFrame n (h.3.0 ++ piece)) here (subst (λ (v : List ℕ). HasNoFrame f.offset v) (sym (ap (λ (v : List ℕ). h.3.0 ++ v) (spent refl) ∙ append-nil h.3.0)) h.3.2),
    ))
stream-stops from limit count f input piece mid output written_mid summary Then Now One Same (Stream Memory) so_far h stays grows few spent =
    stop-between from limit count f input piece mid output written_mid summary Then Now Same (Stream Memory) h.2.0 so_far h.2.1 stays h.1 (omega arith)
    (λ rs many here lines. (refl, subst (λ (o : Known). Appends output.before o (lines_at output.tells from rs)) (sym h.0) lines))
stream-stops from limit count f input piece mid output written_mid summary Then Now One Same (Store fault) so_far h stays grows few spent =
    let one = h.1 in
    stop-at from limit count f input piece mid output written_mid summary Then Now One (Store fault) one.0 (answers.Fault fault) so_far one.2 grows one.1 one.3 few
    (λ rs here lines. (subst (λ (o : Known). Appends output.before o (lines_at output.tells from rs)) (sym h.0) lines, refl))
stream-stops from limit count f input piece mid output written_mid summary Then Now One Same WriteFailed so_far h stays grows few spent =
    let it = h.1 in
    stop-at from limit count f input piece mid output written_mid summary Then Now One WriteFailed it.0 it.1 so_far it.3 grows it.2 it.4 few
    (λ rs here lines. (
      h.0,
      refl,
      (it.5, tt),
      front-of-piece output.before written_mid output.after (lines_at output.tells from rs) (told_line output.tells f.offset it.1) [] (lines_at output.tells from (rs ++ (it.0, it.1) ∷ [])) lines
          (append-nil (lines_at output.tells from rs ++ told_line output.tells f.offset it.1) ∙ ap (λ n. lines_at output.tells from rs ++ told_line output.tells n it.1) here ∙ sym (lines-push output.tells from rs (it.0, it.1))) it.6,
    ))
stream-stops from limit count f input piece mid output written_mid summary Then Now One Same (Stream NoHeaderFirst) so_far h stays grows few spent = absurd h
stream-stops from limit count f input piece mid output written_mid summary Then Now One Same BlobLimit so_far h stays grows few spent = absurd h

-- nothing was read yet
pub stream-begins : (tells : Answer → Bool) (from : ℕ) (left written : Known) (f : Framing) (summary : Summary) (Took : List DeliveryValue → List Answer → Type 0) → f.offset ≡ from → f.rest ≡ [] → from ≤ 4611686018427387904 → summary ≡ summary_of [] from → Took [] []
    → InStream tells from 0 f left (prepend_known [] left) written written summary Took
stream-begins tells from left written f summary Took here empty inside is took = record {
  replies = [];
  frames = tt;
  took = took;
  answered = tt;
  many = refl;
  stands = here;
  inside = (let is_at = here in omega arith);
  empty = empty;
  read = subst (λ (o : Known). Consumes left o []) (sym (prepend_known-nil left)) (Consumes-nil left);
  lines = Appends-nil written;
  sums = is;
  next = ap (λ (s : Summary). s.next) is ∙ sym here;
  small = subst (λ (s : Summary). Small s 0) (sym is) (small-of [] from);
}

-- no memory for a piece
pub never-begun : (tells : Answer → Bool) (from limit : ℕ) (left written : Known) (source_failed sink_failed : Bool) (Took : List DeliveryValue → List Answer → Type 0) → Took [] []
    → Stops from limit (record { before = left; after = left; has_failed = source_failed }) (record { tells = tells; before = written; after = written; has_failed = sink_failed }) Took (record { fault = Stream Memory; at = from })
never-begun tells from limit left written source_failed sink_failed Took took = record {
  replies = [];
  last = [];
  rest = [];
  frames = tt;
  took = took;
  answered = tt;
  few = omega arith;
  stands = refl;
  read = Consumes-nil left;
  why = (refl, Appends-nil written);
}

-- a call that read no frame
pub stream-stays : (tells : Answer → Bool) (from count : ℕ) (f : Framing) (before mid now written_old written_mid written_now : Known) (summary : Summary) (Then Now : List DeliveryValue → List Answer → Type 0) (Same : Type 0)
    → InStream tells from count f before mid written_old written_mid summary Then → Consumes mid now [] → written_now ≡ written_mid → Stays Then Same Now → Same
    → InStream tells from count f before now written_old written_now summary Now
stream-stays tells from count f before mid now written_old written_mid written_now summary Then Now Same so_far read wrote stays same = record {
  replies = so_far.replies;
  frames = so_far.frames;
  took = stays (deliveries_at from so_far.replies) (answers_of so_far.replies) same so_far.took;
  answered = so_far.answered;
  many = so_far.many;
  stands = so_far.stands;
  inside = so_far.inside;
  empty = so_far.empty;
  read = subst (λ (v : List ℕ). Consumes before now v) (append-nil (joined (frames_of so_far.replies))) (Consumes-trans before mid now (joined (frames_of so_far.replies)) [] so_far.read read);
  lines = subst (λ (o : Known). Appends written_old o (lines_at tells from so_far.replies)) (sym wrote) so_far.lines;
  sums = so_far.sums;
  next = so_far.next;
  small = so_far.small;
}
