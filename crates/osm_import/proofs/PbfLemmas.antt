-- From what a cutter gives for one blob to what an export as PBF writes.
use Rattle.std.proofs.Common.{◌≡◌, ℕ, ◌≤◌, Bool, true, false, List, [], ◌∷◌, ◌++◌, length, take, drop, Result, Ok, Err, refl, sym, ◌∙◌, ap, subst, inl, inr, arith, append_assoc, append-nil}
use Rattle.std.specs.FinMap.{entries}
use Rattle.std.specs.Io.KnownBytes.{Appends}
use Rattle.std.proofs.KnownBytes.{Appends-trans, Appends-nil}
use Rattle.osm_value.specs.declared.element.Element.{Element}
use Rattle.osm_value.specs.Sink.{AppendsFront}
use Rattle.osm_write.specs.Cutter.{StepOk}
use Rattle.osm_write.specs.Header.{header_block, plain_header, plain_header_is, historic_header, historic_header_is}
use Rattle.osm_rows.specs.Held.{Blob, HeldMap}
use Rattle.osm_reading.specs.Framings.{Known}
use Rattle.osm_import.specs.Exports.{WritesBlob, IsUnbegun}
use Rattle.osm_import.specs.Gaps.{Tiles}
use Rattle.osm_import.specs.Pbf.{header_frame, data_frame, data_frames, Cuts, AreFramesOf, AreFirstFrames, WritesBlocks, IsHeadedExport}
use Rattle.osm_import.specs.Walks.{elements_at, WritesInTurn, Walks}
use Rattle.osm_import.specs.declared.export.fault.ExportFault.{ExportFault}
use Rattle.osm_import.specs.declared.export.fault.ExportFault.TheVariants.{Incomplete, PastEnd, WriteFailed, BlockTooLarge, Miscounted, Store}
use Rattle.osm_import.proofs.WritingLemmas.{front-of-piece}

-- ---- one blob

pub header-small : (history : Bool) (w : List ℕ) → w ≡ header_block history → length w ≤ 33554431
header-small true w is = let e : length w ≡ length historic_header = ap length (is ∙ historic_header_is) in omega (arith, e)
header-small false w is = let e : length w ≡ length plain_header = ap length (is ∙ plain_header_is) in omega (arith, e)

pub behind-nothing : (old new text : List ℕ) → old ≡ [] → new ≡ old ++ text → new ≡ text
behind-nothing old new text none is = is ∙ ap (λ (l : List ℕ). l ++ text) none

data_frames-append : (xs ys : List (List ℕ)) → data_frames (xs ++ ys) ≡ data_frames xs ++ data_frames ys
data_frames-append [] ys = refl
data_frames-append (x ∷ xs) ys = ap (λ (l : List ℕ). data_frame x ++ l) (data_frames-append xs ys) ∙ sym (append_assoc (data_frame x) (data_frames xs) (data_frames ys))

data_frames-more : (blocks : List (List ℕ)) (block : List ℕ) → data_frames blocks ++ data_frame block ≡ data_frames (blocks ++ block ∷ [])
data_frames-more blocks block = ap (λ (l : List ℕ). data_frames blocks ++ l) (sym (append-nil (data_frame block))) ∙ sym (data_frames-append blocks (block ∷ []))

pub cuts-more : (es : List Element) (blocks : List (List ℕ)) (rest : List Element) (block : List ℕ) (count : ℕ) → Cuts es blocks rest → StepOk rest block count → Cuts es (blocks ++ block ∷ []) (drop count rest)
cuts-more es [] rest block count cuts step = (count, subst (λ (xs : List Element). StepOk xs block count) cuts step, ap (drop count) cuts)
cuts-more es (first ∷ blocks) rest block count cuts step = (cuts.0, cuts.1, cuts-more (drop cuts.0 es) blocks rest block count cuts.2 step)

all-front : (before after : Known) (text : List ℕ) → Appends before after text → AppendsFront before after text
all-front before after text wrote = (text, [], append-nil text, wrote)

-- what was cut so far, and what went out
pub record CutSoFar (before after : Known) (es rest : List Element) : Type 0 where
  pub blocks : List (List ℕ)
  pub cut : Cuts es blocks rest
  pub wrote : Appends before after (data_frames blocks)

pub cut-more : (before middle after : Known) (es rest : List Element) (block : List ℕ) (count : ℕ) → CutSoFar before middle es rest → StepOk rest block count → Appends middle after (data_frame block) → CutSoFar before after es (drop count rest)
cut-more before middle after es rest block count so_far step wrote = record {
  blocks = so_far.blocks ++ block ∷ [];
  cut = cuts-more es so_far.blocks rest block count so_far.cut step;
  wrote = subst (λ (text : List ℕ). Appends before after text) (data_frames-more so_far.blocks block) (Appends-trans before middle after (data_frames so_far.blocks) (data_frame block) so_far.wrote wrote);
}

pub cut-err : (before middle after : Known) (es rest : List Element) (block : List ℕ) (count : ℕ) (fault : ExportFault) → CutSoFar before middle es rest → StepOk rest block count
    → WritesBlob middle (data_frame block) after (Err fault) → WritesBlocks before es after (Err fault)
cut-err before middle after es rest block count WriteFailed so_far step wrote = (
  so_far.blocks ++ block ∷ [],
  drop count rest,
  cuts-more es so_far.blocks rest block count so_far.cut step,
  front-of-piece before middle after (data_frames so_far.blocks) (data_frame block) [] (data_frames (so_far.blocks ++ block ∷ [])) so_far.wrote
      (append-nil (data_frames so_far.blocks ++ data_frame block) ∙ data_frames-more so_far.blocks block) wrote,
)
cut-err before middle after es rest block count (Store fault) so_far step wrote =
    (so_far.blocks, rest, so_far.cut, subst (λ (k : Known). AppendsFront before k (data_frames so_far.blocks)) (sym wrote) (all-front before middle (data_frames so_far.blocks) so_far.wrote))
cut-err before middle after es rest block count BlockTooLarge so_far step wrote = absurd wrote
cut-err before middle after es rest block count (Miscounted off) so_far step wrote = absurd wrote
cut-err before middle after es rest block count (Incomplete from to) so_far step wrote = absurd wrote
cut-err before middle after es rest block count (PastEnd fin) so_far step wrote = absurd wrote

-- ---- the blobs of a map

-- the frames of so many blobs have gone out
record WroteSoFar (before after : Known) (es : List (ℕ × Blob)) : Type 0 where
  pub bytes : List ℕ
  pub frames : AreFramesOf es bytes
  pub wrote : Appends before after bytes

frames-in-turn : (es : List (ℕ × Blob)) (before after : Known) → WritesInTurn WritesBlocks before es after → WroteSoFar before after es
frames-in-turn [] before after turns = record { bytes = []; frames = refl; wrote = subst (λ (o : Known). Appends before o []) (sym turns) (Appends-nil before) }
frames-in-turn (e ∷ es) before after turns =
    let made = turns.1 in
    let rest = frames-in-turn es turns.0 after turns.2 in
    record {
      bytes = data_frames made.0 ++ rest.bytes;
      frames = (made.0, rest.bytes, made.1, rest.frames, refl);
      wrote = Appends-trans before turns.0 after (data_frames made.0) rest.bytes made.2 rest.wrote;
    }

-- blocks of the next blob, behind those of the blobs before
first-frames : (es : List (ℕ × Blob)) (i : ℕ) (before : List ℕ) (blocks : List (List ℕ)) (rest : List Element) → AreFramesOf (take i es) before → Cuts (elements_at es i) blocks rest → AreFirstFrames es (before ++ data_frames blocks) rest
first-frames es i before blocks rest frames cuts = record { count = i; before = before; blocks = blocks; whole = frames; cut = cuts; joined = refl }

-- a front of that went out
abbrev FrontOf : Known → List (ℕ × Blob) → Known → Type 0
FrontOf before es after = (bytes : List ℕ) × (rest : List Element) × AreFirstFrames es bytes rest × AppendsFront before after bytes

front-of : (es : List (ℕ × Blob)) (i : ℕ) (before middle after : Known) → WroteSoFar before middle (take i es)
    → (blocks : List (List ℕ)) (rest : List Element) → Cuts (elements_at es i) blocks rest → AppendsFront middle after (data_frames blocks) → FrontOf before es after
front-of es i before middle after so_far blocks rest cuts front = (
  so_far.bytes ++ data_frames blocks,
  rest,
  first-frames es i so_far.bytes blocks rest so_far.frames cuts,
  front-of-piece before middle after so_far.bytes (data_frames blocks) [] (so_far.bytes ++ data_frames blocks) so_far.wrote (append-nil (so_far.bytes ++ data_frames blocks)) front,
)

-- none of the next blob's blocks did
front-before : (es : List (ℕ × Blob)) (i : ℕ) (before middle after : Known) → WroteSoFar before middle (take i es) → after ≡ middle → FrontOf before es after
front-before es i before middle after so_far same =
    front-of es i before middle after so_far [] (elements_at es i) refl (subst (λ (o : Known). AppendsFront middle o []) (sym same) (all-front middle middle [] (Appends-nil middle)))

-- ---- the whole export

none-yet : (held : HeldMap) → AreFirstFrames (entries held) [] (elements_at (entries held) 0)
none-yet held = record { count = 0; before = []; blocks = []; whole = refl; cut = refl; joined = refl }

-- nothing was written
pub pbf-unbegun : (history : Bool) (held : HeldMap) (size : ℕ) (partial : Bool) (text : Known) (fault : ExportFault) → IsUnbegun held size partial fault → IsHeadedExport history held size partial text text (Err fault)
pbf-unbegun history held size partial text (Store fault) h = ([], elements_at (entries held) 0, none-yet held, ([], header_frame history ++ [], refl, Appends-nil text), λ whole. inr refl)
pbf-unbegun history held size partial text (Incomplete from to) h = (h.0, refl, h.1)
pbf-unbegun history held size partial text (PastEnd fin) h = (h.0, refl, h.1)
pbf-unbegun history held size partial text WriteFailed h = absurd h
pbf-unbegun history held size partial text BlockTooLarge h = absurd h
pbf-unbegun history held size partial text (Miscounted off) h = absurd h

-- the header frame didn't go out whole
pub pbf-no_header : (history : Bool) (held : HeldMap) (size : ℕ) (partial : Bool) (before after : Known) (fault : ExportFault) → WritesBlob before (header_frame history) after (Err fault) → (partial ≡ false → Tiles held size) → IsHeadedExport history held size partial before after (Err fault)
pbf-no_header history held size partial before after WriteFailed wrote tiles =
    ([], elements_at (entries held) 0, none-yet held, subst (λ (text : List ℕ). AppendsFront before after text) (sym (append-nil (header_frame history))) wrote, tiles)
pbf-no_header history held size partial before after (Store fault) wrote tiles =
    subst (λ (k : Known). IsHeadedExport history held size partial before k (Err (Store fault))) (sym wrote) (pbf-unbegun history held size partial before (Store fault) tt)
pbf-no_header history held size partial before after BlockTooLarge wrote tiles = absurd wrote
pbf-no_header history held size partial before after (Miscounted off) wrote tiles = absurd wrote
pbf-no_header history held size partial before after (Incomplete from to) wrote tiles = absurd wrote
pbf-no_header history held size partial before after (PastEnd fin) wrote tiles = absurd wrote

behind-header : (history : Bool) (before middle after : Known) (bytes : List ℕ) → Appends before middle (header_frame history) → AppendsFront middle after bytes → AppendsFront before after (header_frame history ++ bytes)
behind-header history before middle after bytes header front =
    front-of-piece before middle after (header_frame history) bytes [] (header_frame history ++ bytes) header (append-nil (header_frame history ++ bytes)) front

-- a walk over all blobs, behind the header
pub pbf-exported : (history : Bool) (held : HeldMap) (size : ℕ) (partial : Bool) (before middle after : Known) (result : Result (Unit {0}) ExportFault) → Appends before middle (header_frame history)
    → Walks WritesBlocks middle (entries held) after result → (partial ≡ false → Tiles held size) → IsHeadedExport history held size partial before after result
pbf-exported history held size partial before middle after (Ok _) header walk tiles =
    let all = frames-in-turn (entries held) middle after walk in
    (all.bytes, all.frames, Appends-trans before middle after (header_frame history) all.bytes header all.wrote, tiles)
pbf-exported history held size partial before middle after (Err WriteFailed) header walk tiles =
    let made = walk.stopped in
    let front = front-of (entries held) walk.count middle walk.middle after (frames-in-turn (take walk.count (entries held)) middle walk.middle walk.turns) made.0 made.1 made.2 made.3 in
    (front.0, front.1, front.2, behind-header history before middle after front.0 header front.3, tiles)
pbf-exported history held size partial before middle after (Err BlockTooLarge) header walk tiles =
    let made = walk.stopped in
    let so_far = frames-in-turn (take walk.count (entries held)) middle walk.middle walk.turns in (
      so_far.bytes ++ data_frames made.0,
      made.1,
      first-frames (entries held) walk.count so_far.bytes made.0 made.1 so_far.frames made.2,
      made.3,
      Appends-trans before middle after (header_frame history) (so_far.bytes ++ data_frames made.0) header (Appends-trans middle walk.middle after so_far.bytes (data_frames made.0) so_far.wrote made.4),
      tiles,
    )
pbf-exported history held size partial before middle after (Err (Store fault)) header walk tiles =
    let so_far = frames-in-turn (take walk.count (entries held)) middle walk.middle walk.turns in
    let front : FrontOf middle (entries held) after = elim walk.stopped [
      | inl same ↦ front-before (entries held) walk.count middle walk.middle after so_far same
      | inr made ↦ front-of (entries held) walk.count middle walk.middle after so_far made.0 made.1 made.2 made.3
    ] in
    (front.0, front.1, front.2, behind-header history before middle after front.0 header front.3, λ whole. inl (tiles whole))
pbf-exported history held size partial before middle after (Err (Incomplete from to)) header walk tiles = absurd walk.stopped
pbf-exported history held size partial before middle after (Err (PastEnd fin)) header walk tiles = absurd walk.stopped
pbf-exported history held size partial before middle after (Err (Miscounted off)) header walk tiles = absurd walk.stopped
