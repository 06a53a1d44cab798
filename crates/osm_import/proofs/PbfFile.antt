-- What an export as PBF writes is a file, with the elements that are held.
use Rattle.std.proofs.Common.{◌≡◌, ℕ, zero, suc, ◌+◌, ◌^◌, ◌≤◌, Bool, true, List, [], ◌∷◌, ◌++◌, map, length, take, drop, codes, Option, Some, Result, Ok, Err, refl, sym, ◌∙◌, ap, subst, arith, append_assoc, length-append}
use Rattle.std.specs.List.{AllByRecursion}
use Rattle.std.specs.FinMap as finite
use Rattle.std.specs.FinMap.{entries, get-entries, entries_sorted, is_sorted}
use Rattle.std.specs.Ordering.{nat_cmp}
use Rattle.std.proofs.lemmas.List.{take-append-drop}
use Rattle.osm_value.specs.declared.element.Element.{Element}
use Rattle.osm_value.specs.declared.element.Element.TheVariants as elements
use Rattle.osm_value.specs.Value.{NodeValue}
use Rattle.osm_value.specs.Ranges.{IsNode}
use Rattle.osm_value.specs.Elements.{IsElement}
use Rattle.pbf_wire.specs.Readings.{fields, each}
use Rattle.pbf_frame.specs.declared.kind.Kind.{Kind}
use Rattle.pbf_frame.specs.declared.kind.Kind.TheVariants.{OsmHeader, OsmData, Other}
use Rattle.pbf_frame.specs.Frame.{Frame}
use Rattle.pbf_frame.specs.Write.{blob_bytes}
use Rattle.pbf_frame.proofs.WriteLaws.{written, raw_written}
use Rattle.osm_block.specs.Message.{Context, Message, Plain, Dense, Way, Relation, context, messages}
use Rattle.osm_block.specs.Block.{Block, GroupOf, Joins, AllAreWire, MessageOf}
use Rattle.osm_write.specs.Cutter.{StepOk}
use Rattle.osm_write.specs.Header.{header_block}
use Rattle.osm_write.proofs.Bounds.{block_is_read_back}
use Rattle.osm_write.proofs.HeaderRead.{header_reads}
use Rattle.osm_rows.specs.Flags.{has_flags}
use Rattle.osm_rows.specs.Held.{Blob, HeldMap, IsApart}
use Rattle.osm_rows.specs.Keeping.{extents_of}
use Rattle.osm_reading.specs.Good.{IsGood, HasElements}
use Rattle.osm_import.specs.Gaps.{Tiles}
use Rattle.osm_import.specs.Files.{AreFrames, IsFile, IsHeldOfFile, joined}
use Rattle.osm_reading.specs.Framings.{Known}
use Rattle.osm_import.specs.Exports.{AreElements, IsAskedFor, size_of}
use Rattle.osm_import.specs.Pbf.{header_frame, data_frame, data_frames, Cuts, AreFramesOf, IsPbfExport, WritesPbfFile}
use Rattle.osm_import.specs.declared.export.fault.ExportFault.{ExportFault}
use Rattle.osm_import.specs.declared.export.fault.ExportFault.TheVariants.{Incomplete, PastEnd, WriteFailed, BlockTooLarge, Miscounted, Store}
use Rattle.osm_import.proofs.Touching.{find-tail, find-head, sorted-tail}
use Rattle.osm_import.proofs.Delivering.{true-of}
use Rattle.osm_reading.proofs.GoodLaws.{frame-filled}
use Rattle.osm_import.proofs.ExportLemmas.{elements_in, file-elements, unrefused}
use Rattle.osm_import.proofs.PbfLemmas.{header-small}

-- ---- what a block says is inside its ranges

abbrev AreInRange : List Element → Type 0
AreInRange es = AllByRecursion IsElement es

both-in-range : (es fs : List Element) → AreInRange es → AreInRange fs → AreInRange (es ++ fs)
both-in-range [] fs e f = f
both-in-range (x ∷ es) fs e f = (e.0, both-in-range es fs e.1 f)

joins-in-range : {B : Type 0} (R : List Element → B → Type 0) → ((es : List Element) (x : B) → R es x → AreInRange es) → (es : List Element) (xs : List B) → Joins R es xs → AreInRange es
joins-in-range R each_is es [] h = subst AreInRange (sym h) tt
joins-in-range R each_is es (x ∷ xs) h = subst AreInRange (sym h.2) (both-in-range h.0 h.1 (each_is h.0 x h.3) (joins-in-range R each_is h.1 xs h.4))

nodes-in-range : (ns : List NodeValue) → AllByRecursion IsNode ns → AreInRange (map elements.Node ns)
nodes-in-range [] h = tt
nodes-in-range (n ∷ ns) h = (h.0, nodes-in-range ns h.1)

one-in-range : (e : Element) (es : List Element) → es ≡ e ∷ [] → IsElement e → AreInRange es
one-in-range e es is h = subst AreInRange (sym is) (h, tt)

message-in-range : (b : Context) (es : List Element) (m : Message) → AllAreWire m × MessageOf b es m → AreInRange es
message-in-range b es (Plain p) h = one-in-range (elements.Node h.1.0) es h.1.1 h.1.2.in_range
message-in-range b es (Way p) h = one-in-range (elements.Way h.1.0) es h.1.1 h.1.2.in_range
message-in-range b es (Relation p) h = one-in-range (elements.Relation h.1.0) es h.1.1 h.1.2.in_range
message-in-range b es (Dense ps) h = subst AreInRange (sym h.1.1) (nodes-in-range h.1.0 h.1.2.in_range)

group-in-range : (b : Context) (es : List Element) (g : List ℕ) → GroupOf b es g → AreInRange es
group-in-range b es g h = joins-in-range (λ (xs : List Element) (m : Message). AllAreWire m × MessageOf b xs m) (message-in-range b) es (messages (fields g)) h.elements_are

block-in-range : (es : List Element) (w : List ℕ) → Block es w → AreInRange es
block-in-range es w h = joins-in-range (GroupOf (context (fields w))) (group-in-range (context (fields w))) es (each (fields w) 2) h.elements_are

pub elements-in-range : (kind : Kind) (blob : List ℕ) (es : List Element) → HasElements kind blob es → AreInRange es
elements-in-range OsmData blob es h = block-in-range es h.0 h.2
elements-in-range OsmHeader blob es h = subst AreInRange (sym h.3) tt
elements-in-range Other blob es h = subst AreInRange (sym h) tt

take-in-range : (count : ℕ) (es : List Element) → AreInRange es → AreInRange (take count es)
take-in-range zero es h = tt
take-in-range (suc count) [] h = tt
take-in-range (suc count) (e ∷ es) h = (h.0, take-in-range count es h.1)

drop-in-range : (count : ℕ) (es : List Element) → AreInRange es → AreInRange (drop count es)
drop-in-range zero es h = h
drop-in-range (suc count) [] h = tt
drop-in-range (suc count) (e ∷ es) h = drop-in-range count es h.1

-- ---- the frames of one blob

data-is-frame : (block : List ℕ) → length block ≤ 33554431 → Frame (codes "OSMData") (blob_bytes block) (data_frame block)
data-is-frame block fits = written (codes "OSMData") block (omega arith) fits

cut-whole : (es : List Element) (blocks : List (List ℕ)) (rest : List Element) (frames : List (List ℕ)) → Cuts es blocks rest → AreFrames frames → AreFrames (map data_frame blocks ++ frames)
cut-whole es [] rest frames cuts whole = whole
cut-whole es (block ∷ blocks) rest frames cuts whole =
    ((codes "OSMData", blob_bytes block, data-is-frame block cuts.1.fits), cut-whole (drop cuts.0 es) blocks rest frames cuts.2 whole)

cut-joined : (blocks frames : List (List ℕ)) → joined (map data_frame blocks ++ frames) ≡ data_frames blocks ++ joined frames
cut-joined [] frames = refl
cut-joined (block ∷ blocks) frames =
    ap (λ (l : List ℕ). data_frame block ++ l) (cut-joined blocks frames) ∙ sym (append_assoc (data_frame block) (data_frames blocks) (joined frames))

data-good : (start : ℕ) (es : List Element) (block : List ℕ) (count : ℕ) → 1 ≤ start → start + length (data_frame block) ≤ 2 ^ 62 → AreInRange es → StepOk es block count → IsGood start (data_frame block) OsmData (take count es)
data-good start es block count later limit ranges step = record {
  type_name = codes "OSMData";
  blob = blob_bytes block;
  placed = record {
    frame = data-is-frame block step.fits;
    limit = limit;
    header_first = ((λ zero_is. absurd (omega (arith, later, zero_is))), (λ other. absurd (cc)));
  };
  kind_is = refl;
  content = (block, raw_written block step.fits, block_is_read_back (take count es) block step.block_is step.fits (take-in-range count es ranges));
}

cut-elements : (start : ℕ) (es : List Element) (blocks : List (List ℕ)) (frames : List (List ℕ)) (others : List Element) → 1 ≤ start → start + length (data_frames blocks) ≤ 2 ^ 62 → AreInRange es → Cuts es blocks []
    → AreElements (start + length (data_frames blocks)) frames others → AreElements start (map data_frame blocks ++ frames) (es ++ others)
cut-elements start es [] frames others later limit ranges cuts behind =
    let same : start + 0 ≡ start = omega arith in
    subst (λ (xs : List Element). AreElements start frames (xs ++ others)) cuts (subst (λ (n : ℕ). AreElements n frames others) same behind)
cut-elements start es (block ∷ blocks) frames others later limit ranges cuts behind =
    let both : length (data_frame block ++ data_frames blocks) ≡ length (data_frame block) + length (data_frames blocks) = length-append (data_frame block) (data_frames blocks) in
    let seam : start + length (data_frame block ++ data_frames blocks) ≡ (start + length (data_frame block)) + length (data_frames blocks) = omega (arith, both) in
    let ends : (start + length (data_frame block)) + length (data_frames blocks) ≤ 2 ^ 62 = subst (λ (n : ℕ). n ≤ 2 ^ 62) seam limit in (
      OsmData,
      take cuts.0 es,
      drop cuts.0 es ++ others,
      data-good start es block cuts.0 later (omega (arith, ends)) ranges cuts.1,
      cut-elements (start + length (data_frame block)) (drop cuts.0 es) blocks frames others (omega (arith, later)) ends (drop-in-range cuts.0 es ranges) cuts.2
          (subst (λ (n : ℕ). AreElements n frames others) seam behind),
      ap (λ (xs : List Element). xs ++ others) (sym (take-append-drop cuts.0 es)) ∙ append_assoc (take cuts.0 es) (drop cuts.0 es) others,
    )

-- ---- the frames of blobs

abbrev HaveRanges : List (ℕ × Blob) → Type 0
HaveRanges es = AllByRecursion (λ (entry : ℕ × Blob). AreInRange entry.1.elements) es

-- the bytes are joined frames, which have the elements of the blobs wherever they stand behind a header
record AreOf (es : List (ℕ × Blob)) (bytes : List ℕ) : Type 0 where
  pub frames : List (List ℕ)
  pub whole : AreFrames frames
  pub is_joined : bytes ≡ joined frames
  pub said : (start : ℕ) → 1 ≤ start → start + length bytes ≤ 2 ^ 62 → AreElements start frames (elements_in es)

blobs-frames : (es : List (ℕ × Blob)) (bytes : List ℕ) → HaveRanges es → AreFramesOf es bytes → AreOf es bytes
blobs-frames [] bytes ranges are = record { frames = []; whole = tt; is_joined = are; said = λ start later limit. refl }
blobs-frames (entry ∷ es) bytes ranges are =
    let blocks = are.0 in
    let behind = are.1 in
    let it = blobs-frames es behind ranges.1 are.3 in
    let both : length bytes ≡ length (data_frames blocks) + length behind = ap length are.4 ∙ length-append (data_frames blocks) behind in
    record {
      frames = map data_frame blocks ++ it.frames;
      whole = cut-whole entry.1.elements blocks [] it.frames are.2 it.whole;
      is_joined = are.4 ∙ ap (λ (l : List ℕ). data_frames blocks ++ l) it.is_joined ∙ sym (cut-joined blocks it.frames);
      said = λ start later limit.
          cut-elements start entry.1.elements blocks it.frames (elements_in es) later (omega (arith, limit, both)) ranges.0 are.2
          (it.said (start + length (data_frames blocks)) (omega (arith, later)) (omega (arith, limit, both)));
    }

all-ranges : (es : List (ℕ × Blob)) → is_sorted nat_cmp es ≡ true → ((at : ℕ) (blob : Blob) → finite.find nat_cmp at es ≡ Some blob → AreInRange blob.elements) → HaveRanges es
all-ranges [] sorted held = tt
all-ranges (e ∷ es) sorted held = (held e.0 e.1 (find-head e es), all-ranges es (sorted-tail e es sorted) (λ at blob found. held at blob (find-tail e es sorted at blob found).1))

held-ranges : (held : HeldMap) (frames : List (List ℕ)) → IsHeldOfFile frames held → HaveRanges (entries held)
held-ranges held frames of_file =
    all-ranges (entries held) (true-of _ (entries_sorted held))
    (λ at blob found. (let it = of_file at blob (get-entries held at ∙ found) in elements-in-range blob.kind it.2.good.blob blob.elements it.2.good.content))

-- ---- the whole file

module _ (history : Bool) where
  header-fits : length (header_block history) ≤ 33554431
  header-fits = header-small history (header_block history) refl

  header-is-frame : Frame (codes "OSMHeader") (blob_bytes (header_block history)) (header_frame history)
  header-is-frame = written (codes "OSMHeader") (header_block history) (omega arith) header-fits

  header-good : 0 + length (header_frame history) ≤ 2 ^ 62 → IsGood 0 (header_frame history) OsmHeader []
  header-good limit = record {
    type_name = codes "OSMHeader";
    blob = blob_bytes (header_block history);
    placed = record { frame = header-is-frame; limit = limit; header_first = ((λ _. refl), (λ _. refl)) };
    kind_is = refl;
    content = (header_block history, raw_written (header_block history) header-fits, header_reads history (header_block history) refl, refl);
  }

  written-file : (es : List (ℕ × Blob)) (bytes : List ℕ) (it : AreOf es bytes) → IsFile (header_frame history ++ bytes) (header_frame history ∷ it.frames)
  written-file es bytes it = record {
    some = λ none. cc;
    whole = ((codes "OSMHeader", blob_bytes (header_block history), header-is-frame), it.whole);
    is_joined = ap (λ (l : List ℕ). header_frame history ++ l) it.is_joined;
  }

  written-elements : (es : List (ℕ × Blob)) (bytes : List ℕ) (it : AreOf es bytes) → length (header_frame history ++ bytes) ≤ 2 ^ 62 → AreElements 0 (header_frame history ∷ it.frames) (elements_in es)
  written-elements es bytes it limit =
      let both : length (header_frame history ++ bytes) ≡ length (header_frame history) + length bytes = length-append (header_frame history) bytes in
      let long : 4 ≤ length (header_frame history) = frame-filled (codes "OSMHeader") (blob_bytes (header_block history)) (header_frame history) header-is-frame in
      (OsmHeader, [], elements_in es, header-good (omega (arith, limit, both)), it.said (0 + length (header_frame history)) (omega (arith, long)) (omega (arith, limit, both)), refl)

pub pbf-file : (held : HeldMap) (file : List ℕ) (frames : List (List ℕ)) (asked : Option ℕ) (partial : Bool) (before after : Known) (result : Result (Unit {0}) ExportFault)
    → IsApart held → IsFile file frames → IsHeldOfFile frames held → Tiles held (length file) → IsAskedFor asked (length file)
    → IsPbfExport held (size_of asked (extents_of held)) partial before after result → WritesPbfFile frames before after result
pbf-file held file frames asked partial before after (Ok _) apart is_file of_file tiles is wrote =
    let it = blobs-frames (entries held) wrote.0 (held-ranges held frames of_file) wrote.1 in (
      header_frame (has_flags held) ++ wrote.0,
      header_frame (has_flags held) ∷ it.frames,
      elements_in (entries held),
      file-elements held file frames apart is_file of_file tiles,
      wrote.2,
      written-file (has_flags held) (entries held) wrote.0 it,
      written-elements (has_flags held) (entries held) wrote.0 it,
    )
pbf-file held file frames asked partial before after (Err WriteFailed) apart is_file of_file tiles is wrote = tt
pbf-file held file frames asked partial before after (Err (Store fault)) apart is_file of_file tiles is wrote = tt
pbf-file held file frames asked partial before after (Err BlockTooLarge) apart is_file of_file tiles is wrote = tt
pbf-file held file frames asked partial before after (Err (Miscounted off)) apart is_file of_file tiles is wrote = wrote
pbf-file held file frames asked partial before after (Err (Incomplete from to)) apart is_file of_file tiles is wrote = unrefused held asked (length file) (Incomplete from to) tiles is wrote.2
pbf-file held file frames asked partial before after (Err (PastEnd fin)) apart is_file of_file tiles is wrote = unrefused held asked (length file) (PastEnd fin) tiles is wrote.2
