-- What the command `verify` prints: a line for each bad blob and each that isn't held alike, one for each extra extent, one
-- for what ended the frames early, and the counts.
use Rattle.std.specs.Prelude.{◌≡◌, ℕ, ◌+◌, ◌≤◌, ◌==◌, nat_lt, Bool, true, false, ◌&&◌, List, [], ◌∷◌, ◌++◌, length, map, filter, codes, Result, Ok, Err, IfErr, is_err}
use Rattle.std.specs.List.{count_by, flat_map, sum_by}
use Rattle.std.specs.Fmt.{decimal}
use Rattle.std.specs.Io.KnownBytes.{Consumes, IsAtEnd}
use Rattle.pbf_frame.specs.declared.part.TheConstants.{MAX_OFFSET}
use Rattle.osm_value.specs.Sink.{Wrote}
use Rattle.osm_value.specs.declared.element.Element.{Element}
use Rattle.osm_rows.specs.Audit.{AreCountable, ShowsCounts, counts_of as counts_of_rows}
use Rattle.osm_rows.specs.Calls.{KeepsTables, OfHeld}
use Rattle.osm_rows.specs.Held.{Blob, HeldMap}
use Rattle.osm_rows.specs.Keeping.{IsForeign, extents_of}
use Rattle.osm_rows.specs.declared.audit.counts.Counts.{Counts as Rows}
use Rattle.osm_rows.specs.declared.fault.StoreFault.{StoreFault}
use Rattle.osm_rows.specs.declared.keeper.Extent.{Extent}
use Rattle.osm_rows.specs.declared.keeper.BlobReader.{Ghosts as ReaderOf}
use Rattle.osm_rows.specs.declared.schema.layout.Layout.{Layout}
use Rattle.osm_reading.specs.Bad.{IsBad}
use Rattle.osm_reading.specs.Framings.{Known}
use Rattle.osm_reading.specs.Faults.{number_of, name_of}
use Rattle.osm_reading.specs.Lines.{fault_line}
use Rattle.osm_import.specs.Step.{HasCause}
use Rattle.osm_import.specs.Stores.{Rereads}
use Rattle.osm_reading.specs.declared.fault.Fault.{Fault}
use Rattle.osm_reading.specs.declared.stream.fault.Stop.{Stop}
use Rattle.osm_reading.specs.declared.stream.fault.Stop.TheVariants.{Frame, NoHeaderFirst}
use Rattle.osm_verify.specs.Agreements.{IsAgreement, begins}
use Rattle.osm_verify.specs.Audits.{Trees, IsEntryOf, AreEntries, CountsMore, KeepsImport, ShowsImport}
use Rattle.osm_verify.specs.declared.comparing.Depth.{Depth}
use Rattle.osm_verify.specs.declared.comparing.Depth.TheVariants.{Elements}
use Rattle.osm_verify.specs.declared.comparing.Agreement.{Agreement}
use Rattle.osm_verify.specs.declared.comparing.Agreement.TheVariants.{Same, Missing, Differs}
use Rattle.pbfrow_reading.specs.Checking.{capped}
use Rattle.pbfrow_reading.specs.CommandLines.{stop_line}
use Rattle.pbfrow_reading.specs.Walks.{IsWholeFrame, Part, joined, lines_from, AreFound, HasEnded, status_of}
use Rattle.pbfrow_reading.specs.declared.input.Ending.TheVariants as ending
use Rattle.pbfrow_commands.specs.CommandLines.{broken_line}
use Rattle.pbfrow_commands.specs.declared.verify.Close.{Close}
use Rattle.pbfrow_commands.specs.declared.verify.Close.TheVariants.{Whole, Early, Broken, Unwritten}
use Rattle.pbfrow_commands.specs.declared.verify.Counts.{Counts}

-- ---- one frame

-- how what is held at a frame's offset compares with it, or the frame's fault
abbrev pub Comparison : Type 0
Comparison = Result Agreement Fault

-- that, the held extents that begin in the frame and aren't its own, and the frame's elements, none where it is bad
pub record Compared : Type 0 where
  pub verdict : Comparison
  pub extras : List Extent
  pub elements : List Element

abbrev pub IsComparison : Depth → HeldMap → ℕ → List ℕ → Comparison → Type 0
IsComparison depth held at w (Ok agreement) = IsAgreement depth held at w agreement
IsComparison depth held at w (Err fault) = IsBad at w fault

-- where an extent begins that isn't the frame's own: behind its offset, or at it where the frame is bad
abbrev pub first_extra : ℕ → Comparison → ℕ
first_extra at (Ok agreement) = at + 1
first_extra at (Err fault) = at

abbrev pub HasElements : ℕ → List ℕ → Comparison → List Element → Type 0
HasElements at w (Ok agreement) elements = IsEntryOf (λ entry. Unit {0}) at w elements
HasElements at w (Err fault) elements = elements ≡ []

pub record IsCompared (depth : Depth) (held : HeldMap) (at : ℕ) (w : List ℕ) (found : Compared) : Type 0 where
  pub judged : IsComparison depth held at w found.verdict
  pub extras : found.extras ≡ filter (begins (first_extra at found.verdict) (at + length w)) (extents_of held)
  pub elements_are : HasElements at w found.verdict found.elements

abbrev pub HasCompared : Depth → HeldMap → ℕ → Part Compared → Type 0
HasCompared depth held at p = IsCompared depth held at p.bytes p.found

abbrev pub HasOwnElements : ℕ → Part Compared → Type 0
HasOwnElements at p = HasElements at p.bytes p.found.verdict p.found.elements

-- whatever rows the tables have: by elements a frame is found alike only where the rows at its offset are its blob's, as is said
-- of rows at an offset
abbrev pub IsSeen : (ℕ → Blob → Type 0) → Depth → ℕ → List ℕ → Comparison → List Element → Type 0
IsSeen has_rows depth at w verdict elements = depth ≡ Elements → verdict ≡ Ok Same → IsEntryOf (has_rows at) at w elements

abbrev pub HasSeen : (ℕ → Blob → Type 0) → Depth → ℕ → Part Compared → Type 0
HasSeen has_rows depth at p = IsSeen has_rows depth at p.bytes p.found.verdict p.found.elements

-- A frame was judged over a call on a store: how what was held compares with it, or its fault; and by elements what is seen of
-- the tables, whatever rows they had, if they were those of a store.
pub record Judges {K : Type 0} (store : ReaderOf K) (old new : K) (has_tables : Type 0) (has_rows : ℕ → Blob → Type 0) (rows_old rows_new : Rows) (depth : Depth) (at : ℕ) (w : List ℕ) (verdict : Comparison) : Type 0 where
  -- its elements, none where it is bad
  pub elements : List Element
  pub elements_are : HasElements at w verdict elements
  -- their rows were counted
  pub counted : CountsMore rows_old elements rows_new
  pub compared : OfHeld store old new (λ held. IsComparison depth held at w verdict)
  pub seen : store.is_honest new → store.is_open new → has_tables → IsSeen has_rows depth at w verdict elements

-- So it was, and these are the held extents that begin in it and aren't its own.
pub record Inspects {K : Type 0} (store : ReaderOf K) (old new : K) (has_tables : Type 0) (has_rows : ℕ → Blob → Type 0) (rows_old rows_new : Rows) (depth : Depth) (at : ℕ) (w : List ℕ) (verdict : Comparison) (extras : List Extent) : Type 0 where
  pub judged : Judges store old new has_tables has_rows rows_old rows_new depth at w verdict
  pub extras_are : OfHeld store old new (λ held. extras ≡ filter (begins (first_extra at verdict) (at + length w)) (extents_of held))

-- Any number of reads of a store has kept what it holds and its tables. A fault has its cause, and isn't that the tables are
-- another store's.
pub record ReadsAgain {K T : Type 0} (store : ReaderOf K) (old : K) (result : Result T StoreFault) (new : K) : Type 0 where
  pub same : KeepsTables store old new
  pub rereads : Rereads store old result new
  pub own : OfHeld store old new (λ _. IfErr result (λ fault. ¬ (IsForeign fault)))
  pub cause : IfErr result (HasCause (store.failures old) (store.failures new))
  pub counted : store.failures old ≤ store.failures new

-- ---- its lines

abbrev pub agreement_line : ℕ → Agreement → List ℕ
agreement_line at Same = []
agreement_line at Missing = codes "missing " ++ decimal at ++ codes "\n"
agreement_line at Differs = codes "differs " ++ decimal at ++ codes "\n"

abbrev pub comparison_line : ℕ → Comparison → List ℕ
comparison_line at (Ok agreement) = agreement_line at agreement
comparison_line at (Err fault) = fault_line (number_of fault) (name_of fault) at

abbrev pub extra_line : Extent → List ℕ
extra_line extent = codes "extra " ++ decimal extent.off ++ codes "\n"

abbrev pub extra_lines : List Extent → List ℕ
extra_lines extents = flat_map extra_line extents

abbrev pub compared_lines : ℕ → Part Compared → List ℕ
compared_lines at p = comparison_line at p.found.verdict ++ extra_lines p.found.extras

-- ---- the counts

abbrev pub is_missing : Comparison → Bool
is_missing (Ok Missing) = true
is_missing (Ok Same) = false
is_missing (Ok Differs) = false
is_missing (Err fault) = false

abbrev pub is_other : Comparison → Bool
is_other (Ok Differs) = true
is_other (Ok Same) = false
is_other (Ok Missing) = false
is_other (Err fault) = false

-- those of blobs, behind which so many more extents are extra; a count stops at 2^64 - 1
abbrev pub counts_of : List (Part Compared) → ℕ → Counts
counts_of blobs behind = record {
  blobs = capped (length blobs);
  bad = capped (count_by (λ p. is_err p.found.verdict) blobs);
  missing = capped (count_by (λ p. is_missing p.found.verdict) blobs);
  differs = capped (count_by (λ p. is_other p.found.verdict) blobs);
  extra = capped (sum_by (λ p. length p.found.extras) blobs + behind);
}

abbrev pub counts_line : Counts → List ℕ
counts_line c = codes "blobs " ++ decimal c.blobs ++ codes " missing " ++ decimal c.missing ++ codes " differs " ++ decimal c.differs ++ codes " extra " ++ decimal c.extra ++ codes "\n"

-- a frame of these bytes was counted, behind those that were before, and so were its rows
pub record CountsFrame (bytes : List ℕ) (old new : Counts) (rows_old rows_new : Rows) (p : Part Compared) : Type 0 where
  pub bytes_are : p.bytes ≡ bytes
  pub is_part : IsWholeFrame p
  pub counted : (blobs : List (Part Compared)) → old ≡ counts_of blobs 0 → new ≡ counts_of (blobs ++ p ∷ []) 0
  pub rows : CountsMore rows_old p.found.elements rows_new

-- there is a blob, and none is bad, missing or different, and no extent is extra
abbrev pub agree : Counts → Bool
agree c = nat_lt 0 c.blobs && ((c.bad == 0 && c.missing == 0) && (c.differs == 0 && c.extra == 0))

-- the counts of the rows of these blobs
abbrev pub rows_of : List (Part Compared) → Rows
rows_of blobs = counts_of_rows (map (λ (p : Part Compared). p.found.elements) blobs)

-- ---- the whole

-- why the store answered a fault
pub record IsBroken (before now : ℕ) (fault : StoreFault) : Type 0 where
  pub cause : HasCause before now fault
  pub own : ¬ (IsForeign fault)

-- the end of the input at this offset, with the extents that begin there or behind, or a fault of the store
abbrev pub IsClosing : HeldMap → ℕ → ℕ → ℕ → Close → Type 0
IsClosing held at before now (Whole extras) = extras.items ≡ filter (begins at MAX_OFFSET) (extents_of held)
IsClosing held at before now (Early stop) = ⊥
IsClosing held at before now (Broken fault off) = (off ≡ at) × IsBroken before now fault
IsClosing held at before now Unwritten = ⊥

-- How frames were compared behind which the next would stand at this offset, up to the end of the input, with the extents
-- that begin there or behind; or early, since the next frame can't be read; or since the store answered a fault at it or at
-- the end; or where the output has failed, and no more was read.
abbrev pub HasClosed : HeldMap → ℕ → Known → Bool → ℕ → ℕ → Close → Type 0
HasClosed held at left sink_failed before now (Whole extras) = IsAtEnd left × (extras.items ≡ filter (begins at MAX_OFFSET) (extents_of held))
HasClosed held at left sink_failed before now (Early stop) = HasEnded at left sink_failed (ending.Early stop)
HasClosed held at left sink_failed before now (Broken fault off) = (off ≡ at) × IsBroken before now fault
HasClosed held at left sink_failed before now Unwritten = sink_failed ≡ true

-- the line of a file that has no blob and so no header
abbrev pub header_line : List (Part Compared) → List ℕ
header_line [] = stop_line NoHeaderFirst 0
header_line (p ∷ blobs) = []

-- the counts where a frame has a fault; none where a read failed or memory was refused
abbrev pub counts_behind : List (Part Compared) → Stop → List ℕ
counts_behind blobs (Frame fault) = counts_line (counts_of blobs 0)
counts_behind blobs _ = []

abbrev pub close_text : Close → List (Part Compared) → List ℕ
close_text (Whole extras) blobs = header_line blobs ++ extra_lines extras.items ++ counts_line (counts_of blobs (length extras.items))
close_text (Early stop) blobs = stop_line stop.fault stop.at ++ counts_behind blobs stop.fault
close_text (Broken fault at) blobs = broken_line fault at
close_text Unwritten blobs = []

abbrev pub is_whole : Close → Bool
is_whole (Whole extras) = true
is_whole (Early stop) = false
is_whole (Broken fault at) = false
is_whole Unwritten = false

abbrev pub is_agreed : Close → List (Part Compared) → Bool
is_agreed (Whole extras) blobs = agree (counts_of blobs (length extras.items))
is_agreed (Early stop) blobs = false
is_agreed (Broken fault at) blobs = false
is_agreed Unwritten blobs = false

-- The input begins with these frames, each compared with what is held, and they ended so; each has its lines.
pub record ComparesBlobs (depth : Depth) (held : HeldMap) (left written_old written_new : Known) (sink_failed : Bool) (before now : ℕ) (blobs : List (Part Compared)) (close : Close) : Type 0 where
  pub found : AreFound (HasCompared depth held) 0 blobs
  pub behind : Known
  pub read : Consumes left behind (joined blobs)
  pub closed : HasClosed held (length (joined blobs)) behind sink_failed before now close
  pub lines : Wrote written_old (lines_from compared_lines 0 blobs) written_new sink_failed

-- so it begins with some frames, and these are their counts
abbrev pub ComparesInput : Depth → HeldMap → Known → Known → Known → Bool → ℕ → ℕ → Counts → Close → Type 0
ComparesInput depth held left written_old written_new sink_failed before now counts close =
    (blobs : List (Part Compared)) × ComparesBlobs depth held left written_old written_new sink_failed before now blobs close × (counts ≡ counts_of blobs 0)

-- What `verify` has told: the lines of the blobs, what ended them, the extents behind and the counts. The exit status is 0
-- exactly where the whole input was compared, it agrees, and the output hasn't failed.
pub record VerifiesInput (depth : Depth) (held : HeldMap) (left written_old written_new : Known) (sink_failed : Bool) (before now : ℕ) (status : ℕ) : Type 0 where
  pub blobs : List (Part Compared)
  pub close : Close
  pub found : AreFound (HasCompared depth held) 0 blobs
  pub behind : Known
  pub read : Consumes left behind (joined blobs)
  pub closed : HasClosed held (length (joined blobs)) behind sink_failed before now close
  pub text : Wrote written_old (lines_from compared_lines 0 blobs ++ close_text close blobs) written_new sink_failed
  pub status_is : status ≡ status_of (is_agreed close blobs) sink_failed

-- ---- whatever rows the tables have

-- where by elements all was found alike and nothing more, and SQL can count so many rows, the tables have so many
abbrev pub HasCountedRows : Type 0 → Type 0 → Layout → Trees → Depth → Counts → Rows → Close → Type 0
HasCountedRows is_open has_tables layout db depth counts rows (Whole extras) =
    depth ≡ Elements → agree counts ≡ true → extras.items ≡ [] → AreCountable rows → is_open × (has_tables → ShowsCounts layout db rows)
HasCountedRows is_open has_tables layout db depth counts rows (Early stop) = Unit {0}
HasCountedRows is_open has_tables layout db depth counts rows (Broken fault at) = Unit {0}
HasCountedRows is_open has_tables layout db depth counts rows Unwritten = Unit {0}

-- The whole input is these frames, so counted, with these extents behind. Where by elements all was found alike and nothing
-- more, and SQL can count their rows, the rows at the offset of each are those of its blob, and the tables have no more.
pub record HasSeenWhole (has_rows : ℕ → Blob → Type 0) (layout : Layout) (db : Trees) (depth : Depth) (left : Known) (counts : Counts) (blobs : List (Part Compared)) (extras : List Extent) : Type 0 where
  pub found : AreFound HasOwnElements 0 blobs
  pub behind : Known
  pub read : Consumes left behind (joined blobs)
  pub ended : IsAtEnd behind
  pub counted : counts ≡ counts_of blobs 0
  pub shown : depth ≡ Elements → agree counts ≡ true → extras ≡ [] → AreCountable (rows_of blobs) → AreFound (HasSeen has_rows depth) 0 blobs × ShowsCounts layout db (rows_of blobs)

abbrev pub HasSeenInput : (ℕ → Blob → Type 0) → Layout → Trees → Depth → Known → Counts → Close → Type 0
HasSeenInput has_rows layout db depth left counts (Whole extras) = (blobs : List (Part Compared)) × HasSeenWhole has_rows layout db depth left counts blobs extras.items
HasSeenInput has_rows layout db depth left counts (Early stop) = Unit {0}
HasSeenInput has_rows layout db depth left counts (Broken fault at) = Unit {0}
HasSeenInput has_rows layout db depth left counts Unwritten = Unit {0}

-- these are the elements of the frames; and where SQL can count their rows, the tables have the rows of what an import of the
-- frames to a new store comes to, as is said of rows at an offset, and no others, and queries see these there
pub record ShowsFile (has_rows : ℕ → Blob → Type 0) (layout : Layout) (db : Trees) (frames : List (List ℕ)) : Type 0 where
  pub blobs : List (List Element)
  pub are : AreEntries (λ off blob. Unit {0}) 0 frames blobs
  pub kept : AreCountable (counts_of_rows blobs) → KeepsImport has_rows layout db frames
  pub imported : AreCountable (counts_of_rows blobs) → ShowsImport layout db frames
