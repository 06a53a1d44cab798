-- What is seen of a store's blobs at which nothing is found.
use Rattle.std.specs.Prelude.{◌≡◌, ℕ, ◌+◌, List, length}
use Rattle.osm_value.specs.declared.element.Element.{Element}
use Rattle.osm_rows.specs.Audit.{counts_of, elements_held}
use Rattle.osm_rows.specs.Calls.{OfHeld}
use Rattle.osm_rows.specs.Held.{Blob}
use Rattle.osm_rows.specs.Keeping.{extents_of}
use Rattle.osm_rows.specs.declared.audit.counts.Counts.{Counts}
use Rattle.osm_rows.specs.declared.keeper.Extent.{Extent}
use Rattle.osm_rows.specs.declared.keeper.BlobReader.{Ghosts as ReaderOf}
use Rattle.osm_reading.specs.Framings.{Known}
use Rattle.osm_verify.specs.Agreements.{IsSame}
use Rattle.osm_verify.specs.Audits.{CountsMore, IsEntryOf}
use Rattle.osm_verify.specs.Calls.{OfRows}
use Rattle.osm_verify.specs.InFile.{IsIn}
use Rattle.osm_verify.specs.Judging.{AreEntriesIn}
use Rattle.osm_verify.specs.declared.comparing.Depth.{Depth}
use Rattle.osm_verify.specs.declared.comparing.Depth.TheVariants.{Elements}

-- The frame at this offset is good, and its rows were counted. The tables have had the rows of its blob there, as is said of rows
-- at an offset.
pub record SeesFrame {K : Type 0} (store : ReaderOf K) (new : K) (has_tables : Type 0) (has_rows : ℕ → Blob → Type 0) (depth : Depth) (rows_old rows_new : Counts) (off : ℕ) (frame : List ℕ) : Type 0 where
  pub elements : List Element
  pub good : IsEntryOf (λ entry. Unit {0}) off frame elements
  pub counted : CountsMore rows_old elements rows_new
  pub rows : OfRows store new has_tables depth (IsEntryOf (has_rows off) off frame elements)

-- From the offset of the extent to its end a frame of the file stands, of which that was seen, and what is held there is like its
-- entry.
pub record SeesExtent {K : Type 0} (store : ReaderOf K) (old new : K) (has_tables : Type 0) (has_rows : ℕ → Blob → Type 0) (depth : Depth) (rows_old rows_new : Counts) (known : Known) (extent : Extent) : Type 0 where
  pub frame : List ℕ
  pub within : IsIn known extent.off frame
  pub ends : extent.fin ≡ extent.off + length frame
  pub seen : SeesFrame store new has_tables has_rows depth rows_old rows_new extent.off frame
  pub same : OfHeld store old new (λ held. IsSame depth held extent.off frame)

-- The extents are those of good frames of the file, and these are the counts of the rows of their blobs. The tables have had the
-- rows of each of the blobs at its offset. By elements, if these are all extents that are held, what is held has as many rows.
pub record SeesExtents {K : Type 0} (store : ReaderOf K) (old new : K) (has_tables : Type 0) (has_rows : ℕ → Blob → Type 0) (depth : Depth) (counts : Counts) (known : Known) (extents : List Extent) : Type 0 where
  pub blobs : List (List Element)
  pub counted : counts ≡ counts_of blobs
  pub good : AreEntriesIn (λ off blob. Unit {0}) known extents blobs
  pub rows : OfRows store new has_tables depth (AreEntriesIn has_rows known extents blobs)
  pub held_rows : OfHeld store old new (λ held. extents ≡ extents_of held → depth ≡ Elements → counts ≡ counts_of (elements_held held))
