-- What the command `status` writes.
use Rattle.std.specs.Prelude.{◌≡◌, ◌⊎◌, ℕ, Bool, true, List, ◌++◌, length, Option}
use Rattle.std.specs.FinMap.{entries}
use Rattle.std.specs.Io.KnownBytes.{Appends}
use Rattle.osm_value.specs.Sink.{AppendsFront, Wrote}
use Rattle.osm_rows.specs.Held.{HeldMap}
use Rattle.osm_rows.specs.Keeping.{IsForeign, extents_of}
use Rattle.osm_rows.specs.declared.fault.StoreFault.{StoreFault}
use Rattle.osm_reading.specs.Framings.{Known}
use Rattle.osm_import.specs.Exports.{greatest_end, size_of}
use Rattle.osm_import.specs.Gaps.{AreGaps}
use Rattle.osm_import.specs.Step.{HasCause}
use Rattle.pbfrow_commands.specs.CommandLines.{counts_line, gap_lines, store_fault_line}
use Rattle.pbfrow_commands.specs.Telling.{Telling}
use Rattle.pbfrow_commands.specs.declared.status.Holdings.{Holdings}

-- the text went out, and the exit status is 0; or a front of it, the output has failed, and it is 1
abbrev pub Tells : List ℕ → Known → Known → Bool → ℕ → Type 0
Tells text old new failed status = ((status ≡ 0) × Appends old new text) ⊎ ((status ≡ 1) × (failed ≡ true) × AppendsFront old new text)

-- the line of a fault of the store went out, with its cause, and the exit status is 1; it isn't that the tables are another store's
pub record TellsFault (t : Telling) : Type 0 where
  pub fault : StoreFault
  pub cause : HasCause t.failures_before t.failures_now fault
  pub own : ¬ (IsForeign fault)
  pub line : Wrote t.before (store_fault_line fault) t.after t.has_failed
  pub one : t.status ≡ 1

-- what is held: how many blobs, the greatest end, and the gaps up to the size or else that end
pub record IsSurvey (held : HeldMap) (size : Option ℕ) (h : Holdings) : Type 0 where
  pub blobs : h.blobs ≡ length (entries held)
  pub end : h.end ≡ greatest_end (extents_of held)
  pub gaps : AreGaps held (size_of size (extents_of held)) h.gaps.items

-- a line for each gap, and then the counts
abbrev pub status_text : HeldMap → List (ℕ × ℕ) → List ℕ
status_text held gaps = gap_lines gaps ++ counts_line (length (entries held)) (greatest_end (extents_of held)) (length gaps)

-- the gaps and the counts of this map went out; or the line of a fault of the store, with its cause
abbrev pub TellsStatus : Option ℕ → HeldMap → Telling → Type 0
TellsStatus size held t =
    ((gaps : List (ℕ × ℕ)) × AreGaps held (size_of size (extents_of held)) gaps × Tells (status_text held gaps) t.before t.after t.has_failed t.status)
    ⊎ TellsFault t
