-- What the command `status --counts` writes.
use Rattle.std.specs.Prelude.{◌⊎◌, ℕ, List, ◌++◌, Option}
use Rattle.std.specs.FinMap.{entries}
use Rattle.osm_rows.specs.Held.{HeldMap}
use Rattle.osm_rows.specs.Keeping.{extents_of}
use Rattle.osm_reading.specs.Lines.{fault_line}
use Rattle.osm_import.specs.Exports.{size_of}
use Rattle.osm_import.specs.Gaps.{AreGaps}
use Rattle.pbfrow_commands.specs.CommandLines.{store_fault_line}
use Rattle.pbfrow_counts.specs.Counting.{AreCounts, count_number_of, count_name_of, elements_of}
use Rattle.pbfrow_counts.specs.Lines.{element_counts_lines}
use Rattle.pbfrow_counts.specs.declared.elements.ElementCounts.{ElementCounts}
use Rattle.pbfrow_counts.specs.declared.fault.CountFault.{CountFault}
use Rattle.pbfrow_counts.specs.declared.fault.CountFault.TheVariants.{Miscounted, Store}
use Rattle.pbfrow_commands.specs.Status.{IsSurvey, Tells, TellsFault, status_text}
use Rattle.pbfrow_commands.specs.Telling.{Telling}
use Rattle.pbfrow_commands.specs.declared.counts.Census.{Census}

-- the line of why elements weren't counted, with the offset of a blob whose elements are others than its row counts
abbrev pub count_fault_line : CountFault → List ℕ
count_fault_line (Miscounted off) = fault_line (count_number_of (Miscounted off)) (count_name_of (Miscounted off)) off
count_fault_line (Store fault) = store_fault_line fault

-- what is held, and the counts of its elements
pub record IsCensus (held : HeldMap) (size : Option ℕ) (census : Census) : Type 0 where
  pub survey : IsSurvey held size census.holdings
  pub counts : AreCounts (elements_of (entries held)) census.counts

-- what `status` writes, and then the lines of the counts of the elements
abbrev pub census_text : HeldMap → List (ℕ × ℕ) → ElementCounts → List ℕ
census_text held gaps counts = status_text held gaps ++ element_counts_lines counts

-- what `status` writes of this map, and the counts of its elements, went out; or the line of a fault of the store, with its
-- cause
abbrev pub TellsCounts : Option ℕ → HeldMap → Telling → Type 0
TellsCounts size held t =
    ((gaps : List (ℕ × ℕ)) × (counts : ElementCounts) × AreGaps held (size_of size (extents_of held)) gaps
    × AreCounts (elements_of (entries held)) counts × Tells (census_text held gaps counts) t.before t.after t.has_failed t.status)
    ⊎ TellsFault t
