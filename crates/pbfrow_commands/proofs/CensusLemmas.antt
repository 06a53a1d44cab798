-- What `status --counts` tells.
use Rattle.std.proofs.Common.{◌≡◌, ℕ, Bool, List, ◌++◌, Option, sym, ap, ◌∙◌}
use Rattle.std.specs.Prelude.{length, codes}
use Rattle.osm_value.specs.Sink.{Wrote}
use Rattle.osm_rows.specs.Held.{HeldMap}
use Rattle.osm_reading.specs.Framings.{Known}
use Rattle.osm_reading.specs.Lines.{fault_line}
use Rattle.pbfrow_counts.specs.Counting.{CountHasCause, IsOfMap}
use Rattle.pbfrow_counts.specs.Lines.{element_counts_lines}
use Rattle.pbfrow_counts.specs.declared.fault.CountFault.{CountFault}
use Rattle.pbfrow_counts.specs.declared.fault.CountFault.TheVariants.{Miscounted, Store}
use Rattle.pbfrow_commands.specs.CommandLines.{counts_line, gap_lines}
use Rattle.pbfrow_commands.specs.Counting.{IsCensus, census_text, count_fault_line}
use Rattle.pbfrow_commands.specs.Status.{TellsFault, status_text}
use Rattle.pbfrow_commands.specs.Telling.{Telling}
use Rattle.pbfrow_commands.specs.declared.counts.Census.{Census}
use Rattle.pbfrow_commands.proofs.StatusLemmas.{status-line}

pub miscounted-line : (fault : CountFault) (off n : ℕ) (name : List ℕ) → fault ≡ Miscounted off → n ≡ 66 → name ≡ codes "NotThisStore" → fault_line n name off ≡ count_fault_line fault
miscounted-line fault off n name is number named =
    ap (λ m. fault_line m name off) number ∙ ap (λ (text : List ℕ). fault_line 66 text off) named ∙ sym (ap count_fault_line is)

pub census-line : (held : HeldMap) (size : Option ℕ) (c : Census) (gaps : List (ℕ × ℕ)) (count : ℕ) (start middle written : Known) (before failed : Bool) → IsCensus held size c → gaps ≡ c.holdings.gaps.items → count ≡ length gaps
    → Wrote start (gap_lines gaps ++ counts_line c.holdings.blobs c.holdings.end count) middle before
    → ((text : List ℕ) → Wrote start text middle before → Wrote start (text ++ element_counts_lines c.counts) written failed)
    → Wrote start (census_text held c.holdings.gaps.items c.counts) written failed
census-line held size c gaps count start middle written before failed census are many wrote more =
    more (status_text held c.holdings.gaps.items) (status-line held size c.holdings gaps count start middle before census.survey are many wrote)

-- the line of a fault over a held map, since the calls began
pub count-fault : (t : Telling) (fault : CountFault) → IsOfMap fault → CountHasCause t.failures_before t.failures_now fault → Wrote t.before (count_fault_line fault) t.after t.has_failed → t.status ≡ 1 → TellsFault t
count-fault t (Store fault) own cause line one = record { fault = fault; cause = cause; own = own; line = line; one = one }
count-fault t (Miscounted off) own cause line one = absurd own
