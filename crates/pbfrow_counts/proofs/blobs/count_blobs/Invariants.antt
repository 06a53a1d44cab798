use Rattle.std.proofs.Common.{◌≡◌, ◌≤◌, take}
use Rattle.std.specs.FinMap.{entries}
use Rattle.std.specs.List.{sum_by}
use Rattle.osm_rows.specs.Held.{HeldMap}
use Rattle.osm_rows.specs.Keeping.{extents_of}
use Rattle.osm_rows.specs.declared.keeper.Extent.{Extent}
use Rattle.osm_import.specs.Walks.{IsWithin}
use Rattle.pbfrow_counts.specs.Counting.{CountsMore, CountsSoMany, elements_of}
use Rattle.pbfrow_counts.proofs.blobs.count_blobs.Given as goal

abbrev pub invariant-loop-extent : goal.invariant-loop-extent
invariant-loop-extent g l =
    let K = g.K.BlobReader in
    record {
      honest : K.is_honest l.keeper → K.is_honest l.fn.keeper;
      open_if : K.is_open l.keeper → K.is_open l.fn.keeper;
      kept : K.is_honest l.keeper → (held : HeldMap) → K.holds l.fn.keeper held → K.holds l.keeper held;
      crash : K.is_honest l.keeper → (held : HeldMap) → K.leaves l.keeper held → K.leaves l.fn.keeper held;
      whole : K.is_honest l.keeper → K.leaves_a_map l.fn.keeper → K.leaves_a_map l.keeper;
      counted : K.failures l.fn.keeper ≤ K.failures l.keeper;
      told : K.failures l.keeper ≡ K.failures l.fn.keeper;
      held : (held run : HeldMap) → K.holds l.fn.keeper held → K.is_honest l.keeper → IsWithin run held → l.extents ≡ extents_of run
          → CountsMore l.fn.counts (elements_of (take l.extent-index (entries run))) l.counts;
      complete : CountsSoMany l.fn.counts (sum_by (λ (e : Extent). e.n) (take l.extent-index l.extents)) l.counts;
    }
