use Rattle.std.proofs.Common.{◌≡◌, ◌<◌, ◌≤◌, ◌+◌, ℕ}
use Rattle.std.specs.Prelude.{slice_index_or}
use Rattle.osm_rows.specs.declared.keeper.Extent.{Extent}
use Rattle.osm_rows.proofs.load.extents.are_apart.Given as goal

abbrev pub invariant-loop-extent : goal.invariant-loop-extent
invariant-loop-extent l = record {
  begun : l.extent-index ≡ 0 → l.end ≡ 0;
  last : (k : ℕ) (d : Extent) → k + 1 ≡ l.extent-index → l.end ≡ (slice_index_or l.extents k d).fin;
  past : (k : ℕ) (d : Extent) → k < l.extent-index → (slice_index_or l.extents k d).fin ≤ l.end;
  apart : (i j : ℕ) (d : Extent) → i < j → j < l.extent-index → (slice_index_or l.extents i d).fin ≤ (slice_index_or l.extents j d).off;
}
