use Rattle.std.proofs.Common.{◌≡◌, ◌≤◌, ◌-◌, List}
use Rattle.osm_rows.specs.Held.{HeldMap}
use Rattle.pbfrow_commands.specs.Verifying.{Compared, HasCompared, compared_lines, counts_of, rows_of}
use Rattle.pbfrow_reading.specs.Walks.{Part}
use Rattle.pbfrow_commands.proofs.VerifyLemmas.{Reads}
use Rattle.pbfrow_reading.proofs.Walking.{Going}
use Rattle.pbfrow_commands.proofs.verify.compare_blobs.Given as goal

abbrev pub invariant-loop-frames : goal.invariant-loop-frames
invariant-loop-frames g l =
    let K = g.K.BlobReader in
    let A = g.K.Audited in
    record {
      honest : K.is_honest l.store → K.is_honest l.fn.store;
      open_if : K.is_open l.store → K.is_open l.fn.store;
      kept : K.is_honest l.store → (held : HeldMap) → K.holds l.fn.store held → K.holds l.store held;
      crash : K.is_honest l.store → (held : HeldMap) → K.leaves l.store held → K.leaves l.fn.store held;
      whole : K.is_honest l.store → K.leaves_a_map l.fn.store → K.leaves_a_map l.store;
      counted : K.failures l.fn.store ≤ K.failures l.store;
      end : l.end ≡ l.frames.offset;
      limit : l.end ≤ 4611686018427387904;
      going : (held : HeldMap) → K.holds l.fn.store held → K.is_honest l.store
          → (blobs : List (Part Compared)) × Going (HasCompared l.depth held) compared_lines (g.R.Read.remaining l.fn.input) l.frames (g.W.Write.contents l.fn.out.writer) (g.W.Write.contents l.out.writer) l.out.has_failed blobs
          × (l.counts ≡ counts_of blobs 0) × (l.rows ≡ rows_of blobs);
      same : K.is_honest l.store → K.is_open l.store → K.same_tables l.fn.store l.store;
      reads : (blobs : List (Part Compared)) × Reads (K.is_honest l.store × K.is_open l.store × A.has_tables l.fn.store) (A.has_rows (A.trees l.fn.store)) l.depth (g.R.Read.remaining l.fn.input) l.frames l.counts l.rows blobs;
    }

-- each frame ends at 2^62 at most
abbrev pub decreases-loop-frames : goal.decreases-loop-frames
decreases-loop-frames g l = 4611686018427387904 - l.frames.offset
