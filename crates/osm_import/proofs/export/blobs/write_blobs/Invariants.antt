use Rattle.std.proofs.Common.{◌≡◌, ◌≤◌, take}
use Rattle.std.specs.FinMap.{entries}
use Rattle.osm_rows.specs.Held.{HeldMap}
use Rattle.osm_rows.specs.Keeping.{extents_of}
use Rattle.osm_import.specs.Walks.{IsWithin, WritesInTurn, CompleteInTurn}
use Rattle.osm_import.proofs.export.blobs.write_blobs.Given as goal

abbrev pub invariant-loop-extent : goal.invariant-loop-extent
invariant-loop-extent g l =
    let K = g.K.BlobReader in
    let S = g.S.Sink in
    record {
      honest : K.is_honest l.keeper → K.is_honest l.fn.keeper;
      open_if : K.is_open l.keeper → K.is_open l.fn.keeper;
      kept : K.is_honest l.keeper → (held : HeldMap) → K.holds l.fn.keeper held → K.holds l.keeper held;
      crash : K.is_honest l.keeper → (held : HeldMap) → K.leaves l.keeper held → K.leaves l.fn.keeper held;
      whole : K.is_honest l.keeper → K.leaves_a_map l.fn.keeper → K.leaves_a_map l.keeper;
      counted : K.failures l.fn.keeper ≤ K.failures l.keeper;
      told : K.failures l.keeper ≡ K.failures l.fn.keeper;
      wrote : (held run : HeldMap) → K.holds l.fn.keeper held → K.is_honest l.keeper → IsWithin run held → l.extents ≡ extents_of run
          → WritesInTurn g.W.BlobStep.writes (S.written l.fn.out) (take l.extent-index (entries run)) (S.written l.out);
      complete : CompleteInTurn g.W.BlobStep.writes (S.written l.fn.out) (take l.extent-index l.extents) (S.written l.out);
    }
