use Rattle.std.proofs.Common.{◌≡◌, ◌≤◌, ◌+◌, List, take}
use Rattle.std.specs.FinMap.{entries}
use Rattle.osm_rows.specs.Held.{HeldMap}
use Rattle.osm_rows.specs.Keeping.{KeepsList, extents_of}
use Rattle.osm_import.specs.Copies.{BlobCopied, IsMerged, AreCounted, held_among}
use Rattle.osm_import.specs.Stores.{CopiesEach, HoldsStill}
use Rattle.osm_import.proofs.CopyLemmas.{IsAt}
use Rattle.osm_import.proofs.copy.copy_blobs.Given as goal

abbrev pub invariant-loop-extent : goal.invariant-loop-extent
invariant-loop-extent g l =
    let F = g.F.BlobReader in
    let T = g.T.BlobReader in
    record {
      counts : l.copied + l.held ≡ l.extent-index;
      from_honest : F.is_honest l.from → F.is_honest l.fn.from;
      from_open_if : F.is_open l.from → F.is_open l.fn.from;
      from_kept : F.is_honest l.from → (source : HeldMap) → F.holds l.fn.from source → F.holds l.from source;
      from_crash : F.is_honest l.from → (source : HeldMap) → F.leaves l.from source → F.leaves l.fn.from source;
      from_whole : F.is_honest l.from → F.leaves_a_map l.fn.from → F.leaves_a_map l.from;
      from_counted : F.failures l.fn.from ≤ F.failures l.from;
      honest : T.is_honest l.to → T.is_honest l.fn.to;
      open_if : T.is_open l.to → T.is_open l.fn.to;
      counted : T.failures l.fn.to ≤ T.failures l.to;
      told : (F.failures l.from ≡ F.failures l.fn.from) × (T.failures l.to ≡ T.failures l.fn.to);
      kept : (held : HeldMap) → T.holds l.fn.to held → T.is_honest l.to → HoldsStill T l.to held;
      list : (held : HeldMap) → T.holds l.fn.to held → T.is_honest l.to → KeepsList T.lists l.fn.to l.to;
      each : (copies : List BlobCopied) × CopiesEach F T l.fn.from l.from l.fn.to l.to copies × AreCounted copies l.copied l.held;
      merged : (source held : HeldMap) → F.holds l.fn.from source → F.is_honest l.from → T.holds l.fn.to held → T.is_honest l.to → l.extents ≡ extents_of source
          → (after : HeldMap) × IsMerged (λ off. IsAt (take l.extent-index l.extents) off) source held after × T.holds l.to after × (l.held ≡ held_among held (take l.extent-index (entries source)));
    }
