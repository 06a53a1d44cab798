use Rattle.std.proofs.Common.{◌≡◌, ◌≤◌, List, length, take}
use Rattle.std.specs.List.{flat_map}
use Rattle.osm_value.specs.Sink.{Writes}
use Rattle.osm_rows.specs.Held.{HeldMap}
use Rattle.osm_rows.specs.Keeping.{KeepsList}
use Rattle.osm_import.specs.Stores.{HoldsStill}
use Rattle.osm_import.specs.declared.copy.CopyCounts.{CopyCounts}
use Rattle.pbfrow_commands.specs.Copying.{copied_line}
use Rattle.pbfrow_commands.specs.Merging.{AreCopied, total_of}
use Rattle.pbfrow_commands.proofs.merge.merge_each.Given as goal

abbrev pub invariant-loop-place : goal.invariant-loop-place
invariant-loop-place g l =
    let O = g.O.Openings in
    let S = g.S.Sink in
    let T = g.T.BlobReader in
    record {
      from_honest : O.is_honest l.openings → O.is_honest l.fn.openings;
      from_open_if : O.is_open l.openings → O.is_open l.fn.openings;
      from_kept : O.is_honest l.openings → (maps : List HeldMap) → O.holds l.fn.openings maps → O.holds l.openings maps;
      from_counted : O.failures l.fn.openings ≤ O.failures l.openings;
      counted : T.failures l.fn.into ≤ T.failures l.into;
      kept : (held : HeldMap) → T.holds l.fn.into held → T.is_honest l.into → HoldsStill T l.into held;
      list : (held : HeldMap) → T.holds l.fn.into held → T.is_honest l.into → KeepsList T.lists l.fn.into l.into;
      honest : T.is_honest l.into → T.is_honest l.fn.into;
      open_if : T.is_open l.into → T.is_open l.fn.into;
      copied : (counts : List CopyCounts) × (l.total ≡ total_of counts) × Writes (S.written l.fn.out) (S.has_failed l.fn.out) (S.written l.out) (S.has_failed l.out) (flat_map copied_line counts)
          × ((maps : List HeldMap) (held : HeldMap) → O.holds l.fn.openings maps → O.is_honest l.openings → length maps ≡ l.fn.count → T.holds l.fn.into held → T.is_honest l.into
          → (middle : HeldMap) × AreCopied (take l.place maps) counts held middle × T.holds l.into middle);
    }
