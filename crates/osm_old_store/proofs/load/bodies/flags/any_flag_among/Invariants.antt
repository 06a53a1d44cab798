use Rattle.std.proofs.Common.{◌≡◌, drop}
use Rattle.std.specs.FinMap.{entries}
use Rattle.std.specs.List.{list_any}
use Rattle.sqlite.specs.State.{HasCleanDisk}
use Rattle.sqlite.specs.Held.{state}
use Rattle.osm_rows.specs.declared.schema.layout.Layout.TheVariants.{Bodies}
use Rattle.osm_sql_store.specs.Load.Asking.{JustAsks}
use Rattle.osm_rows.specs.Held.{HeldMap}
use Rattle.osm_rows.specs.Keeping.{extents_of}
use Rattle.osm_rows.specs.LayoutHolding.{Holds}
use Rattle.osm_rows.proofs.LoadLemmas.FlagLaws.{blob_has_flag}
use Rattle.osm_old_store.proofs.load.bodies.flags.any_flag_among.Given as goal

abbrev pub invariant-loop-extent : goal.invariant-loop-extent
invariant-loop-extent g l =
    let old = state g.S.Store l.fn.connection in
    let now = state g.S.Store l.connection in
    record {
      asks : JustAsks old now;
      read : HasCleanDisk now → (held : HeldMap) → Holds Bodies old held → l.extents ≡ extents_of held
          → Holds Bodies now held × (list_any blob_has_flag (drop l.extent-index (entries held)) ≡ list_any blob_has_flag (entries held));
    }
