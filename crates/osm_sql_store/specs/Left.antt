-- What a crash has left of a store, and what is opened over it.
use Rattle.std.specs.Prelude.{Result, MatchResult}
use Rattle.sqlite.specs.Store.{Ghosts}
use Rattle.sqlite.specs.Held.{Held, state}
use Rattle.sqlite.specs.State.{State, HasCleanDisk, IsLive, Opens}
use Rattle.osm_rows.specs.declared.fault.StoreFault.{StoreFault}
use Rattle.osm_rows.specs.declared.schema.layout.Layout.{Layout}
use Rattle.osm_rows.specs.Held.{HeldMap}
use Rattle.osm_rows.specs.Keeping.{IsForeign}
use Rattle.osm_rows.specs.LayoutHolding.{Holds, LeavesAMap, MayLeave}
use Rattle.osm_sql_store.specs.Store.{Store}

-- said where a connection was opened, over an honest disk, over trees that a crash may have left of another, of which it left a map
abbrev pub WhereLeft : Layout → State → State → Type 0 → Type 0
WhereLeft layout before opened P = LeavesAMap layout before → before.may_leave opened.now.trees → HasCleanDisk opened → Opens opened → IsLive opened → P

-- the connection holds a map that the crash could leave
abbrev pub HoldsLeft : Layout → State → State → Type 0
HoldsLeft layout before opened = (left : HeldMap) × MayLeave layout before left × Holds layout opened left

-- the store that is adopted holds such a map, and it isn't refused as another store
abbrev pub AdoptsLeft : {S : Type 0} → Layout → Ghosts S → State → Result (Store S) (StoreFault × Held S) → Type 0
AdoptsLeft layout g before result = MatchResult result (λ store. HasCleanDisk (state g store.connection) → HoldsLeft layout before (state g store.connection))
    (λ e. HasCleanDisk (state g e.1) → ¬ (IsForeign e.0))
