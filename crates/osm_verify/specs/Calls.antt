-- What is said of calls on a store, and on several of which one at a time is open.
use Rattle.std.specs.Prelude.{◌≡◌, ◌≤◌, List, Result}
use Rattle.osm_rows.specs.Calls.{KeepsTables}
use Rattle.osm_rows.specs.Held.{HeldMap}
use Rattle.osm_rows.specs.declared.keeper.BlobReader.{Ghosts as ReaderOf}
use Rattle.osm_import.specs.Stores.{Rereads}
use Rattle.osm_verify.specs.declared.comparing.Depth.{Depth}
use Rattle.osm_verify.specs.declared.comparing.Depth.TheVariants.{Elements}

-- Any number of reads of a store has kept its tables, what it holds and what a crash may leave, and has forgotten no failure.
pub record RereadsTables {K T E : Type 0} (store : ReaderOf K) (old : K) (result : Result T E) (new : K) : Type 0 where
  pub same : KeepsTables store old new
  pub rereads : Rereads store old result new
  pub counted : store.failures old ≤ store.failures new

-- of the rows that the tables have had, by elements, if these were the tables of a store, and it has given what was written and can
-- go on
abbrev pub OfRows : {K : Type 0} → ReaderOf K → K → Type 0 → Depth → Type 0 → Type 0
OfRows store new has_tables depth P = store.is_honest new → store.is_open new → has_tables → depth ≡ Elements → P

-- of the maps that several stores have held, if they have given what was written
abbrev pub OfMaps : {S : Type 0} → (S → List HeldMap → Type 0) → (S → Type 0) → S → S → (List HeldMap → Type 0) → Type 0
OfMaps holds is_honest old new P = (maps : List HeldMap) → holds old maps → is_honest new → P maps
