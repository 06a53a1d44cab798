-- What a call that asks tells of the tables.
use Rattle.std.specs.Prelude.{◌≡◌, ◌↔◌, Bool, IsTrue, IfOk, MatchResult, Result}
use Rattle.sqlite.specs.Schema.{Schema}
use Rattle.sqlite.specs.State.{State, HasCleanDisk}
use Rattle.sqlite.specs.Tree.{Trees}
use Rattle.osm_rows.specs.declared.fault.StoreFault.{StoreFault}
use Rattle.osm_rows.specs.declared.schema.layout.Layout.{Layout}
use Rattle.osm_rows.specs.Held.{HeldMap}
use Rattle.osm_rows.specs.Keeping.{IsForeign}
use Rattle.osm_rows.specs.LayoutHolding.{Holds}

-- Where the tables held this map, over an honest disk: this is so of the answer, and the connection can go on; or there is a
-- fault, which isn't that the tables are another store's.
abbrev pub TellsOf : {T : Type 0} → Layout → HeldMap → State → Result T StoreFault → State → (T → Type 0) → Type 0
TellsOf layout held old result new P = HasCleanDisk new → Holds layout old held → MatchResult result (λ v. P v × IsTrue new.is_open) (λ fault. ¬ (IsForeign fault))

-- Where the database had this schema, and nothing was written beyond the last commit, over an honest disk: the answer is
-- whether this is so of the rows, whatever rows they are.
abbrev pub TellsWhether : Schema → State → Result Bool StoreFault → State → (Trees → Type 0) → Type 0
TellsWhether schema old result new P = HasCleanDisk new → old.now ≡ old.committed → old.now.schema ≡ schema → IfOk result (λ told. IsTrue told ↔ P old.now.trees)
