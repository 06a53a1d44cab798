-- What is said of a call on two stores.
use Rattle.osm_rows.specs.Held.{HeldMap}
use Rattle.osm_rows.specs.declared.keeper.BlobReader.{Ghosts}

-- of the maps that both stores held, where both have given what was written
abbrev pub OfBoth : {F T : Type 0} → Ghosts F → Ghosts T → F → F → T → T → (HeldMap → HeldMap → Type 0) → Type 0
OfBoth from to first last old new P = (source held : HeldMap) → from.holds first source → from.is_honest last → to.holds old held → to.is_honest new → P source held
