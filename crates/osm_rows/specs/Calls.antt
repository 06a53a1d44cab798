-- What is said of a call on a store: of the store before it, `old`, and after it, `new`.
use Rattle.osm_rows.specs.Held.{HeldMap}
use Rattle.osm_rows.specs.declared.keeper.BlobReader.{Ghosts}

-- of the map that the store held, where it has given what was written
abbrev pub OfHeld : {S : Type 0} → Ghosts S → S → S → (HeldMap → Type 0) → Type 0
OfHeld store old new P = (held : HeldMap) → store.holds old held → store.is_honest new → P held

-- where it has given what was written, and can go on, the tables are as they were
abbrev pub KeepsTables : {S : Type 0} → Ghosts S → S → S → Type 0
KeepsTables store old new = store.is_honest new → store.is_open new → store.same_tables old new
