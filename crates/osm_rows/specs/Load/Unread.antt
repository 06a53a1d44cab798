-- What a column means that doesn't read as wanted.
use Rattle.std.specs.Prelude.{None}
use Rattle.sqlite.specs.declared.error.Error.{Error}
use Rattle.sqlite.specs.declared.error.Error.TheVariants.{SqliteFailure}
use Rattle.sqlite.specs.declared.error.ErrorCode.TheVariants as code
use Rattle.osm_rows.specs.declared.fault.StoreFault.{StoreFault}
use Rattle.osm_rows.specs.declared.fault.StoreFault.TheVariants.{Memory, NotThisStore}

-- its row is that of no map, unless memory was refused
abbrev pub unread_fault : Error → StoreFault
unread_fault (SqliteFailure code.OutOfMemory) = Memory
unread_fault _ = NotThisStore None
