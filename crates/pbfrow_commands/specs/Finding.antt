-- What the command `find` tells.
use Rattle.std.specs.Prelude.{◌⊎◌, List}
use Rattle.osm_rows.specs.Rows.{Placed}
use Rattle.pbfrow_commands.specs.CommandLines.{match_lines}
use Rattle.pbfrow_commands.specs.Status.{Tells, TellsFault}
use Rattle.pbfrow_commands.specs.Telling.{Telling}

-- a line for each match, or the line of a fault of the store
abbrev pub TellsMatches : List Placed → Telling → Type 0
TellsMatches matches t = Tells (match_lines matches) t.before t.after t.has_failed t.status ⊎ TellsFault t
