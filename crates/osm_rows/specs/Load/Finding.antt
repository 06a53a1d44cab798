-- What the rows of one kind and id stand for.
use Rattle.std.specs.Prelude.{List}
use Rattle.osm_rows.specs.declared.load.found.Found.{Found}
use Rattle.osm_rows.specs.Load.Loading.{StandFor}
use Rattle.osm_rows.specs.Rows.{Placed}

-- the rows are those of these elements, each in its blob
pub record AreMatches (found : Found) (matches : List Placed) : Type 0 where
  pub rows : StandFor found.rows matches
