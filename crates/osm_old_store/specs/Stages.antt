-- The schema while a store is made.
use Rattle.std.specs.Prelude.{[], ◌∷◌}
use Rattle.sqlite.specs.Schema.{Schema}
use Rattle.osm_rows.specs.Schema.Bodies.{meta, blob, body, by_place}

-- with the tables that all layouts have, and that of bodies
abbrev pub three_tables : Schema
three_tables = record { tables = meta ∷ blob ∷ body ∷ []; indexes = by_place ∷ []; views = [] }
