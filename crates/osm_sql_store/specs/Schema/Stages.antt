-- The schema while a store is made.
use Rattle.std.specs.Prelude.{[], ◌∷◌}
use Rattle.sqlite.specs.Schema.{Schema}
use Rattle.osm_rows.specs.Schema.Bodies.{meta, blob}
use Rattle.osm_rows.specs.Schema.Tables.{element, element_key, link, link_key, tag, tag_key}

-- a database without tables, indexes and views
abbrev pub no_schema : Schema
no_schema = record { tables = []; indexes = []; views = [] }

-- with the first table that all layouts have, `meta`
abbrev pub one_table : Schema
one_table = record { tables = meta ∷ []; indexes = []; views = [] }

-- with both tables that all layouts have, `meta` and `blob`
abbrev pub two_tables : Schema
two_tables = record { tables = meta ∷ blob ∷ []; indexes = []; views = [] }

-- and then with those of the layout of tables, one after the other
abbrev pub with_element : Schema
with_element = record { tables = meta ∷ blob ∷ element ∷ []; indexes = element_key ∷ []; views = [] }

abbrev pub with_tag : Schema
with_tag = record { tables = meta ∷ blob ∷ element ∷ tag ∷ []; indexes = element_key ∷ tag_key ∷ []; views = [] }

abbrev pub with_link : Schema
with_link = record { tables = meta ∷ blob ∷ element ∷ tag ∷ link ∷ []; indexes = element_key ∷ tag_key ∷ link_key ∷ []; views = [] }
