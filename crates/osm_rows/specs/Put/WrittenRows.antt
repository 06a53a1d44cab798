-- The columns of the rows that are to be written.
use Rattle.std.specs.Prelude.{pos, [], ◌∷◌}
use Rattle.std.specs.Option.{option_copied}
use Rattle.sqlite.specs.declared.types.Value.TheVariants.{Int, Text as Words}
use Rattle.sqlite.specs.Order.{Row}
use Rattle.sqlite.specs.Values.{or_null}
use Rattle.osm_rows.specs.declared.put.table_row.ElementRow.{ElementRow}
use Rattle.osm_rows.specs.declared.put.table_row.TagRow.{TagRow}
use Rattle.osm_rows.specs.declared.put.table_row.LinkRow.{LinkRow}
use Rattle.osm_rows.specs.Rows.{element_code}
use Rattle.osm_rows.specs.TableRows.{flag}

-- of an element: what the file doesn't say is NULL
abbrev pub element_columns : ElementRow → Row
element_columns r =
    Int r.off ∷ Int r.position ∷ Int (pos (element_code r.kind)) ∷ Int r.id ∷ or_null Int r.lat ∷ or_null Int r.lon ∷ or_null Int r.version ∷ or_null Int r.time ∷ or_null Int r.changeset ∷ or_null Int r.uid
    ∷ or_null Words (option_copied r.user) ∷ or_null flag r.visible ∷ []

-- of a tag
abbrev pub tag_columns : TagRow → Row
tag_columns r = Int r.off ∷ Int r.position ∷ Int r.number ∷ Words r.key.now ∷ Words r.val.now ∷ []

-- of a node of a way, or of a member of a relation
abbrev pub link_columns : LinkRow → Row
link_columns r = Int r.off ∷ Int r.position ∷ Int r.number ∷ Int (pos (element_code r.kind)) ∷ Int r.id ∷ Words r.role.now ∷ []
