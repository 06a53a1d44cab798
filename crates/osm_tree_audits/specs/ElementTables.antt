-- The tables that have rows for the elements of a blob: those of elements, of tags and of links.
use Rattle.std.specs.Prelude.{ℕ, List, [], ◌∷◌}
use Rattle.sqlite_value.specs.Order.{Row}
use Rattle.osm_rows.specs.Rows.{Placed}
use Rattle.osm_rows.specs.TableRows.{element_rows, tag_rows, link_rows}
use Rattle.osm_tree_audits.specs.declared.tables.ElementTable.{ElementTable}
use Rattle.osm_tree_audits.specs.declared.tables.ElementTable.TheVariants.{Elements, Tags, Links}

-- the number of its tree
abbrev pub table_of : ElementTable → ℕ
table_of Elements = 2
table_of Tags = 4
table_of Links = 6

-- that of the index of its primary key, and how many columns this has
abbrev pub index_of : ElementTable → ℕ
index_of Elements = 3
index_of Tags = 5
index_of Links = 7

abbrev pub width_of : ElementTable → ℕ
width_of Elements = 2
width_of Tags = 3
width_of Links = 3

-- these columns, of which the rowid is number 0
abbrev pub key_of : ElementTable → List ℕ
key_of Elements = 1 ∷ 2 ∷ []
key_of Tags = 1 ∷ 2 ∷ 3 ∷ []
key_of Links = 1 ∷ 2 ∷ 3 ∷ []

-- the rows that it has for some elements
abbrev pub rows_in : ElementTable → List Placed → List Row
rows_in Elements = element_rows
rows_in Tags = tag_rows
rows_in Links = link_rows
