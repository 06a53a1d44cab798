use Rattle.std.proofs.Common.{◌≡◌, ◌∙◌, ◌&&◌, Bool, true, refl, ap}
use Rattle.sqlite_schema.specs.Names.{same_name}
use Rattle.sqlite.specs.Schema.{Schema}
use Rattle.osm_rows.specs.Schema.Bodies.{meta, blob}
use Rattle.osm_rows.specs.Schema.Tables.{element, tag, link, table_schema}
use Rattle.osm_sql_store.specs.Schema.Named.{has_table, names_of}
use Rattle.osm_sql_store.proofs.schema.tables.has_tables.Goals as goal

abbrev has_shared : Schema → Bool
has_shared s = has_table s meta.name (names_of meta) && has_table s blob.name (names_of blob)

abbrev has_elements : Schema → Bool
has_elements s = has_table s element.name (names_of element) && has_table s tag.name (names_of tag) && has_table s link.name (names_of link)

shared_by_tables : has_shared table_schema ≡ true
unfolding same_name
shared_by_tables = refl

elements_by_tables : has_elements table_schema ≡ true
unfolding same_name
elements_by_tables = refl

pub returns-then-has_shared_tables-clause-own : goal.returns-then-has_shared_tables-clause-own
returns-then-has_shared_tables-clause-own c same = c.has_element_tables.ensures ∙ ap has_elements same ∙ elements_by_tables

pub returns-else-has_shared_tables-clause-own : goal.returns-else-has_shared_tables-clause-own
returns-else-has_shared_tables-clause-own c same = c.has_shared_tables.ensures ∙ ap has_shared same ∙ shared_by_tables
