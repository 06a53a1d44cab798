-- The tables that an audit asks, and the statements.
use Rattle.std.specs.Prelude.{◌≡◌, ℕ, List, [], ◌∷◌}
use Rattle.sqlite.specs.Order.{Row}
use Rattle.sqlite.specs.Schema.{Schema}
use Rattle.sqlite.specs.Tree.{Trees}
use Rattle.osm_value.specs.declared.element.Element.{Element}
use Rattle.osm_rows.specs.Audit.{HasAt, ShowElementsAt, seen_extents, seen_elements, seen_tags, seen_links}
use Rattle.osm_sql_store.specs.declared.audit.table.AuditedTable.{AuditedTable}
use Rattle.osm_sql_store.specs.declared.audit.table.AuditedTable.TheVariants.{Blobs, Elements, Tags, Links}
use Rattle.osm_rows.specs.declared.keeper.Extent.{Extent}
use Rattle.osm_rows.specs.declared.schema.layout.Layout.{Layout}
use Rattle.osm_sql_store.specs.declared.schema.sql.TheConstants.{COUNT_BLOBS, COUNT_ELEMENTS, COUNT_TAGS, COUNT_LINKS, SELECT_EXTENT, SELECT_ELEMENTS, SELECT_TAGS, SELECT_LINKS}
use Rattle.osm_rows.specs.Rows.{placed, extent_columns}
use Rattle.osm_rows.specs.Schema.Layouts.{schema_of}
use Rattle.osm_rows.specs.Schema.Tables.{table_schema}
use Rattle.osm_rows.specs.TableRows.{element_rows, tag_rows, link_rows}

-- the schema is that of a layout with this table
abbrev pub HasTable : AuditedTable → Schema → Type 0
HasTable Blobs schema = (layout : Layout) × (schema ≡ schema_of layout)
HasTable _ schema = schema ≡ table_schema

abbrev pub tree_of : AuditedTable → ℕ
tree_of Blobs = 1
tree_of Elements = 2
tree_of Tags = 4
tree_of Links = 6

-- what queries see of it
abbrev pub seen_in : AuditedTable → Trees → List Row
seen_in Blobs = seen_extents
seen_in Elements = seen_elements
seen_in Tags = seen_tags
seen_in Links = seen_links

-- the rows that it has of a blob, in the order of its key
abbrev pub rows_in : AuditedTable → Extent → List Element → List Row
rows_in Blobs extent elements = extent_columns extent ∷ []
rows_in Elements extent elements = element_rows (placed extent.off 0 elements)
rows_in Tags extent elements = tag_rows (placed extent.off 0 elements)
rows_in Links extent elements = link_rows (placed extent.off 0 elements)

-- at the offset of an extent `blob` has its row, the tables of elements have those that these elements stand for, and none has more
abbrev pub ShowsRows : Layout → Extent → List Element → Trees → Type 0
ShowsRows layout extent elements db = HasAt extent.off (extent_columns extent ∷ []) (seen_extents db) × ShowElementsAt layout extent.off (placed extent.off 0 elements) db

-- the text of the statement that counts its rows
abbrev pub count_statement : AuditedTable → List ℕ
count_statement Blobs = COUNT_BLOBS.now
count_statement Elements = COUNT_ELEMENTS.now
count_statement Tags = COUNT_TAGS.now
count_statement Links = COUNT_LINKS.now

-- the text of the one that selects its rows at an offset
abbrev pub select_statement : AuditedTable → List ℕ
select_statement Blobs = SELECT_EXTENT.now
select_statement Elements = SELECT_ELEMENTS.now
select_statement Tags = SELECT_TAGS.now
select_statement Links = SELECT_LINKS.now
