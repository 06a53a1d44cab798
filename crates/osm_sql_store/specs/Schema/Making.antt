-- Making the tables of a store that holds nothing.
use Rattle.std.specs.Prelude.{◌≡◌, ℕ, List, [], ◌∷◌, IsTrue}
use Rattle.std.specs.List.{AllByRecursion}
use Rattle.sqlite.specs.Change.{KeepsRows}
use Rattle.sqlite.specs.Schema.{Schema}
use Rattle.sqlite.specs.State.{State}
use Rattle.sqlite.specs.Table.{Table}
use Rattle.sqlite.specs.Tree.{Trees, put_row}
use Rattle.sqlite_catalog.specs.Listing.{IsSound}
use Rattle.osm_sql_store.specs.declared.schema.create.Making.{Making}
use Rattle.osm_sql_store.specs.declared.schema.create.Making.TheVariants as making
use Rattle.osm_rows.specs.declared.schema.layout.Layout.{Layout}
use Rattle.osm_rows.specs.declared.schema.layout.Layout.TheVariants.{Bodies, Tables}
use Rattle.osm_rows.specs.declared.schema.sql.TheConstants.{CREATE_META, CREATE_BLOB, CREATE_ELEMENT, CREATE_TAG, CREATE_LINK, CREATE_ELEMENT_INDEX}
use Rattle.osm_rows.specs.Schema.Bodies.{meta, blob}
use Rattle.osm_sql_store.specs.Schema.Stages.{no_schema, one_table, two_tables, with_element, with_tag, with_link}
use Rattle.osm_rows.specs.Schema.Tables.{element, tag, link, table_schema}
use Rattle.osm_rows.specs.Schema.Layouts.{schema_of}
use Rattle.osm_sql_store.specs.Schema.Over.{Becomes}
use Rattle.osm_rows.specs.Rows.{version_row}
use Rattle.osm_rows.specs.declared.trees.TheConstants.{BLOBS, ELEMENTS, LINKS, META, TAGS}

-- the statement that makes it
abbrev pub text_of : Making → List ℕ
text_of making.Meta = CREATE_META.now
text_of making.Blob = CREATE_BLOB.now
text_of making.Element = CREATE_ELEMENT.now
text_of making.Tag = CREATE_TAG.now
text_of making.Link = CREATE_LINK.now
text_of making.ElementIndex = CREATE_ELEMENT_INDEX.now

-- the schema over which a statement is run
abbrev pub before : Making → Schema
before making.Meta = no_schema
before making.Blob = one_table
before making.Element = two_tables
before making.Tag = with_element
before making.Link = with_tag
before making.ElementIndex = with_link

-- the schema that it leaves
abbrev pub after : Making → Schema
after making.Meta = one_table
after making.Blob = two_tables
after making.Element = with_element
after making.Tag = with_tag
after making.Link = with_link
after making.ElementIndex = table_schema

-- the table that it makes, if it makes no index
abbrev pub made : Making → List Table
made making.Meta = meta ∷ []
made making.Blob = blob ∷ []
made making.Element = element ∷ []
made making.Tag = tag ∷ []
made making.Link = link ∷ []
made making.ElementIndex = []

-- over the schema `before` a statement is run that leaves the schema `after`: the new table has no rows, and those that were
-- there are as they were
pub record MakesOver (before after : Schema) (made : List Table) (old new : State) : Type 0 where
  pub becomes : Becomes old new after
  pub others : KeepsRows before.tables old.now.trees new.now.trees
  pub empty : AllByRecursion (λ (t : Table). new.now.trees t.tree ≡ []) made

-- the statement is run
abbrev pub Makes : Making → State → State → Type 0
Makes what = MakesOver (before what) (after what) (made what)

-- the tables of elements have no rows
abbrev pub HaveNoElements : Layout → Trees → Type 0
HaveNoElements Bodies db = db ELEMENTS ≡ []
HaveNoElements Tables db = (db ELEMENTS ≡ []) × (db TAGS ≡ []) × (db LINKS ≡ [])

-- the tables of elements are made, and `meta` and `blob` are as they were
pub record MakesElements (layout : Layout) (old new : State) : Type 0 where
  pub becomes : Becomes old new (schema_of layout)
  pub meta : new.now.trees META ≡ old.now.trees META
  pub blob : new.now.trees BLOBS ≡ old.now.trees BLOBS
  pub elements : HaveNoElements layout new.now.trees

-- `meta` has the version's row more, and the other tables are as they were
pub record WritesVersion (layout : Layout) (old new : State) : Type 0 where
  pub becomes : Becomes old new (schema_of layout)
  pub meta : new.now.trees META ≡ put_row (version_row layout) (old.now.trees META)
  pub blob : new.now.trees BLOBS ≡ old.now.trees BLOBS
  pub elements : HaveNoElements layout old.now.trees → HaveNoElements layout new.now.trees

-- the tables of a store that holds nothing
pub record IsEmptyStore (layout : Layout) (db : Trees) : Type 0 where
  pub sound : IsSound (schema_of layout) db
  pub meta : db META ≡ version_row layout ∷ []
  pub blob : db BLOBS ≡ []
  pub elements : HaveNoElements layout db

-- The connection is open over a store that holds nothing, all that it sees is committed, and a crash leaves nothing else.
pub record IsNewStore (layout : Layout) (s : State) : Type 0 where
  pub is_open : IsTrue s.is_open
  pub schema_is : s.now.schema ≡ schema_of layout
  pub empty : IsEmptyStore layout s.now.trees
  pub committed : s.committed ≡ s.now
  pub settled : (db : Trees) → s.may_leave db → db ≡ s.now.trees
