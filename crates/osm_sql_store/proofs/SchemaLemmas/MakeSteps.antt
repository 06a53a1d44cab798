-- What the functions that make the tables do, from what `sqlite` says of their statements.
use Rattle.std.proofs.Common.{◌≡◌, ℕ, List, [], Ok, true, ap, ◌∙◌}
use Rattle.sqlite.specs.Tree.{put_row}
use Rattle.osm_rows.specs.Rows.{version_row}
use Rattle.sqlite.specs.Schema.{Schema}
use Rattle.sqlite.specs.Change.{next_tree}
use Rattle.sqlite.specs.Table.{Table}
use Rattle.std.specs.List.{AllByRecursion}
use Rattle.sqlite.proofs.InsideLemmas.{keeps_then}
use Rattle.sqlite.specs.State.{State, Shows, KeepsCommit, ExecutesInside}
use Rattle.sqlite_catalog.specs.Listing.{IsSound}
use Rattle.osm_rows.specs.declared.schema.sql.TheConstants.{CREATE_ELEMENT_INDEX}
use Rattle.osm_sql_store.specs.Schema.Stages.{with_link}
use Rattle.osm_rows.specs.declared.schema.layout.Layout.{Layout}
use Rattle.osm_rows.specs.declared.schema.layout.Layout.TheVariants.{Bodies, Tables}
use Rattle.osm_rows.specs.Schema.Tables.{element, table_schema}
use Rattle.osm_rows.specs.Schema.Layouts.{schema_of}
use Rattle.osm_sql_store.specs.Schema.Versions.{version_text_of}
use Rattle.osm_sql_store.specs.Schema.Over.{IsOver, IsWriting, Becomes}
use Rattle.osm_sql_store.specs.declared.schema.create.Making.{Making}
use Rattle.osm_sql_store.specs.declared.schema.create.Making.TheVariants as making
use Rattle.osm_sql_store.specs.Schema.Making.{text_of, before, after, made, Makes, MakesOver, HaveNoElements, MakesElements, WritesVersion, IsEmptyStore}
use Rattle.osm_sql_store.specs.Put.Steps.{KeepsOthers}
use Rattle.osm_sql_store.proofs.SchemaLemmas.TableTexts.{element_made, tag_made, link_made, element_index_made}
use Rattle.osm_sql_store.proofs.SchemaLemmas.SharedTexts.{meta_made, blob_made}
use Rattle.osm_sql_store.proofs.SchemaLemmas.Makes.{CreatesTable, creates, indexes}
use Rattle.osm_sql_store.proofs.PutLemmas.Inserts.{inserts_version}
use Rattle.osm_sql_store.proofs.PutLemmas.Adds.{version_added}

pub becomes : (old new : State) (schema : Schema) → new.now.schema ≡ schema → IsSound schema new.now.trees → Shows old new new.now old.committed true → Becomes old new schema
becomes old new schema is sound shown = record { over = record { schema_is = is; inside = shown.mode }; kept = record { was_open = λ _. shown.was_open; committed = λ _. shown.committed_is }; sound = sound }

module _ (old new : State) (count : ℕ) where
  pub made_table : (sql : List ℕ) (start end : Schema) (tables : List Table) (table : Table) → CreatesTable sql start table end → (new.now.trees (next_tree start) ≡ [] → AllByRecursion (λ (t : Table). new.now.trees t.tree ≡ []) tables)
      → IsOver start old → ExecutesInside 0 sql [] old new (Ok count) → MakesOver start end tables old new
  made_table sql start end tables table text empty over h =
      let it = creates sql start end table text old new count over.schema_is h.0 in
      record { becomes = becomes old new end it.0 it.1 h.1; others = it.3; empty = empty it.2 }

  table_made : (what : Making) (table : Table) → CreatesTable (text_of what) (before what) table (after what) → (new.now.trees (next_tree (before what)) ≡ [] → AllByRecursion (λ (t : Table). new.now.trees t.tree ≡ []) (made what))
      → IsOver (before what) old → ExecutesInside 0 (text_of what) [] old new (Ok count) → Makes what old new
  table_made what = made_table (text_of what) (before what) (after what) (made what)

  pub makes : (what : Making) → IsOver (before what) old → ExecutesInside 0 (text_of what) [] old new (Ok count) → Makes what old new
  makes making.Meta over h = table_made making.Meta _ meta_made (λ none. (none, tt)) over h
  makes making.Blob over h = table_made making.Blob _ blob_made (λ none. (none, tt)) over h
  makes making.Element over h = table_made making.Element _ element_made (λ none. (none, tt)) over h
  makes making.Tag over h = table_made making.Tag _ tag_made (λ none. (none, tt)) over h
  makes making.Link over h = table_made making.Link _ link_made (λ none. (none, tt)) over h
  makes making.ElementIndex over h =
      let it = indexes CREATE_ELEMENT_INDEX.now with_link table_schema 2 element _ element_index_made old new count over.schema_is h.0 in
      record { becomes = becomes old new table_schema it.0 it.1 h.1; others = it.2; empty = tt }

  -- the tables of elements stay without rows
  none_still : (layout : Layout) → KeepsOthers layout 0 old.now.trees new.now.trees → HaveNoElements layout old.now.trees → HaveNoElements layout new.now.trees
  none_still Bodies kept none = kept.1.1.0 (λ e. cc) ∙ none
  none_still Tables kept none = (kept.1.1.0 (λ e. cc) ∙ none.0, kept.1.1.1.0 (λ e. cc) ∙ none.1, kept.1.1.1.1.0 (λ e. cc) ∙ none.2)

  blob_still : (layout : Layout) → KeepsOthers layout 0 old.now.trees new.now.trees → new.now.trees 1 ≡ old.now.trees 1
  blob_still Bodies kept = kept.1.0 (λ e. cc)
  blob_still Tables kept = kept.1.0 (λ e. cc)

  pub writes_version : (layout : Layout) → IsWriting layout old → ExecutesInside 0 (version_text_of layout) [] old new (Ok count) → WritesVersion layout old new
  writes_version layout over h =
      let it = inserts_version layout old new count over.schema_is h.0 in
      record {
        becomes = becomes old new (schema_of layout) it.0 it.2 h.1;
        meta = version_added layout old.now.trees new.now.trees it.1;
        blob = blob_still layout it.1.tables;
        elements = none_still layout it.1.tables;
      }

-- ---- the tables of a layout

pub goes_to : (old mid new : State) (schema : Schema) → KeepsCommit old mid → Becomes mid new schema → Becomes old new schema
goes_to old mid new schema first last = record { over = last.over; kept = keeps_then old mid new first last.kept; sound = last.sound }

pub makes_tables : (old one two three new : State) → Makes making.Element old one → Makes making.Tag one two → Makes making.Link two three → Makes making.ElementIndex three new → MakesElements Tables old new
makes_tables old one two three new a b c d = record {
  becomes = goes_to old three new table_schema (keeps_then old two three (keeps_then old one two a.becomes.kept b.becomes.kept) c.becomes.kept) d.becomes;
  meta = d.others.0 ∙ c.others.0 ∙ b.others.0 ∙ a.others.0;
  blob = d.others.1.0 ∙ c.others.1.0 ∙ b.others.1.0 ∙ a.others.1.0;
  elements = (
    d.others.1.1.0 ∙ c.others.1.1.0 ∙ b.others.1.1.0 ∙ a.empty.0,
    d.others.1.1.1.0 ∙ c.others.1.1.1.0 ∙ b.empty.0,
    d.others.1.1.1.1.0 ∙ c.empty.0,
  );
}

-- all tables of a store that holds nothing
pub makes_empty_store : (layout : Layout) (old one two three new : State) → Makes making.Meta old one → Makes making.Blob one two → MakesElements layout two three → WritesVersion layout three new → IsEmptyStore layout new.now.trees
makes_empty_store layout old one two three new a b c d = record {
  sound = d.becomes.sound;
  meta = d.meta ∙ ap (put_row (version_row layout)) (c.meta ∙ b.others.0 ∙ a.empty.0);
  blob = d.blob ∙ c.blob ∙ b.empty.0;
  elements = d.elements c.elements;
}
