-- What the texts mean that make and fill the layout of tables.
use Rattle.std.proofs.Common.{List, [], ◌∷◌, refl, pos}
use Rattle.sqlite_tied.specs.Compute.{everything}
use Rattle.sqlite.specs.Term.{Term, lit}
use Rattle.sqlite.specs.declared.types.Value.TheVariants.{Null, Int}
use Rattle.sqlite.specs.Listing.{understood}
use Rattle.osm_sql_store.specs.declared.schema.sql.TheConstants.{INSERT_BLOB, INSERT_TABLE_VERSION}
use Rattle.osm_rows.specs.declared.schema.sql.TheConstants.{CREATE_ELEMENT, CREATE_TAG, CREATE_LINK, CREATE_ELEMENT_INDEX}
use Rattle.osm_sql_store.specs.Schema.Stages.{two_tables, with_element, with_tag, with_link}
use Rattle.osm_rows.specs.Schema.Tables.{element, tag, link, element_by_id, table_schema}
use Rattle.osm_sql_store.proofs.SchemaLemmas.SharedTexts.{blob_terms}
use Rattle.osm_sql_store.proofs.SchemaLemmas.StatementParts.{InsertsValues}
use Rattle.osm_sql_store.proofs.SchemaLemmas.Makes.{CreatesTable, CreatesIndex}
use Rattle.osm_rows.proofs.SchemaLemmas.TablesDefined.{element_defined, link_defined, tag_defined}

pub element_made : CreatesTable CREATE_ELEMENT.now two_tables (record element { tree = 0 }) with_element
unfolding understood everything
element_made = record { plain = (refl, refl); whole = refl; is = refl; defined = element_defined; made = refl; uncounted = refl }

pub tag_made : CreatesTable CREATE_TAG.now with_element (record tag { tree = 0 }) with_tag
unfolding understood everything
tag_made = record { plain = (refl, refl); whole = refl; is = refl; defined = tag_defined; made = refl; uncounted = refl }

pub link_made : CreatesTable CREATE_LINK.now with_tag (record link { tree = 0 }) with_link
unfolding understood everything
link_made = record { plain = (refl, refl); whole = refl; is = refl; defined = link_defined; made = refl; uncounted = refl }

pub element_index_made : CreatesIndex CREATE_ELEMENT_INDEX.now with_link 2 element (record element_by_id { tree = 0 }) table_schema
unfolding understood everything
element_index_made = record { plain = (refl, refl); whole = refl; is = refl; there = refl; defined = refl; made = refl }

abbrev pub table_version_terms : List Term
table_version_terms = lit (Int (pos 2)) ∷ lit Null ∷ []

pub table_version_text : InsertsValues table_schema INSERT_TABLE_VERSION.now 0 table_version_terms 2
unfolding understood everything
table_version_text = record { is = refl; plain = (refl, refl) }

pub table_blob_text : InsertsValues table_schema INSERT_BLOB.now 1 blob_terms 6
unfolding understood everything
table_blob_text = record { is = refl; plain = (refl, refl) }
