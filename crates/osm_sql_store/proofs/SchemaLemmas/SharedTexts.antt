-- What the texts mean that make the tables which both layouts have, and those that fill them in the layout of bodies.
use Rattle.std.proofs.Common.{List, [], ◌∷◌, refl, pos}
use Rattle.sqlite_tied.specs.Compute.{everything}
use Rattle.sqlite.specs.Term.{Term, lit, col}
use Rattle.sqlite.specs.declared.types.Value.TheVariants.{Null, Int}
use Rattle.sqlite.specs.Listing.{understood}
use Rattle.osm_sql_store.specs.declared.schema.sql.TheConstants.{INSERT_BODY_VERSION, INSERT_BLOB}
use Rattle.osm_rows.specs.declared.schema.sql.TheConstants.{CREATE_META, CREATE_BLOB}
use Rattle.osm_rows.specs.Schema.Bodies.{meta, blob, body_schema}
use Rattle.osm_sql_store.specs.Schema.Stages.{no_schema, one_table, two_tables}
use Rattle.osm_rows.proofs.SchemaLemmas.TablesDefined.{meta_defined, blob_defined}
use Rattle.osm_sql_store.proofs.SchemaLemmas.StatementParts.{InsertsValues}
use Rattle.osm_sql_store.proofs.SchemaLemmas.Makes.{CreatesTable}

pub meta_made : CreatesTable CREATE_META.now no_schema meta one_table
unfolding understood everything
meta_made = record { plain = (refl, refl); whole = refl; is = refl; defined = meta_defined; made = refl; uncounted = refl }

pub blob_made : CreatesTable CREATE_BLOB.now one_table (record blob { tree = 0 }) two_tables
unfolding understood everything
blob_made = record { plain = (refl, refl); whole = refl; is = refl; defined = blob_defined; made = refl; uncounted = refl }

abbrev pub version_terms : List Term
version_terms = lit (Int (pos 1)) ∷ lit Null ∷ []

abbrev pub blob_terms : List Term
blob_terms = col 0 0 ∷ lit Null ∷ col 0 1 ∷ col 0 2 ∷ col 0 3 ∷ col 0 4 ∷ []

pub version_text : InsertsValues body_schema INSERT_BODY_VERSION.now 0 version_terms 2
unfolding understood everything
version_text = record { is = refl; plain = (refl, refl) }

pub blob_text : InsertsValues body_schema INSERT_BLOB.now 1 blob_terms 6
unfolding understood everything
blob_text = record { is = refl; plain = (refl, refl) }
