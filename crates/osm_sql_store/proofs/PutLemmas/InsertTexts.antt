-- What the texts mean that write rows of the layout of tables, one or 32 each.
use Rattle.std.proofs.Common.{◌≡◌, ℕ, suc, ◌/◌, List, length, refl}
use Rattle.sqlite_tied.specs.Compute.{everything}
use Rattle.sqlite.specs.Listing.{understood}
use Rattle.osm_sql_store.specs.declared.put.batch.Batch.{Batch}
use Rattle.osm_sql_store.specs.declared.put.batch.Batch.TheVariants.{One, ThirtyTwo}
use Rattle.osm_sql_store.specs.declared.schema.sql.TheConstants.{INSERT_ELEMENT, INSERT_TAG, INSERT_LINK, INSERT_ELEMENTS, INSERT_TAGS, INSERT_LINKS}
use Rattle.osm_sql_store.specs.Put.Batches.{rows_of, statement_of}
use Rattle.osm_rows.specs.Schema.Tables.{table_schema}
use Rattle.osm_sql_store.proofs.SchemaLemmas.StatementParts.{InsertsValues}
use Rattle.osm_sql_store.proofs.PutLemmas.ManyRows.{terms_of_rows}

-- the text writes so many rows of a table, each of this width, from its parameters
pub record IsInsert (at width count : ℕ) (sql : List ℕ) : Type 0 where
  pub text : InsertsValues table_schema sql at (terms_of_rows width count 0) (suc width)
  pub counts : length (terms_of_rows width count 0) / suc width ≡ count

pub element_text : (batch : Batch) → IsInsert 2 12 (rows_of batch) (statement_of batch INSERT_ELEMENT.now INSERT_ELEMENTS.now)
unfolding understood everything
element_text One = record { text = record { is = refl; plain = (refl, refl) }; counts = refl }
element_text ThirtyTwo = record { text = record { is = refl; plain = (refl, refl) }; counts = refl }

pub tag_text : (batch : Batch) → IsInsert 3 5 (rows_of batch) (statement_of batch INSERT_TAG.now INSERT_TAGS.now)
unfolding understood everything
tag_text One = record { text = record { is = refl; plain = (refl, refl) }; counts = refl }
tag_text ThirtyTwo = record { text = record { is = refl; plain = (refl, refl) }; counts = refl }

pub link_text : (batch : Batch) → IsInsert 4 6 (rows_of batch) (statement_of batch INSERT_LINK.now INSERT_LINKS.now)
unfolding understood everything
link_text One = record { text = record { is = refl; plain = (refl, refl) }; counts = refl }
link_text ThirtyTwo = record { text = record { is = refl; plain = (refl, refl) }; counts = refl }
