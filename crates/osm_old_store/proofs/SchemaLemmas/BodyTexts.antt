-- What the texts mean that make and fill the table of bodies.
use Rattle.std.proofs.Common.{List, [], ◌∷◌, refl}
use Rattle.sqlite_tied.specs.Compute.{everything}
use Rattle.sqlite.specs.Term.{Term, lit, col}
use Rattle.sqlite.specs.declared.types.Value.TheVariants.{Null}
use Rattle.sqlite.specs.Listing.{understood}
use Rattle.osm_rows.specs.Schema.Bodies.{body, by_element, body_schema}
use Rattle.osm_sql_store.specs.Schema.Stages.{two_tables}
use Rattle.osm_sql_store.proofs.SchemaLemmas.StatementParts.{InsertsValues}
use Rattle.osm_sql_store.proofs.SchemaLemmas.Makes.{CreatesTable, CreatesIndex}
use Rattle.osm_old_store.specs.declared.schema.sql.TheConstants.{INSERT_BODY, CREATE_BODY, CREATE_BODY_INDEX}
use Rattle.osm_old_store.specs.Stages.{three_tables}

pub body_made : CreatesTable CREATE_BODY.now two_tables (record body { tree = 0 }) three_tables
unfolding understood everything
body_made = record { plain = (refl, refl); whole = refl; is = refl; defined = refl; made = refl; uncounted = refl }

pub index_made : CreatesIndex CREATE_BODY_INDEX.now three_tables 2 body (record by_element { tree = 0 }) body_schema
unfolding understood everything
index_made = record { plain = (refl, refl); whole = refl; is = refl; there = refl; defined = refl; made = refl }

abbrev pub body_terms : List Term
body_terms = lit Null ∷ col 0 0 ∷ col 0 1 ∷ col 0 2 ∷ col 0 3 ∷ col 0 4 ∷ []

pub body_text : InsertsValues body_schema INSERT_BODY.now 2 body_terms 6
unfolding understood everything
body_text = record { is = refl; plain = (refl, refl) }
