-- What the functions do that make the table of bodies and its index, from what `sqlite` says of their statements.
use Rattle.std.proofs.Common.{ℕ, [], ◌∷◌, Ok, ◌∙◌}
use Rattle.sqlite.specs.State.{State, ExecutesInside}
use Rattle.osm_rows.specs.Schema.Bodies.{body, body_schema}
use Rattle.osm_rows.specs.declared.schema.layout.Layout.TheVariants.{Bodies}
use Rattle.osm_sql_store.specs.Schema.Making.{MakesElements, MakesOver}
use Rattle.osm_sql_store.specs.Schema.Over.{IsOver}
use Rattle.osm_sql_store.specs.Schema.Stages.{two_tables}
use Rattle.osm_sql_store.proofs.SchemaLemmas.Makes.{indexes}
use Rattle.osm_sql_store.proofs.SchemaLemmas.MakeSteps.{becomes, goes_to, made_table}
use Rattle.osm_old_store.specs.declared.schema.sql.TheConstants.{CREATE_BODY, CREATE_BODY_INDEX}
use Rattle.osm_old_store.specs.Stages.{three_tables}
use Rattle.osm_old_store.proofs.SchemaLemmas.BodyTexts.{body_made, index_made}

module _ (old new : State) (count : ℕ) where
  pub makes_body : IsOver two_tables old → ExecutesInside 0 CREATE_BODY.now [] old new (Ok count) → MakesOver two_tables three_tables (body ∷ []) old new
  makes_body over h = made_table old new count CREATE_BODY.now two_tables three_tables (body ∷ []) _ body_made (λ none. (none, tt)) over h

  pub makes_index : IsOver three_tables old → ExecutesInside 0 CREATE_BODY_INDEX.now [] old new (Ok count) → MakesOver three_tables body_schema [] old new
  makes_index over h =
      let it = indexes CREATE_BODY_INDEX.now three_tables body_schema 2 body _ index_made old new count over.schema_is h.0 in
      record { becomes = becomes old new body_schema it.0 it.1 h.1; others = it.2; empty = tt }

pub makes_bodies : (old mid new : State) → MakesOver two_tables three_tables (body ∷ []) old mid → MakesOver three_tables body_schema [] mid new → MakesElements Bodies old new
makes_bodies old mid new a b = record {
  becomes = goes_to old mid new body_schema a.becomes.kept b.becomes;
  meta = b.others.0 ∙ a.others.0;
  blob = b.others.1.0 ∙ a.others.1.0;
  elements = b.others.1.1.0 ∙ a.empty.0;
}
