-- What a row of the table of bodies adds, from what `sqlite` says of its statement.
use Rattle.std.proofs.Common.{◌≡◌, ℕ, ℤ, List, [], ◌∷◌, append-nil, Ok, refl}
use Rattle.sqlite.specs.declared.types.Value.TheVariants.{Int, Blob as Octets}
use Rattle.sqlite.specs.Edit.{Applies}
use Rattle.sqlite.specs.Order.{Row}
use Rattle.sqlite.specs.State.{State, Executes, ExecutesInside}
use Rattle.sqlite_catalog.specs.Listing.{IsSound}
use Rattle.sqlite_schema.specs.declared.schema.Keys.TheVariants.{Enforced}
use Rattle.osm_rows.specs.Schema.Bodies.{body_schema, body}
use Rattle.osm_rows.specs.declared.schema.layout.Layout.TheVariants.{Bodies}
use Rattle.osm_sql_store.specs.Put.Steps.{AddsRow}
use Rattle.osm_sql_store.specs.Schema.Over.{IsWriting}
use Rattle.osm_sql_store.proofs.PutLemmas.Adds.{cast_null, cast_int, row_added}
use Rattle.osm_sql_store.proofs.PutLemmas.Inserts.{edit_for, inserts}
use Rattle.osm_sql_store.proofs.SchemaLemmas.MakeSteps.{becomes}
use Rattle.osm_old_store.specs.declared.schema.sql.TheConstants.{INSERT_BODY}
use Rattle.osm_old_store.proofs.SchemaLemmas.BodyTexts.{body_terms, body_text}

inserts_body : (params : Row) (old new : State) (count : ℕ) → old.now.schema ≡ body_schema → Executes INSERT_BODY.now params old new (Ok count)
    → (new.now.schema ≡ body_schema) × Applies body_schema Enforced old.now.trees (edit_for old.now.trees body params body_terms) new.now.trees × IsSound body_schema new.now.trees
inserts_body params = inserts body_schema INSERT_BODY.now 2 body body_terms params body_text refl refl (rw append-nil) (λ db news. refl)

abbrev five : ℤ → ℤ → ℤ → ℤ → List ℕ → Row
five off place kind id content = Int off ∷ Int place ∷ Int kind ∷ Int id ∷ Octets content ∷ []

pub adds_body : (old new : State) (off place kind id : ℤ) (content : List ℕ) (count : ℕ) → IsWriting Bodies old → ExecutesInside 0 INSERT_BODY.now (five off place kind id content) old new (Ok count)
    → AddsRow Bodies 2 old new (five off place kind id content)
adds_body old new off place kind id content count over h =
    let row = five off place kind id content in
    let it = inserts_body row old new count over.schema_is h.0 in
    record {
      becomes = becomes old new body_schema it.0 it.2 h.1;
      shown = h.1;
      others = it.1.tables;
      rows = row_added body_schema body old.now.trees new.now.trees row row body_terms it.1 (rw (cast_null, cast_int off, cast_int place, cast_int kind, cast_int id) refl);
    }
