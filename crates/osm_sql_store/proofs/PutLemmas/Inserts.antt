-- What an INSERT of one row does to the tables.
use Rattle.std.proofs.Common.{◌≡◌, ℕ, pos, List, [], ◌∷◌, append-nil, length, slice_get, Bool, false, MatchBool, if◌then◌else◌, Option, Some, None, Ok, refl, sym, ap, subst, ◌∙◌}
use Rattle.sqlite.specs.Order.{Row}
use Rattle.sqlite.specs.Term.{Term}
use Rattle.sqlite.specs.Table.{Table}
use Rattle.sqlite.specs.Schema.{Schema}
use Rattle.sqlite.specs.Source.TheVariants.{Values}
use Rattle.sqlite.specs.Command.TheVariants.{Insert}
use Rattle.sqlite.specs.Edit.{Edit, edit_of, Applies}
use Rattle.sqlite.specs.Rowids.TheVariants.{Chosen, Above}
use Rattle.sqlite.specs.Effect.{Database, value_rows}
use Rattle.std.proofs.Common.{◌/◌}
use Rattle.sqlite_sql.specs.Term.{eval_all}
use Rattle.sqlite.specs.Does.{Tally, Does, OnRows}
use Rattle.sqlite.specs.declared.run.Mode.{Mode}
use Rattle.sqlite_rules.specs.Action.{Writes}
use Rattle.sqlite.specs.Command.{Command}
use Rattle.sqlite.specs.Rows.{Written, stamped, count_of}
use Rattle.sqlite.specs.Tree.{Trees}
use Rattle.sqlite_schema.specs.declared.schema.Keys.TheVariants.{Enforced}
use Rattle.sqlite_rules.specs.Edit.{taken_by}
use Rattle.sqlite_catalog.specs.Listing.{IsSound}
use Rattle.sqlite_rules.specs.Action.{works}
use Rattle.sqlite.specs.Listing.{understood}
use Rattle.sqlite.specs.State.{State, mode_of, Executes}
use Rattle.sqlite.proofs.Callers.{statement_of, runs_as, one_step}
use Rattle.osm_sql_store.proofs.SchemaLemmas.StatementParts.{InsertsValues, went, same_value, placed}
use Rattle.sqlite.specs.Term.{lit}
use Rattle.sqlite.specs.declared.types.Value.TheVariants.{Null, Int}
use Rattle.osm_rows.specs.declared.schema.layout.Layout.{Layout}
use Rattle.osm_rows.specs.declared.schema.layout.Layout.TheVariants.{Bodies, Tables}
use Rattle.osm_sql_store.specs.declared.schema.sql.TheConstants.{INSERT_BLOB, INSERT_BODY_VERSION, INSERT_TABLE_VERSION}
use Rattle.osm_rows.specs.Schema.Bodies.{meta, blob, body_schema}
use Rattle.osm_rows.specs.Schema.Tables.{table_schema}
use Rattle.osm_rows.specs.Schema.Layouts.{schema_of, version_of}
use Rattle.osm_sql_store.specs.Schema.Versions.{version_text_of}
use Rattle.osm_sql_store.proofs.SchemaLemmas.SharedTexts.{blob_terms, blob_text, version_terms, version_text}
use Rattle.osm_sql_store.proofs.SchemaLemmas.TableTexts.{table_blob_text, table_version_terms, table_version_text}

abbrev pub edit_for : Trees → Table → Row → List Term → Edit
edit_for db table params terms = edit_of db table [] Chosen 0 (eval_all terms (params ∷ []) ∷ [])

settled : (A B : Type 0) (b test : Bool) → b ≡ false → MatchBool (if b then test else false) A B → B
settled A B b test e h = subst (λ b. MatchBool (if b then test else false) A B) e h

-- rows of constants and parameters
module _ (schema : Schema) (sql : List ℕ) (at : ℕ) (table : Table) (terms : List Term) (width : ℕ) (params : Row) (sources : List Row) where
  abbrev command : Command
  command = Insert at (Values terms width)

  -- the edit of a statement that ran
  inserted : (table_at : Table) (uncounted : table_at.is_counted ≡ false) (limit : Option ℕ) (mode : Mode) (db : Trees) (tally : Tally) (after : Database)
      → OnRows (record { limit = limit; keys = mode.keys; schema = schema; table = table_at; params = params }) mode None command db (Ok (tally, after))
      → (rows : List Row) × (rows ≡ value_rows (stamped table_at params) width (length terms / width) terms) × (after.schema ≡ schema)
      × ((next : Trees) × (after.trees ≡ next) × Writes schema mode.keys db (edit_of db table_at [] Chosen 0 rows) (Ok next))
  inserted table_at uncounted limit mode db tally after run =
      let done = went run in
      let now = ap (λ (p : Tally × Database). p.1) (same_value (went (went done.2).2).2) in
      let given = went done.1 in
      let numbered = went given.2 in
      let written = went numbered.2 in
      let counted = went written.2 in
      let kept : Ok counted.0 ≡ Ok written.0 = settled _ _ table_at.is_counted _ uncounted counted.1 in
      let trees : done.0.trees ≡ written.0 = ap (λ (it : Written). it.trees) (same_value counted.2) ∙ same_value kept in
      (given.0, given.1.1, ap (λ (d : Database). d.schema) now, (written.0, ap (λ (d : Database). d.trees) now ∙ trees, subst (λ b. Writes schema mode.keys db (edit_of db table_at [] (if b then Above (count_of numbered.0) else Chosen) 0 given.0) (Ok written.0)) uncounted written.1))

  pub inserts_all : InsertsValues schema sql at terms width → slice_get schema.tables at ≡ Some table → table.is_counted ≡ false
      → value_rows (stamped table params) width (length terms / width) terms ≡ sources
      → ((db : Trees) (news : List Row) → works schema Enforced 0 table.tree (taken_by db (record { table = table; gone = []; news = news })) news ≡ [])
      → (old new : State) (count : ℕ) → old.now.schema ≡ schema → Executes sql params old new (Ok count)
      → (new.now.schema ≡ schema) × Applies schema Enforced old.now.trees (edit_of old.now.trees table [] Chosen 0 sources) new.now.trees × IsSound schema new.now.trees
  inserts_all text there uncounted these free old new count has h =
      let w = runs_as sql params old new schema has command text.is text.plain count h in
      let whole = statement_of sql (understood schema sql) in
      let run = subst (λ s. Does old.step_limit (mode_of old) params (record old.now { schema = s }) whole None command (Ok (w.tally, new.now))) has w.changed in
      let on_rows = placed _ (slice_get schema.tables at) table _ there run in
      let it = inserted table uncounted old.step_limit (mode_of old) old.now.trees w.tally new.now on_rows in
      let edit = subst (λ rows. Writes schema Enforced old.now.trees (edit_of old.now.trees table [] Chosen 0 rows) (Ok it.3.0)) (it.1 ∙ these) it.3.2 in
      let wanted = edit_of old.now.trees table [] Chosen 0 sources in
      let applied = one_step schema Enforced old.now.trees it.3.0 wanted (free old.now.trees wanted.news) edit in
      (it.2, subst (Applies schema Enforced old.now.trees wanted) (sym it.3.1) applied, subst (λ s. IsSound s new.now.trees) it.2 w.sound)

-- one row
pub inserts : (schema : Schema) (sql : List ℕ) (at : ℕ) (table : Table) (terms : List Term) (params : Row) → InsertsValues schema sql at terms (length terms)
    → slice_get schema.tables at ≡ Some table → table.is_counted ≡ false
    → value_rows (stamped table params) (length terms) (length terms / length terms) terms ≡ eval_all terms (params ∷ []) ∷ []
    → ((db : Trees) (news : List Row) → works schema Enforced 0 table.tree (taken_by db (record { table = table; gone = []; news = news })) news ≡ [])
    → (old new : State) (count : ℕ) → old.now.schema ≡ schema → Executes sql params old new (Ok count)
    → (new.now.schema ≡ schema) × Applies schema Enforced old.now.trees (edit_for old.now.trees table params terms) new.now.trees × IsSound schema new.now.trees
inserts schema sql at table terms params = inserts_all schema sql at table terms (length terms) params (eval_all terms (params ∷ []) ∷ [])

-- a row of `blob`, whatever the layout
pub inserts_blob : (layout : Layout) (params : Row) (old new : State) (count : ℕ) → old.now.schema ≡ schema_of layout → Executes INSERT_BLOB.now params old new (Ok count)
    → (new.now.schema ≡ schema_of layout) × Applies (schema_of layout) Enforced old.now.trees (edit_for old.now.trees blob params blob_terms) new.now.trees × IsSound (schema_of layout) new.now.trees
inserts_blob Bodies params = inserts body_schema INSERT_BLOB.now 1 blob blob_terms params blob_text refl refl (rw append-nil) (λ db news. refl)
inserts_blob Tables params = inserts table_schema INSERT_BLOB.now 1 blob blob_terms params table_blob_text refl refl (rw append-nil) (λ db news. refl)

abbrev pub version_terms_of : Layout → List Term
version_terms_of layout = lit (Int (pos (version_of layout))) ∷ lit Null ∷ []

pub inserts_version : (layout : Layout) (old new : State) (count : ℕ) → old.now.schema ≡ schema_of layout → Executes (version_text_of layout) [] old new (Ok count)
    → (new.now.schema ≡ schema_of layout) × Applies (schema_of layout) Enforced old.now.trees (edit_for old.now.trees meta [] (version_terms_of layout)) new.now.trees × IsSound (schema_of layout) new.now.trees
inserts_version Bodies = inserts body_schema INSERT_BODY_VERSION.now 0 meta version_terms [] version_text refl refl refl (λ db news. refl)
inserts_version Tables = inserts table_schema INSERT_TABLE_VERSION.now 0 meta table_version_terms [] table_version_text refl refl refl (λ db news. refl)
