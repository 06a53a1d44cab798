-- What CREATE TABLE and CREATE INDEX do to the schema and the tables.
use Rattle.std.proofs.Common.{◌≡◌, ℕ, List, [], slice_get, false, Some, None, Ok, sym, ap, subst, ◌∙◌}
use Rattle.sqlite.specs.Table.{Table}
use Rattle.sqlite.specs.Schema.{Schema}
use Rattle.sqlite_schema.specs.declared.schema.Index.{Index}
use Rattle.sqlite.specs.Command.TheVariants.{CreateTable, CreateIndex}
use Rattle.sqlite.specs.Compile.{table_defined_by, index_defined_by}
use Rattle.sqlite.specs.Change.{created, indexed, next_tree, KeepsRows}
use Rattle.sqlite.specs.Effect.{Database}
use Rattle.sqlite.specs.Does.{Tally, Does, lacks_sequence}
use Rattle.sqlite_catalog.specs.Listing.{IsSound}
use Rattle.sqlite.specs.Listing.{understood}
use Rattle.sqlite.specs.State.{State, mode_of, Writes, Executes}
use Rattle.sqlite.proofs.Callers.{IsPlain, command_of, statement_of, runs_as}
use Rattle.osm_sql_store.proofs.SchemaLemmas.StatementParts.{went, same_value, placed}

-- the text, run over one schema, makes this table and so another schema
pub record CreatesTable (sql : List ℕ) (schema : Schema) (table : Table) (after : Schema) : Type 0 where
  pub plain : IsPlain (understood schema sql)
  pub whole : statement_of sql (understood schema sql) ≡ sql
  pub is : command_of (understood schema sql) ≡ CreateTable
  pub defined : table_defined_by sql ≡ Ok table
  pub made : created schema table ≡ after
  pub uncounted : lacks_sequence after ≡ false

-- the same of an index on the table at this place
pub record CreatesIndex (sql : List ℕ) (schema : Schema) (at : ℕ) (table : Table) (index : Index) (after : Schema) : Type 0 where
  pub plain : IsPlain (understood schema sql)
  pub whole : statement_of sql (understood schema sql) ≡ sql
  pub is : command_of (understood schema sql) ≡ CreateIndex at
  pub there : slice_get schema.tables at ≡ Some table
  pub defined : index_defined_by table sql ≡ Ok index
  pub made : indexed schema table index ≡ after

module _ (sql : List ℕ) (schema after : Schema) where
  pub creates : (table : Table) → CreatesTable sql schema table after → (old new : State) (count : ℕ) → old.now.schema ≡ schema → Executes sql [] old new (Ok count)
      → (new.now.schema ≡ after) × IsSound after new.now.trees × (new.now.trees (next_tree schema) ≡ []) × KeepsRows schema.tables old.now.trees new.now.trees
  creates table text old new count has h =
      let w = subst (λ t. Writes old new None CreateTable t [] count) text.whole (runs_as sql [] old new schema has CreateTable text.is text.plain count h) in
      let all = went w.changed in
      let first = went all.1 in
      let made = first.1 in
      let both : Ok made.table ≡ Ok table = sym made.defined ∙ text.defined in
      let same : made.table ≡ table = same_value both in
      let is_after : first.0.schema ≡ after = made.is ∙ ap (λ s. created s made.table) has ∙ ap (created schema) same ∙ text.made in
      let uncounted : lacks_sequence first.0.schema ≡ false = ap lacks_sequence is_after ∙ text.uncounted in
      let now : new.now ≡ first.0 = ap (λ (p : Tally × Database). p.1) (same_value all.2) ∙ same_value (rw uncounted at first.2) in
      let result : new.now.schema ≡ after = ap (λ (d : Database). d.schema) now ∙ is_after in (
        result,
        subst (λ s. IsSound s new.now.trees) result w.sound,
        ap (λ (d : Database). d.trees (next_tree schema)) now ∙ subst (λ s. first.0.trees (next_tree s) ≡ []) has made.empty,
        subst (λ (d : Database). KeepsRows schema.tables old.now.trees d.trees) (sym now) (subst (λ (s : Schema). KeepsRows s.tables old.now.trees first.0.trees) has made.others),
      )

  pub indexes : (at : ℕ) (table : Table) (index : Index) → CreatesIndex sql schema at table index after → (old new : State) (count : ℕ) → old.now.schema ≡ schema → Executes sql [] old new (Ok count)
      → (new.now.schema ≡ after) × IsSound after new.now.trees × KeepsRows schema.tables old.now.trees new.now.trees
  indexes at table index text old new count has h =
      let w = subst (λ t. Writes old new None (CreateIndex at) t [] count) text.whole (runs_as sql [] old new schema has (CreateIndex at) text.is text.plain count h) in
      let run = subst (λ s. Does old.step_limit (mode_of old) [] (record old.now { schema = s }) sql None (CreateIndex at) (Ok (w.tally, new.now))) has w.changed in
      let all = went (placed _ (slice_get schema.tables at) table _ text.there run) in
      let made = all.1 in
      let both : Ok made.index ≡ Ok index = sym made.defined ∙ text.defined in
      let same : made.index ≡ index = same_value both in
      let is_after : all.0.schema ≡ after = made.is ∙ ap (indexed schema table) same ∙ text.made in
      let now : new.now ≡ all.0 = ap (λ (p : Tally × Database). p.1) (same_value all.2) in
      let result : new.now.schema ≡ after = ap (λ (d : Database). d.schema) now ∙ is_after in
      (result, subst (λ s. IsSound s new.now.trees) result w.sound, subst (λ (d : Database). KeepsRows schema.tables old.now.trees d.trees) (sym now) made.rows)
