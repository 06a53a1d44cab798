-- What the statements add that write rows of the layout of tables.
use Rattle.std.proofs.Common.{◌≡◌, ℕ, ℤ, pos, Bool, if◌then◌else◌, append-nil, ◌/◌, suc, List, [], ◌∷◌, map, length, slice_get, Some, Ok, true, false, refl, sym, ap, subst, ◌∙◌}
use Rattle.std.specs.Prelude.{flat_map, Result, OnOk}
use Rattle.std.proofs.lemmas.Result.{on_ok_weaker}
use Rattle.sqlite.specs.Order.{Row}
use Rattle.sqlite.specs.Table.{Table}
use Rattle.sqlite.specs.Tree.{Trees}
use Rattle.sqlite.specs.Effect.{value_rows}
use Rattle.sqlite.specs.Edit.{edit_of, Applies, are_fresh, put_all}
use Rattle.sqlite.specs.Rows.{stamped}
use Rattle.sqlite.specs.Rowids.TheVariants.{Chosen}
use Rattle.sqlite.specs.State.{State, ExecutesInside}
use Rattle.sqlite.specs.declared.types.Value.TheVariants.{Null}
use Rattle.sqlite_rules.specs.Action.{works}
use Rattle.sqlite_rules.specs.Cast.{cast_row}
use Rattle.sqlite_rules.specs.Edit.{numbered, taken_by}
use Rattle.sqlite_schema.specs.declared.schema.Keys.TheVariants.{Enforced}
use Rattle.osm_rows.specs.declared.schema.layout.Layout.TheVariants.{Tables}
use Rattle.osm_rows.specs.declared.put.table_row.ElementRow.{ElementRow}
use Rattle.osm_rows.specs.declared.put.table_row.TagRow.{TagRow}
use Rattle.osm_rows.specs.declared.put.table_row.LinkRow.{LinkRow}
use Rattle.osm_rows.specs.Put.WrittenRows.{element_columns, tag_columns, link_columns}
use Rattle.osm_rows.specs.Rows.{element_code}
use Rattle.osm_sql_store.specs.declared.schema.sql.TheConstants.{INSERT_ELEMENT, INSERT_TAG, INSERT_LINK, INSERT_ELEMENTS, INSERT_TAGS, INSERT_LINKS}
use Rattle.osm_rows.specs.Schema.Tables.{element, tag, link, table_schema}
use Rattle.osm_sql_store.proofs.PutLemmas.Adds.{cast_null, cast_int}
use Rattle.osm_sql_store.proofs.PutLemmas.RowValues.{cast_or_null, cast_words}
use Rattle.osm_sql_store.proofs.PutLemmas.InsertTexts.{IsInsert, element_text, tag_text, link_text}
use Rattle.std.specs.Option.{option_copied}
use Rattle.osm_sql_store.specs.Schema.Over.{IsWriting}
use Rattle.osm_rows.specs.Put.Gains.{Gains}
use Rattle.osm_sql_store.specs.Put.Steps.{AddsRows, AddsGivenRows}
use Rattle.osm_sql_store.specs.Put.Batches.{rows_of, statement_of}
use Rattle.osm_rows.specs.declared.fault.StoreFault.{StoreFault}
use Rattle.osm_sql_store.specs.declared.put.batch.Batch.{Batch}
use Rattle.osm_sql_store.proofs.PutLemmas.Inserts.{inserts_all}
use Rattle.osm_sql_store.proofs.SchemaLemmas.MakeSteps.{becomes}
use Rattle.osm_sql_store.proofs.PutLemmas.ManyRows.{terms_of_rows, given, reads_rows, all_fresh}

-- the statement, given the values of this many rows, one row after the other, adds these rows to a table
abbrev pub Inserts : {X : Type 0} → (X → Row) → ℕ → List ℕ → ℕ → Type 1
Inserts {X} columns tree statement count =
    (rows : List X) → length rows ≡ count → (params : Row) → params ≡ flat_map columns rows → (old new : State) (changed : ℕ) → IsWriting Tables old → ExecutesInside 0 statement params old new (Ok changed)
    → AddsRows Tables tree old new (map columns rows)

-- the text writes this many rows of a table, each a value of X
module _ {X : Type 0} (columns : X → Row) (table : Table) (width : ℕ) (sql : List ℕ) (at count : ℕ)
    (wide : (x : X) → length (columns x) ≡ width)
    (cast : (x : X) → cast_row table (Null ∷ columns x) ≡ Null ∷ columns x) where
  casts : (xs : List X) → map (cast_row table) (given columns width wide xs) ≡ map (λ r. Null ∷ r) (map columns xs)
  casts [] = refl
  casts (x ∷ xs) = ap (λ r. r ∷ map (cast_row table) (given columns width wide xs)) (cast x) ∙ ap (λ rs. (Null ∷ columns x) ∷ rs) (casts xs)

  rows_added : (xs : List X) (db next : Trees) → Applies table_schema Enforced db (edit_of db table [] Chosen 0 (given columns width wide xs)) next → Gains (db table.tree) (map columns xs) (next table.tree)
  rows_added xs db next h =
      let news = λ (rows : List Row). numbered Chosen (db table.tree) rows in
      let fresh = subst (λ rows. are_fresh (db table.tree) (news rows) ≡ true) (casts xs) h.fresh in
      let rows = subst (λ rows. next table.tree ≡ put_all (db table.tree) (news rows)) (casts xs) h.rows in
      subst (Gains (db table.tree) (map columns xs)) (sym rows) (all_fresh (db table.tree) (map columns xs) fresh)

  pub inserts : IsInsert at width count sql → slice_get table_schema.tables at ≡ Some table → table.is_counted ≡ false → ((params : Row) → stamped table params ≡ params)
      → ((db : Trees) (news : List Row) → works table_schema Enforced 0 table.tree (taken_by db (record { table = table; gone = []; news = news })) news ≡ [])
      → Inserts columns table.tree sql count
  inserts is there uncounted unstamped free xs many params these old new n over run =
      let read = subst (λ k. value_rows params (suc width) k (terms_of_rows width k 0) ≡ given columns width wide xs) many (reads_rows columns width wide params xs 0 these) in
      let rows = subst (λ k. value_rows params (suc width) k (terms_of_rows width count 0) ≡ given columns width wide xs) (sym is.counts) read in
      let all = subst (λ ps. value_rows ps (suc width) (length (terms_of_rows width count 0) / suc width) (terms_of_rows width count 0) ≡ given columns width wide xs) (sym (unstamped params)) rows in
      let it = inserts_all table_schema sql at table (terms_of_rows width count 0) (suc width) params (given columns width wide xs) is.text there uncounted all free old new n over.schema_is run.0 in
      let went = becomes old new table_schema it.0 it.2 run.1 in
      record {
        over = went.over;
        kept = went.kept;
        sound = λ _. went.sound;
        others = it.1.tables;
        rows = rows_added xs old.now.trees new.now.trees it.1;
      }

element_cast : (r : ElementRow) → cast_row element (Null ∷ element_columns r) ≡ Null ∷ element_columns r
element_cast r =
    rw (
      cast_null,
      cast_int r.off,
      cast_int r.position,
      cast_int (pos (element_code r.kind)),
      cast_int r.id,
      cast_or_null (λ (z : ℤ). z) r.lat,
      cast_or_null (λ (z : ℤ). z) r.lon,
      cast_or_null (λ (z : ℤ). z) r.version,
      cast_or_null (λ (z : ℤ). z) r.time,
      cast_or_null (λ (z : ℤ). z) r.changeset,
      cast_or_null (λ (z : ℤ). z) r.uid,
      cast_words (option_copied r.user),
      cast_or_null (λ (b : Bool). (if b then pos 1 else pos 0)) r.visible,
    ) refl

tag_cast : (r : TagRow) → cast_row tag (Null ∷ tag_columns r) ≡ Null ∷ tag_columns r
tag_cast r = rw (cast_null, cast_int r.off, cast_int r.position, cast_int r.number) refl

link_cast : (r : LinkRow) → cast_row link (Null ∷ link_columns r) ≡ Null ∷ link_columns r
link_cast r = rw (cast_null, cast_int r.off, cast_int r.position, cast_int r.number, cast_int (pos (element_code r.kind)), cast_int r.id) refl

pub inserts_element : (batch : Batch) → Inserts element_columns 2 (statement_of batch INSERT_ELEMENT.now INSERT_ELEMENTS.now) (rows_of batch)
inserts_element batch = inserts element_columns element 12 _ 2 (rows_of batch) (λ r. refl) element_cast (element_text batch) refl refl (λ params. rw append-nil refl) (λ db news. refl)

pub inserts_tag : (batch : Batch) → Inserts tag_columns 4 (statement_of batch INSERT_TAG.now INSERT_TAGS.now) (rows_of batch)
inserts_tag batch = inserts tag_columns tag 5 _ 3 (rows_of batch) (λ r. refl) tag_cast (tag_text batch) refl refl (λ params. rw append-nil refl) (λ db news. refl)

pub inserts_link : (batch : Batch) → Inserts link_columns 6 (statement_of batch INSERT_LINK.now INSERT_LINKS.now) (rows_of batch)
inserts_link batch = inserts link_columns link 6 _ 4 (rows_of batch) (λ r. refl) link_cast (link_text batch) refl refl (λ params. rw append-nil refl) (λ db news. refl)

-- where the statement ran, given the values of rows, these are added
pub ran_adds : {X U : Type 0} {columns : X → Row} {tree count : ℕ} {statement text : List ℕ} → Inserts columns tree statement count → text ≡ statement → (params : Row) (old new : State) → IsWriting Tables old
    → (r : Result U StoreFault) → OnOk r ((changed : ℕ) × ExecutesInside 0 text params old new (Ok changed))
    → OnOk r (AddsGivenRows columns tree count params old new)
ran_adds added is params old new over r ran =
    on_ok_weaker r (λ it rows many these. added rows many params these old new it.0 over (subst (λ sql. ExecutesInside 0 sql params old new (Ok it.0)) is it.1)) ran
