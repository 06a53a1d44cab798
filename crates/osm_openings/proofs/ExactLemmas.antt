-- A row of `sqlite_schema` has texts in its columns, so that a place that describes it has the very same.
use Rattle.std.proofs.Common.{◌⊎◌, ◌≡◌, ◌∙◌, ℕ, true, false, ◌&&◌, List, refl, sym, ap, subst, inl, inr, arith, codes, eqb, length}
use Rattle.std.specs.Float.Ieee
use Rattle.std.proofs.lemmas.Bool.{false≢true, cases_Bool, and_parts, or_cases, cond-true, cond-false, eqb-true}
use Rattle.sqlite_value.specs.declared.value.Value.{Value}
use Rattle.sqlite_value.specs.declared.value.Value.TheVariants.{Null, Int, Real, Text, Blob}
use Rattle.sqlite_value.specs.Order.{Row, column, class, bytes, value_cmp}
use Rattle.sqlite_trees.specs.Sound.{is_text, is_text_only, is_word, is_free_name, begins, fits_kind}
use Rattle.sqlite_store.specs.declared.catalog.Wanted.{Wanted}
use Rattle.sqlite_store.specs.Catalog.{same_value, describes, is_well_formed}
use Rattle.osm_openings.proofs.PlaceLemmas.{turned, is_text_of, is_null_of, is_some_text}
use Rattle.osm_openings.proofs.ListedLemmas.{described}

abbrev IsSomeText : Value → Type 0
IsSomeText v = (t : List ℕ) × (v ≡ Text t)

no_index : is_word (codes "index") (Text (codes "table")) ≡ false
unfolding value_cmp Ieee.lt Ieee.is_nan
no_index = refl

no_trigger : is_word (codes "trigger") (Text (codes "table")) ≡ false
unfolding value_cmp Ieee.lt Ieee.is_nan
no_trigger = refl

table_no_text : is_text_only (Text (codes "table")) ≡ false
unfolding value_cmp Ieee.lt Ieee.is_nan
table_no_text = refl

-- a table isn't its text alone
pub no_text : (kind : Value) → is_word (codes "table") kind ≡ true → is_text_only kind ≡ false
no_text kind table = ap is_text_only (is_text_of kind (codes "table") table) ∙ table_no_text

-- texts, the last of which an automatic index has not
pub record Texts (kind name owner sql : Value) : Type 0 where
  pub kind_is : IsSomeText kind
  pub name_is : IsSomeText name
  pub owner_is : IsSomeText owner
  pub sql_is : (sql ≡ Null) ⊎ IsSomeText sql

text_is : (v : Value) → is_text v ≡ true → IsSomeText v
text_is v h = is_some_text v (eqb-true _ _ h)

null_is : (v : Value) → class v ≡ 0 → v ≡ Null
null_is Null h = refl
null_is (Int n) h = absurd (omega (arith, h))
null_is (Real x) h = absurd (omega (arith, h))
null_is (Text t) h = absurd (omega (arith, h))
null_is (Blob b) h = absurd (omega (arith, h))

begun : (word : List ℕ) (v : Value) → begins word v ≡ true → IsSomeText v
unfolding begins
begun word v h = text_is v (and_parts (is_text v) _ h).0

texts_of : (kind name owner sql : Value) → fits_kind kind name owner sql ≡ true → Texts kind name owner sql
unfolding fits_kind
texts_of kind name owner sql h =
    let all = and_parts (is_text name && is_text owner) _ h in
    let names = and_parts (is_text name) (is_text owner) all.0 in
    let last = (and_parts (is_free_name (bytes name) && is_free_name (bytes owner)) _ all.1).1 in
    elim (cases_Bool (is_word (codes "index") kind)) [
      | inl index ↦ record {
        kind_is = (codes "index", is_text_of kind (codes "index") index);
        name_is = text_is name names.0;
        owner_is = text_is owner names.1;
        sql_is = elim (or_cases _ _ (sym (cond-true _ _ _ index) ∙ last)) [
          | inl made ↦ inr (begun (codes "create") sql made)
          | inr automatic ↦ inl (null_is sql (eqb-true _ _ (and_parts (eqb (class sql) 0) _ automatic).0))
        ];
      }
      | inr other ↦
          let both = and_parts _ (begins (codes "create") sql) (sym (cond-false _ _ _ other) ∙ last) in
          record {
            kind_is = elim (or_cases _ (is_word (codes "trigger") kind) both.0) [
              | inl named ↦ elim (or_cases (is_word (codes "table") kind) (is_word (codes "view") kind) (and_parts _ _ named).0) [
                | inl table ↦ (codes "table", is_text_of kind (codes "table") table)
                | inr view ↦ (codes "view", is_text_of kind (codes "view") view)
              ]
              | inr trigger ↦ (codes "trigger", is_text_of kind (codes "trigger") trigger)
            ];
            name_is = text_is name names.0;
            owner_is = text_is owner names.1;
            sql_is = inr (begun (codes "create") sql both.1);
          }
    ]

pub texts : (row : Row) → is_well_formed row ≡ true → Texts (column row 1) (column row 2) (column row 3) (column row 5)
unfolding is_well_formed
texts row h = texts_of _ _ _ _ (and_parts (eqb (length row) 6) _ (and_parts _ _ h).0).1

text_same : (a b : Value) → IsSomeText a → same_value a b ≡ true → b ≡ a
text_same a b t same = is_text_of b t.0 (turned b (Text t.0) ∙ subst (λ v. same_value v b ≡ true) t.1 same) ∙ sym t.1

null_same : (a b : Value) → a ≡ Null → same_value a b ≡ true → b ≡ a
null_same a b null same = is_null_of b (turned b Null ∙ subst (λ v. same_value v b ≡ true) null same) ∙ sym null

-- the place has the columns of the row
pub record Exact (w : Wanted) (row : Row) : Type 0 where
  pub kind : column w.row 0 ≡ column row 1
  pub name : column w.row 1 ≡ column row 2
  pub owner : column w.row 2 ≡ column row 3
  pub sql : column w.row 3 ≡ column row 5

pub exact : (w : Wanted) (row : Row) → is_well_formed row ≡ true → describes w row ≡ true → Exact w row
exact w row formed h =
    let t = texts row formed in
    let d = described w row h in
    record {
      kind = text_same (column row 1) (column w.row 0) t.kind_is d.kind;
      name = text_same (column row 2) (column w.row 1) t.name_is d.name;
      owner = text_same (column row 3) (column w.row 2) t.owner_is d.owner;
      sql = elim t.sql_is [ inl null ↦ null_same (column row 5) (column w.row 3) null d.sql | inr text ↦ text_same (column row 5) (column w.row 3) text d.sql ];
    }

-- a table is about itself
pub own_table : (row : Row) → is_well_formed row ≡ true → is_word (codes "table") (column row 1) ≡ true → column row 3 ≡ column row 2
unfolding is_well_formed fits_kind
own_table row h table = about (column row 1) (column row 2) (column row 3) (column row 5) (and_parts (eqb (length row) 6) _ (and_parts _ _ h).0).1 (is_text_of (column row 1) (codes "table") table)
  where
    about : (kind name owner sql : Value) → fits_kind kind name owner sql ≡ true → kind ≡ Text (codes "table") → owner ≡ name
    about kind name owner sql h table =
        let all = and_parts (is_text name && is_text owner) _ h in
        let last = (and_parts (is_free_name (bytes name) && is_free_name (bytes owner)) _ all.1).1 in
        let other = ap (is_word (codes "index")) table ∙ no_index in
        let both = and_parts _ (begins (codes "create") sql) (sym (cond-false _ _ _ other) ∙ last) in
        elim (or_cases _ (is_word (codes "trigger") kind) both.0) [
          | inl named ↦ text_same name owner (text_is name (and_parts (is_text name) (is_text owner) all.0).0) (and_parts _ (same_value name owner) named).1
          | inr trigger ↦ absurd (false≢true (sym (ap (is_word (codes "trigger")) table ∙ no_trigger) ∙ trigger))
        ]
