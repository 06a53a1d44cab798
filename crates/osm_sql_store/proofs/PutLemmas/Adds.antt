-- A row that is inserted is the only one that is new.
use Rattle.std.proofs.Common.{◌≡◌, ℕ, ℤ, pos, List, [], ◌∷◌, ◌++◌, map, drop, Bool, true, false, cond, not, ◌&&◌, ◌||◌, true≢false, refl, sym, subst}
use Rattle.std.specs.List.Sorted.{IsPermutation}
use Rattle.std.proofs.lemmas.List.Sorted.{IsPermutation-refl, IsPermutation-trans, IsPermutation-map, IsPermutation-append_comm, IsPermutation-cons, IsPermutation-middle}
use Rattle.std.specs.Ordering.{is_eq, match_ordering}
use Rattle.std.specs.declared.cmp.Ordering.{Ordering}
use Rattle.std.specs.declared.cmp.Ordering.TheVariants.{Less, Equal, Greater}
use Rattle.sqlite.specs.declared.types.Value.{Value}
use Rattle.sqlite.specs.declared.types.Value.TheVariants.{Null, Int, Blob as Octets}
use Rattle.sqlite.specs.Order.{Row, value_cmp}
use Rattle.sqlite.specs.Ops.{unary}
use Rattle.sqlite.specs.Table.{Table}
use Rattle.sqlite.specs.Schema.{Schema}
use Rattle.sqlite.specs.Term.{Term}
use Rattle.sqlite.specs.Cast.{cast}
use Rattle.sqlite.specs.Kind.TheVariants.{Integer}
use Rattle.sqlite.specs.Tree.{Trees, put_row, rowid}
use Rattle.sqlite.specs.Edit.{Applies, is_taken, are_fresh, put_all, next_rowid}
use Rattle.sqlite_schema.specs.declared.schema.Keys.TheVariants.{Enforced}
use Rattle.osm_rows.specs.declared.schema.layout.Layout.{Layout}
use Rattle.osm_rows.specs.Schema.Bodies.{meta, blob}
use Rattle.osm_rows.specs.Schema.Layouts.{schema_of, version_of}
use Rattle.osm_rows.specs.Rows.{version_row}
use Rattle.osm_sql_store.proofs.SchemaLemmas.SharedTexts.{blob_terms}
use Rattle.osm_sql_store.proofs.PutLemmas.Inserts.{edit_for, version_terms_of}

either : (b : Bool) (x : Value) → cond b x x ≡ x
either true x = refl
either false x = refl

pub cast_null : cast Integer Null ≡ Null
unfolding unary
cast_null = either _ Null

pub cast_int : (n : ℤ) → cast Integer (Int n) ≡ Int n
unfolding unary
cast_int n = either _ (Int n)

neither : (a b : Bool) → a || b ≡ false → (a ≡ false) × (b ≡ false)
neither true b h = absurd (true≢false h)
neither false b h = (refl, h)

free : (b : Bool) → not b && true ≡ true → b ≡ false
free true e = absurd (true≢false (sym e))
free false e = refl

-- a row whose rowid no row has is the only new one
pub put_fresh : (new : Row) (rows : List Row) → is_taken rows new ≡ false → IsPermutation (new ∷ rows) (put_row new rows)
put_fresh new [] free = IsPermutation-refl _
put_fresh new (r ∷ rows) free = go (value_cmp (rowid r) (rowid new)) (neither _ _ free).0 (put_fresh new rows (neither _ _ free).1)
  where
    go : (o : Ordering) → is_eq o ≡ false → IsPermutation (new ∷ rows) (put_row new rows) → IsPermutation (new ∷ r ∷ rows) (match_ordering o (r ∷ put_row new rows) (new ∷ rows) (new ∷ r ∷ rows))
    go Less h more = IsPermutation-trans _ _ _ (IsPermutation-middle (new ∷ []) r rows) (IsPermutation-cons r _ _ more)
    go Equal h more = absurd (true≢false h)
    go Greater h more = IsPermutation-refl _

-- a row of a table whose rowid is chosen
pub row_added : (schema : Schema) (table : Table) (db next : Trees) (params row : Row) (terms : List Term) → Applies schema Enforced db (edit_for db table params terms) next
    → (edit_for db table params terms).news ≡ (Int (next_rowid (db table.tree)) ∷ row) ∷ []
    → IsPermutation (map (drop 1) (db table.tree) ++ row ∷ []) (map (drop 1) (next table.tree))
row_added schema table db next params row terms h news =
    let new = Int (next_rowid (db table.tree)) ∷ row in
    let fresh : are_fresh (db table.tree) (new ∷ []) ≡ true = subst (λ all. are_fresh (db table.tree) all ≡ true) news h.fresh in
    let rows : next table.tree ≡ put_row new (db table.tree) = subst (λ all. next table.tree ≡ put_all (db table.tree) all) news h.rows in
    let put = IsPermutation-map (drop 1) _ _ (put_fresh new (db table.tree) (free _ fresh)) in
    subst (λ all. IsPermutation (map (drop 1) (db table.tree) ++ row ∷ []) (map (drop 1) all)) (sym rows) (IsPermutation-trans _ _ _ (IsPermutation-append_comm (map (drop 1) (db table.tree)) (row ∷ [])) put)

-- ---- a row of `blob`, and the version

abbrev pub blob_values : ℤ → ℤ → List ℕ → ℤ → ℤ → Row
blob_values off fin digest kind n = Int off ∷ Int fin ∷ Octets digest ∷ Int kind ∷ Int n ∷ []

abbrev pub new_blob : ℤ → ℤ → List ℕ → ℤ → ℤ → Row
new_blob off fin digest kind n = Int off ∷ Null ∷ Int fin ∷ Octets digest ∷ Int kind ∷ Int n ∷ []

module _ (schema : Schema) (db next : Trees) (off fin : ℤ) (digest : List ℕ) (kind n : ℤ) (h : Applies schema Enforced db (edit_for db blob (blob_values off fin digest kind n) blob_terms) next) where
  blob_news : (edit_for db blob (blob_values off fin digest kind n) blob_terms).news ≡ new_blob off fin digest kind n ∷ []
  blob_news = rw (cast_null, cast_int off, cast_int fin, cast_int kind, cast_int n) refl

  pub blob_added : next 1 ≡ put_row (new_blob off fin digest kind n) (db 1)
  blob_added = subst (λ all. next 1 ≡ put_all (db 1) all) blob_news h.rows

module _ (layout : Layout) (db next : Trees) (h : Applies (schema_of layout) Enforced db (edit_for db meta [] (version_terms_of layout)) next) where
  version_news : (edit_for db meta [] (version_terms_of layout)).news ≡ version_row layout ∷ []
  version_news = rw (cast_null, cast_int (pos (version_of layout))) refl

  pub version_added : next 0 ≡ put_row (version_row layout) (db 0)
  version_added = subst (λ all. next 0 ≡ put_all (db 0) all) version_news h.rows
