-- A table whose rows stand in the order of an index: those whose entries begin with a key stand one behind another.
use Rattle.std.proofs.Common.{◌≡◌, ℕ, Bool, true, false, cond, is_lt, Less, Equal, Greater, true≢false, List, [], ◌∷◌, map, filter, flat_map, drop, length, IsTrue, refl, sym, ap, subst, ◌∙◌, arith}
use Rattle.std.specs.List.{AllByRecursion}
use Rattle.std.proofs.lemmas.Cmp.{tied_itself}
use Rattle.sqlite_value.specs.declared.value.Value.{Value}
use Rattle.sqlite_value.specs.declared.value.Value.TheVariants.{Int}
use Rattle.sqlite_value.specs.Order.{Row, column, value_cmp}
use Rattle.sqlite_value.specs.Keys.{plain, prefix_cmp}
use Rattle.sqlite_value.proofs.OrderLemmas.{value_cmp_total}
use Rattle.sqlite_trees.specs.declared.store.Shape.TheVariants.{Table}
use Rattle.sqlite_trees.specs.Tree.{Trees, rowid, from_key, IsIndex}
use Rattle.sqlite_trees.specs.View.{IsShaped, is_int}
use Rattle.sqlite_trees.proofs.TreeLemmas.{prefix_cmp-one, sorted_index}
use Rattle.sqlite_sql.specs.Catalog.{entry_of}
use Rattle.sqlite_exec.specs.Plan.{resolved}
use Rattle.sqlite_exec.proofs.ScanLemmas.{resolves, rowid-entry_of}
use Rattle.osm_tree_audits.specs.Finding.{starts}
use Rattle.osm_tree_audits.specs.ElementTables.{index_of, key_of, table_of, width_of}
use Rattle.osm_tree_audits.specs.Looks.{IsInOrder}
use Rattle.osm_tree_audits.specs.Walking.{IsAtNamed, all_reached}
use Rattle.osm_tree_audits.specs.declared.tables.ElementTable.{ElementTable}
use Rattle.osm_tree_audits.specs.declared.tables.ElementTable.TheVariants.{Elements, Tags, Links}
use Rattle.osm_tree_audits.proofs.Found.{filter_mapped, flat_picked}
use Rattle.osm_tree_audits.proofs.Prefix.{none_above}
use Rattle.osm_tree_audits.proofs.Reaching.{ascending_from}

no_rows : {A B : Type 0} (f : A → B) (xs : List A) → map f xs ≡ [] → xs ≡ []
no_rows f [] none = refl
no_rows f (x ∷ xs) none = cc

first_row : {A B : Type 0} (f : A → B) (xs : List A) (y : B) (ys : List B) → map f xs ≡ y ∷ ys → (x : A) × (more : List A) × (xs ≡ x ∷ more) × (f x ≡ y)
first_row f [] y ys is = cc
first_row f (x ∷ xs) y ys is = (x, xs, refl, cc)

-- a key of one value
pub one_value : (key : Row) → length key ≡ 1 → key ≡ column key 0 ∷ []
one_value [] one = absurd (omega (arith, one))
one_value (v ∷ []) one = refl
one_value (v ∷ w ∷ key) one = absurd (omega (arith, one))

-- compares with what stands first in an entry
pub by_first : (of : ElementTable) (row : Row) (v : Value) → prefix_cmp plain (entry_of (key_of of) row) (v ∷ []) ≡ value_cmp (column row 1) v
by_first Elements row v = prefix_cmp-one (column row 1) (column row 2 ∷ rowid row ∷ []) v
by_first Tags row v = prefix_cmp-one (column row 1) (column row 2 ∷ column row 3 ∷ rowid row ∷ []) v
by_first Links row v = prefix_cmp-one (column row 1) (column row 2 ∷ column row 3 ∷ rowid row ∷ []) v

-- and with a row's rowid
by_rowid : (row : Row) (v : Value) → IsTrue (is_int (rowid row)) → prefix_cmp plain row (v ∷ []) ≡ value_cmp (rowid row) v
by_rowid [] v keyed = absurd (true≢false (sym keyed))
by_rowid (x ∷ row) v keyed = prefix_cmp-one x row v

module _ (cs : List ℕ) (key : Row) where
  abbrev is_found : Row → Bool
  is_found row = starts key (entry_of cs row)

  -- the rows from the first on whose entry isn't below the key
  abbrev rows_from : List Row → List Row
  rows_from [] = []
  rows_from (r ∷ rows) = cond (is_lt (prefix_cmp plain (entry_of cs r) key)) (rows_from rows) (r ∷ rows)

  entries_from : (rows : List Row) → map (entry_of cs) (rows_from rows) ≡ from_key plain key (map (entry_of cs) rows)
  entries_from [] = refl
  entries_from (r ∷ rows) =
      let more = entries_from rows in
      elim (is_lt (prefix_cmp plain (entry_of cs r) key)) as (λ b. map (entry_of cs) (cond b (rows_from rows) (r ∷ rows)) ≡ cond b (from_key plain key (map (entry_of cs) rows)) (map (entry_of cs) (r ∷ rows)))
      [ true ↦ more | false ↦ refl ]

  all_from : (P : Row → Type 0) (rows : List Row) → AllByRecursion P rows → AllByRecursion P (rows_from rows)
  all_from P [] all = tt
  all_from P (r ∷ rows) all =
      let more = all_from P rows all.1 in
      elim (is_lt (prefix_cmp plain (entry_of cs r) key)) as (λ b. AllByRecursion P (cond b (rows_from rows) (r ∷ rows))) [ true ↦ more | false ↦ all ]

  -- where one of them is the first, a search for its rowid leads there
  found_by_rowid : (rows : List Row) (first : Row) (more : List Row) (v : Value) → IsShaped Table rows → rows_from rows ≡ first ∷ more → rowid first ≡ v → from_key plain (v ∷ []) rows ≡ rows_from rows
  found_by_rowid [] first more v table is id = cc
  found_by_rowid (r ∷ rows) first more v table is id = go (is_lt (prefix_cmp plain (entry_of cs r) key)) is (found_by_rowid rows first more v (table.0.1, table.1.1))
    where
      go : (b : Bool) → cond b (rows_from rows) (r ∷ rows) ≡ first ∷ more → (rows_from rows ≡ first ∷ more → rowid first ≡ v → from_key plain (v ∷ []) rows ≡ rows_from rows)
          → from_key plain (v ∷ []) (r ∷ rows) ≡ cond b (rows_from rows) (r ∷ rows)
      go true is later =
          let Later = λ (x : Row). value_cmp (rowid r) (rowid x) ≡ Less in
          let below : value_cmp (rowid r) (rowid first) ≡ Less = (subst (AllByRecursion Later) is (all_from Later rows table.0.0)).0 in
          let passed : is_lt (prefix_cmp plain r (v ∷ [])) ≡ true = ap is_lt (by_rowid r v table.1.0 ∙ ap (value_cmp (rowid r)) (sym id) ∙ below) in
          rw passed (later is id)
      go false is later =
          let same : r ≡ first = cc in
          let here : rowid r ≡ v = ap rowid same ∙ id in
          let met : is_lt (prefix_cmp plain r (v ∷ [])) ≡ false = ap is_lt (by_rowid r v table.1.0 ∙ ap (λ w. value_cmp w v) here ∙ tied_itself value_cmp_total v) in
          rw met refl

  -- the rows before them have no such entry
  found_from : (rows : List Row) → filter is_found (rows_from rows) ≡ filter is_found rows
  found_from [] = refl
  found_from (r ∷ rows) = go (prefix_cmp plain (entry_of cs r) key) refl (found_from rows)
    where
      go : (o : Rattle.std.proofs.Common.Ordering) → prefix_cmp plain (entry_of cs r) key ≡ o → filter is_found (rows_from rows) ≡ filter is_found rows → filter is_found (rows_from (r ∷ rows)) ≡ filter is_found (r ∷ rows)
      go Less t more = rw t more
      go Equal t more = ap (λ (b : Bool). filter is_found (cond b (rows_from rows) (r ∷ rows))) (ap is_lt t)
      go Greater t more = ap (λ (b : Bool). filter is_found (cond b (rows_from rows) (r ∷ rows))) (ap is_lt t)

  module _ (rows index : List Row) (same : map (entry_of cs) rows ≡ index) where
    -- the entry that a search gives names the first of them
    begins_at : (e : Row) (left : List Row) (v : Value) → IsShaped Table rows → from_key plain key index ≡ e ∷ left → column e (length cs) ≡ v → from_key plain (v ∷ []) rows ≡ rows_from rows
    begins_at e left v table next id =
        let first = first_row (entry_of cs) (rows_from rows) e left (entries_from rows ∙ ap (from_key plain key) same ∙ next) in
        found_by_rowid rows first.0 first.1 v table first.2 (sym (rowid-entry_of cs first.0) ∙ ap (λ x. column x (length cs)) first.3 ∙ id)

    -- they stand in the order of the index
    in_order_from : IsIndex plain (from_key plain key index) → IsIndex plain (map (entry_of cs) (rows_from rows))
    in_order_from up = subst (IsIndex plain) (sym (entries_from rows ∙ ap (from_key plain key) same)) up

    -- and those whose entries begin with the key are those to which the index leads
    reached_from : IsShaped Table rows → map (drop 1) (filter is_found (rows_from rows)) ≡ map (drop 1) (flat_map (resolved rows (length cs)) (filter (starts key) index))
    reached_from table =
        ap (map (drop 1)) (found_from rows ∙ sym (flat_picked (resolved rows (length cs)) (entry_of cs) (starts key) rows (resolves cs rows table)) ∙ ap (λ l. flat_map (resolved rows (length cs)) (filter (starts key) l)) same)

  -- the first row is such a one
  pub one_found : (r : Row) (left : List Row) → prefix_cmp plain (entry_of cs r) key ≡ Equal → map (drop 1) (filter is_found (r ∷ left)) ≡ drop 1 r ∷ map (drop 1) (filter is_found left)
  one_found r left tied = rw tied refl

  -- or it is beyond them
  pub none_found : (r : Row) (left : List Row) → IsIndex plain (map (entry_of cs) (r ∷ left)) → prefix_cmp plain (entry_of cs r) key ≡ Greater → map (drop 1) (filter is_found (r ∷ left)) ≡ []
  none_found r left up above =
      let none = none_above key (entry_of cs r) (map (entry_of cs) left) (sorted_index plain (map (entry_of cs) (r ∷ left)) up) above in
      ap (map (drop 1)) (no_rows (entry_of cs) (filter is_found (r ∷ left)) (sym (filter_mapped (entry_of cs) (starts key) is_found (λ x. refl) (r ∷ left)) ∙ none))

width : (of : ElementTable) → width_of of ≡ length (key_of of)
width Elements = refl
width Tags = refl
width Links = refl

-- once a search in the index of a table's primary key gave an entry, and the cursor over the table stands at the row that this names
pub begun : (db : Trees) (of : ElementTable) (key e : Row) (more left : List Row) → IsShaped Table (db (table_of of)) → IsIndex plain (db (index_of of)) → IsInOrder db of → from_key plain key (db (index_of of)) ≡ e ∷ more
    → IsAtNamed (db (table_of of)) e (width_of of) left
    → IsIndex plain (map (entry_of (key_of of)) left) × (map (drop 1) (filter (λ row. starts key (entry_of (key_of of) row)) left) ≡ all_reached db of key)
begun db of key e more left table index same next named =
    let cs = key_of of in
    let rows = db (table_of of) in
    let some = rows_from cs key rows in
    let is : left ≡ some = named.2 ∙ begins_at cs key rows (db (index_of of)) same e more (Int named.0) table next (sym (ap (column e) (width of)) ∙ named.1) in
    let up = in_order_from cs key rows (db (index_of of)) same (ascending_from _ plain key (db (index_of of)) index) in
    let all = reached_from cs key rows (db (index_of of)) same table ∙ ap (λ n. map (drop 1) (flat_map (resolved rows n) (filter (starts key) (db (index_of of))))) (sym (width of)) in
    subst (λ l. IsIndex plain (map (entry_of cs) l) × (map (drop 1) (filter (λ row. starts key (entry_of cs row)) l) ≡ all_reached db of key)) (sym is) (up, all)
