-- A row that comes after all others, and its entries in the indexes.
use Rattle.std.proofs.Common.{◌≡◌, ◌≢◌, ℕ, ◌+◌, ◌<◌, ℤ, pos, ◌+ℤ◌, true, false, IsTrue, List, [], ◌∷◌, ◌++◌, map, take, drop, length, take_all, append-nil, get_or, Option, None, Some, Result, IfOk, refl, sym, ap, ◌∙◌, subst, inl, inr, if◌then◌else◌, ◌==◌, eq-eqb, ne_eqb, Less, arith}
use Rattle.std.specs.List.{AllByRecursion}
use Rattle.std.specs.Cmp.{int_cmp_is}
use Rattle.std.specs.Option.{ok_or, SomeIff}
use Rattle.std.proofs.lemmas.Bool.{cases_eq}
use Rattle.std.proofs.lemmas.Int.{ints}
use Rattle.std.proofs.lemmas.List.{append_assoc, drop_more, map-append, length-append, take_more}
use Rattle.sqlite_value.specs.declared.value.Value.TheVariants.{Int}
use Rattle.sqlite_value.specs.declared.keys.Order.{Order}
use Rattle.sqlite_value.specs.Order.{Row, value_cmp}
use Rattle.sqlite_value.specs.Keys.{plain}
use Rattle.sqlite_value.proofs.OrderLemmas.{value_cmp_total, value_cmp-Int}
use Rattle.sqlite_trees.specs.declared.store.Shape.TheVariants.{Table}
use Rattle.sqlite_trees.specs.Tree.{Trees, rowid, IsAscending, IsTable, put_row, insert_entry, with_tree}
use Rattle.sqlite_trees.specs.View.{View, is_int, IsShaped, SetsTree, OnlyWrites}
use Rattle.sqlite_trees.proofs.ListLemmas.{all_of, all_weaker, all-append, all_both}
use Rattle.sqlite_trees.proofs.TreeLemmas.{IsShaped-put_row}
use Rattle.sqlite_sql.specs.Catalog.{entry_of, IsIndexOf}
use Rattle.sqlite_schema.specs.declared.schema.Index.{Index as AddedIndex}
use Rattle.sqlite_exec.specs.Calls.{OnlyReads}
use Rattle.sqlite_exec.specs.Write.{IsLast}
use Rattle.sqlite_exec.proofs.WriteLemmas.{one_more_entry}
use Rattle.osm_tree_writes.specs.declared.layout.IndexTree.{IndexTree}
use Rattle.osm_tree_writes.specs.declared.layout.TableTree.{TableTree}
use Rattle.osm_tree_writes.specs.Appending.{columns_of, indexes_of, with_entries, IsAfter, IsApart, IsApartOf, IsNoIndex, KeepIndexed, Appends, PutsEntries}

-- ---- the rowids

put_row_last : (new : Row) (next : ℤ) (rows : List Row) → rowid new ≡ Int next → IsAfter next rows → put_row new rows ≡ rows ++ new ∷ []
put_row_last new next [] keyed after = refl
put_row_last new next (r ∷ rows) keyed after =
    let below : value_cmp (rowid r) (rowid new) ≡ Less = rw keyed after.0 in
    rw below (ap (λ l. r ∷ l) (put_row_last new next rows keyed after.1))

next_above : (a b : ℤ) → b ≡ a +ℤ pos 1 → value_cmp (Int a) (Int b) ≡ Less
next_above a b is = value_cmp-Int a b ∙ sym (int_cmp_is a b Less (omega (arith, ints)))

pub after_more : (id next : ℤ) (row : Row) (rows : List Row) → rowid row ≡ Int id → next ≡ id +ℤ pos 1 → IsAfter id rows → IsAfter next (rows ++ row ∷ [])
after_more id next row rows keyed is after =
    let up = next_above id next is in
    all-append (λ (r : Row). value_cmp (rowid r) (Int next) ≡ Less) rows (row ∷ [])
    (all_weaker (λ (r : Row). value_cmp (rowid r) (Int id) ≡ Less) (λ (r : Row). value_cmp (rowid r) (Int next) ≡ Less) (λ r h. value_cmp_total.trans (rowid r) (Int id) (Int next) h up) rows after)
    (rw keyed up, tt)

last_row_above : (front : List Row) (row : Row) → IsTable (front ++ row ∷ []) → AllByRecursion (λ (r : Row). value_cmp (rowid r) (rowid row) ≡ Less) front
last_row_above [] row table = tt
last_row_above (x ∷ front) row table = (last_of front table.0, last_row_above front row table.1)
  where
    last_of : (more : List Row) → AllByRecursion (λ (r : Row). value_cmp (rowid x) (rowid r) ≡ Less) (more ++ row ∷ []) → value_cmp (rowid x) (rowid row) ≡ Less
    last_of [] h = h.0
    last_of (y ∷ more) h = last_of more h.1

pub after_last : (rows : List Row) (row : Row) (id next : ℤ) → IsShaped Table rows → IsLast rows row true → Int id ≡ rowid row → next ≡ id +ℤ pos 1 → IsAfter next rows
after_last rows row id next shaped last keyed is =
    let table : IsTable (last.0 ++ row ∷ []) = subst IsTable last.1 shaped.0 in
    let below : IsAfter id last.0 = rw keyed (last_row_above last.0 row table) in
    subst (IsAfter next) (sym last.1) (after_more id next row last.0 (sym keyed) is below)

-- the rowid after the last one, where there is one
pub next_after : {E : Type 0} (answer : Result ℤ E) (fault : E) (sum : Option ℤ) (id : ℤ) (fits : Type 0) (P : ℤ → Type 0) → answer ≡ ok_or sum fault → SomeIff sum fits (id +ℤ pos 1) → ((next : ℤ) → next ≡ id +ℤ pos 1 → P next) → IfOk answer P
next_after answer fault (Some next) id fits P is sum h = rw is (h next sum.1)
next_after answer fault None id fits P is sum h = rw is tt

-- ---- a row behind the others

take_front : (rows more : List Row) → take (length rows) (rows ++ more) ≡ rows
take_front [] [] = refl
take_front [] (x ∷ more) = refl
take_front (x ∷ rows) more = ap (λ l. x ∷ l) (take_front rows more)

take_whole : (rows : List Row) (new : Row) → take (length rows + 1) (rows ++ new ∷ []) ≡ rows ++ new ∷ []
take_whole rows new = take_all (length rows + 1) (rows ++ new ∷ []) (omega (arith, length-append rows (new ∷ [])))

get_last : (rows : List Row) (new : Row) → get_or (rows ++ new ∷ []) (length rows) [] ≡ new
get_last [] new = refl
get_last (x ∷ rows) new = get_last rows new

-- the index of the rows has the row's entry too
indexed_last : (o : Order) (cs : List ℕ) (rows entries : List Row) (new : Row) → IsShaped Table (rows ++ new ∷ []) → IsIndexOf cs rows entries → IsIndexOf cs (rows ++ new ∷ []) (insert_entry o (entry_of cs new) entries)
indexed_last o cs rows entries new shaped was =
    let all = rows ++ new ∷ [] in
    let within : length rows < length all = omega (arith, length-append rows (new ∷ [])) in
    let step = one_more_entry o cs all entries (length rows) shaped within (rw (take_front rows (new ∷ [])) was) in
    rw (take_whole rows new, get_last rows new) at step

-- ---- the trees

pub with_same : (db : Trees) (t : ℕ) (es : List Row) → with_tree db t es t ≡ es
with_same db t es = rw (eq-eqb t t refl)

pub with_other : (db : Trees) (t u : ℕ) (es : List Row) → u ≢ t → with_tree db t es u ≡ db u
with_other db t u es other = rw (ne_eqb u t other)

module _ (old new : View) (t : ℕ) (edit : List Row → List Row) (sets : SetsTree old new t edit) where
  set_same : new.trees t ≡ edit (old.trees t)
  set_same = ap (λ (v : View). v.trees t) sets.is ∙ with_same old.trees t _

  set_other : (u : ℕ) → u ≢ t → new.trees u ≡ old.trees u
  set_other u other = ap (λ (v : View). v.trees u) sets.is ∙ with_other old.trees t u _ other

  set_writes : OnlyWrites old new
  set_writes = λ i. record (sets.is i) { trees = new.trees; cursors = new.cursors }

writes_then : (a b c : View) → OnlyWrites a b → OnlyWrites b c → OnlyWrites a c
writes_then a b c first second = second ∙ (λ i. record (first i) { trees = c.trees; cursors = c.cursors })

-- ---- a row and its entries

-- the row's entry is put into the index
abbrev pub Enters : IndexTree → Row → View → View → Type 0
Enters index row old new = SetsTree old new index.tree (insert_entry plain (entry_of (columns_of index) row))

-- the same for an index that a table may have
abbrev pub EntersOther : Option IndexTree → Row → View → View → Type 0
EntersOther None row old new = new ≡ old
EntersOther (Some index) row old new = Enters index row old new

-- an index that had an entry for each row of the table has one for each still
abbrev pub StaysIndexed : (old new : View) (table : ℕ) → IndexTree → Type 0
StaysIndexed old new table i = IsIndexOf (columns_of i) (old.trees table) (old.trees i.tree) → IsIndexOf (columns_of i) (new.trees table) (new.trees i.tree)

kept_indexed : (old mid new : View) (table : ℕ) (is : List IndexTree) → AllByRecursion (StaysIndexed old mid table) is → AllByRecursion (StaysIndexed mid new table) is → AllByRecursion (StaysIndexed old new table) is
kept_indexed old mid new table = all_both (StaysIndexed old mid table) (StaysIndexed mid new table) (StaysIndexed old new table) (λ i first second was. second (first was))

module _ (tree : ℕ) (key : IndexTree) (row : Row) (next : ℤ) (columns : Row) (is : row ≡ Int next ∷ columns) (old put keyed : View)
    (shaped : IsShaped Table (old.trees tree)) (after : IsAfter next (old.trees tree))
    (puts : SetsTree old put tree (put_row row)) (keys : Enters key row put keyed) (apart : key.tree ≢ tree) where
  keyed_by : rowid row ≡ Int next
  keyed_by = ap rowid is

  now_last : put_row row (old.trees tree) ≡ old.trees tree ++ row ∷ []
  now_last = put_row_last row next (old.trees tree) keyed_by after

  whole : IsShaped Table (old.trees tree ++ row ∷ [])
  whole =
      let number : IsTrue (is_int (rowid row)) = subst (λ v. IsTrue (is_int v)) (sym keyed_by) refl in
      subst (IsShaped Table) now_last (IsShaped-put_row row (old.trees tree) number shaped)

  table_keyed : keyed.trees tree ≡ old.trees tree ++ row ∷ []
  table_keyed = set_other put keyed key.tree _ keys tree (λ e. apart (sym e)) ∙ set_same old put tree _ puts ∙ now_last

  key_keyed : keyed.trees key.tree ≡ insert_entry plain (entry_of (columns_of key) row) (old.trees key.tree)
  key_keyed = set_same put keyed key.tree _ keys ∙ ap (insert_entry plain (entry_of (columns_of key) row)) (set_other old put tree _ puts key.tree apart)

  others_keyed : (t : ℕ) → t ≢ tree → key.tree ≢ t → keyed.trees t ≡ old.trees t
  others_keyed t other also = set_other put keyed key.tree _ keys t (λ e. also (sym e)) ∙ set_other old put tree _ puts t other

  writes_keyed : OnlyWrites old keyed
  writes_keyed = writes_then old put keyed (set_writes old put tree _ puts) (set_writes put keyed key.tree _ keys)

  more_rows : (rows : List Row) → rows ≡ old.trees tree ++ row ∷ [] → map (drop 1) rows ≡ map (drop 1) (old.trees tree) ++ columns ∷ []
  more_rows rows are = ap (map (drop 1)) are ∙ map-append (drop 1) (old.trees tree) (row ∷ []) ∙ ap (λ (r : Row). map (drop 1) (old.trees tree) ++ drop 1 r ∷ []) is

  enters_index : (i : IndexTree) (new : View) → new.trees tree ≡ old.trees tree ++ row ∷ [] → new.trees i.tree ≡ insert_entry plain (entry_of (columns_of i) row) (old.trees i.tree) → StaysIndexed old new tree i
  enters_index i new table this was = rw (table, this) (indexed_last plain (columns_of i) (old.trees tree) (old.trees i.tree) row whole was)

  appended_one : (new : View) → new ≡ keyed
      → Appends (record { tree = tree; key = key; by_id = None }) [] (columns ∷ []) old new × (new.trees tree ≡ old.trees tree ++ row ∷ [])
  appended_one new same = rw same (
    record {
      sound = puts.sound;
      rows = more_rows (keyed.trees tree) table_keyed;
      indexed = (enters_index key keyed table_keyed key_keyed, tt);
      more_indexed = tt;
      others = λ t other also none. others_keyed t other also.0;
      rest = writes_keyed;
    },
    table_keyed,
  )

  appended_both : (i : IndexTree) (new : View) → Enters i row keyed new → i.tree ≢ tree → i.tree ≢ key.tree
      → Appends (record { tree = tree; key = key; by_id = Some i }) [] (columns ∷ []) old new × (new.trees tree ≡ old.trees tree ++ row ∷ [])
  appended_both i new enters not_table not_key =
      let table : new.trees tree ≡ old.trees tree ++ row ∷ [] = set_other keyed new i.tree _ enters tree (λ e. not_table (sym e)) ∙ table_keyed in
      let first : new.trees key.tree ≡ insert_entry plain (entry_of (columns_of key) row) (old.trees key.tree) = set_other keyed new i.tree _ enters key.tree (λ e. not_key (sym e)) ∙ key_keyed in
      let second : new.trees i.tree ≡ insert_entry plain (entry_of (columns_of i) row) (old.trees i.tree) =
      set_same keyed new i.tree _ enters ∙ ap (insert_entry plain (entry_of (columns_of i) row)) (others_keyed i.tree not_table (λ e. not_key (sym e))) in (
        record {
          sound = puts.sound;
          rows = more_rows (new.trees tree) table;
          indexed = (enters_index key new table first, (enters_index i new table second, tt));
          more_indexed = tt;
          others = λ t other also none. set_other keyed new i.tree _ enters t (λ e. also.1.0 (sym e)) ∙ others_keyed t other also.0;
          rest = writes_then old keyed new writes_keyed (set_writes keyed new i.tree _ enters);
        },
        table,
      )

pub appended_row : (table : TableTree) (row : Row) (next : ℤ) (columns : Row) (old put keyed new : View) → IsApart table → row ≡ Int next ∷ columns → IsShaped Table (old.trees table.tree) → IsAfter next (old.trees table.tree)
    → SetsTree old put table.tree (put_row row) → Enters table.key row put keyed → EntersOther table.by_id row keyed new
    → Appends table [] (columns ∷ []) old new × (new.trees table.tree ≡ old.trees table.tree ++ row ∷ [])
appended_row table row next columns old put keyed new apart is shaped after puts keys = go table.by_id apart
  where
    go : (other : Option IndexTree) → IsApart (record table { by_id = other }) → EntersOther other row keyed new
        → Appends (record table { by_id = other }) [] (columns ∷ []) old new × (new.trees table.tree ≡ old.trees table.tree ++ row ∷ [])
    go None apart enters = appended_one table.tree table.key row next columns is old put keyed shaped after puts keys apart.0.0 new enters
    go (Some i) apart enters = appended_both table.tree table.key row next columns is old put keyed shaped after puts keys apart.0.0 i new enters apart.0.1.0 apart.1.0

-- ---- its entries in indexes of the user's own

pub kept_more : (more : List AddedIndex) (a b c : Trees) → KeepIndexed more a b → KeepIndexed more b c → KeepIndexed more a c
kept_more more a b c = all_both (λ (i : AddedIndex). IsIndexOf i.columns (a i.table) (a i.tree) → IsIndexOf i.columns (b i.table) (b i.tree))
    (λ (i : AddedIndex). IsIndexOf i.columns (b i.table) (b i.tree) → IsIndexOf i.columns (c i.table) (c i.tree))
    (λ (i : AddedIndex). IsIndexOf i.columns (a i.table) (a i.tree) → IsIndexOf i.columns (c i.table) (c i.tree)) (λ i first second was. second (first was)) more

module _ (table : ℕ) (r : Row) where
  -- the index after an edit of it, where it is of the table
  abbrev Edited : AddedIndex → Trees → Trees → Type 0
  Edited i db new = (i.table ≡ table → new i.tree ≡ insert_entry i.order (entry_of i.columns r) (db i.tree)) × (i.table ≢ table → new i.tree ≡ db i.tree)

  abbrev edits : List AddedIndex → Trees → Trees
  edits is db = with_entries table r is db

  abbrev one_edit : AddedIndex → Trees → Trees
  one_edit i db = if i.table == table then with_tree db i.tree (insert_entry i.order (entry_of i.columns r) (db i.tree)) else db

  one_edit_other : (i : AddedIndex) (db : Trees) (t : ℕ) → i.tree ≢ t → one_edit i db t ≡ db t
  one_edit_other i db t apart = elim (cases_eq i.table table) [
    | inl same ↦ rw (eq-eqb _ _ same) (with_other db i.tree t _ (λ e. apart (sym e)))
    | inr other ↦ rw (ne_eqb _ _ other) refl
  ]

  one_edit_same : (i : AddedIndex) (db : Trees) → Edited i db (one_edit i db)
  one_edit_same i db = (λ same. rw (eq-eqb _ _ same) (with_same db i.tree _), λ other. rw (ne_eqb _ _ other) refl)

  edits_other : (is : List AddedIndex) (db : Trees) (t : ℕ) → IsNoIndex is t → edits is db t ≡ db t
  edits_other [] db t none = refl
  edits_other (i ∷ is) db t none = edits_other is (one_edit i db) t none.1 ∙ one_edit_other i db t none.0

  edits_each : (is : List AddedIndex) (db : Trees) → IsAscending (λ (i j : AddedIndex). i.tree ≢ j.tree) is → AllByRecursion (λ (i : AddedIndex). Edited i db (edits is db)) is
  edits_each [] db apart = tt
  edits_each (i ∷ is) db apart =
      let kept = edits_other is (one_edit i db) i.tree (all_weaker (λ (j : AddedIndex). i.tree ≢ j.tree) (λ (j : AddedIndex). j.tree ≢ i.tree) (λ j h e. h (sym e)) is apart.0) in (
        (λ same. kept ∙ (one_edit_same i db).0 same, λ other. kept ∙ (one_edit_same i db).1 other),
        all_both (λ (j : AddedIndex). i.tree ≢ j.tree) (λ (j : AddedIndex). Edited j (one_edit i db) (edits is (one_edit i db))) (λ (j : AddedIndex). Edited j db (edits is (one_edit i db)))
            (λ j h e. (λ same. e.0 same ∙ ap (insert_entry j.order (entry_of j.columns r)) (one_edit_other i db j.tree h), λ other. e.1 other ∙ one_edit_other i db j.tree h))
            is apart.0 (edits_each is (one_edit i db) apart.1),
      )

-- what is left begins with the next index
pub next_index : (more : List AddedIndex) (at : ℕ) (i : AddedIndex) → at < length more → i ≡ get_or more at i → drop at more ≡ i ∷ drop (at + 1) more
next_index more at i within is = drop_more more at i within ∙ ap (λ (j : AddedIndex). j ∷ drop (at + 1) more) (sym is)

-- an entry is put into the next index, if it is of the table
pub with_entry : (table : ℕ) (r : Row) (i : AddedIndex) (is : List AddedIndex) (db : Trees) → i.table ≡ table
    → with_entries table r is (with_tree db i.tree (insert_entry i.order (entry_of i.columns r) (db i.tree))) ≡ with_entries table r (i ∷ is) db
with_entry table r i is db same = rw (eq-eqb _ _ same) refl

pub without_entry : (table : ℕ) (r : Row) (i : AddedIndex) (is : List AddedIndex) (db : Trees) → i.table ≢ table → with_entries table r is db ≡ with_entries table r (i ∷ is) db
without_entry table r i is db other = rw (ne_eqb _ _ other) refl

module _ (table : TableTree) (more : List AddedIndex) (row : Row) (columns : Row) (old mid new : View) (apart : IsApartOf table more) (shaped : IsShaped Table (old.trees table.tree ++ row ∷ []))
    (own : Appends table [] (columns ∷ []) old mid) (now : mid.trees table.tree ≡ old.trees table.tree ++ row ∷ []) (goes : PutsEntries more table.tree row mid new) where
  trees_are : new.trees ≡ edits table.tree row more mid.trees
  trees_are = ap (λ (v : View). v.trees) goes

  same_at : (t : ℕ) → IsNoIndex more t → new.trees t ≡ mid.trees t
  same_at t none = ap (λ (ts : Trees). ts t) trees_are ∙ edits_other table.tree row more mid.trees t none

  table_now : new.trees table.tree ≡ old.trees table.tree ++ row ∷ []
  table_now = same_at table.tree (all_weaker _ (λ (i : AddedIndex). i.tree ≢ table.tree) (λ i h. h.0) more apart.trees) ∙ now

  mid_other : (t : ℕ) → t ≢ table.tree → AllByRecursion (λ (k : IndexTree). k.tree ≢ t) (indexes_of table) → mid.trees t ≡ old.trees t
  mid_other t other also = own.others t other also tt

  stays : (i : AddedIndex) → (i.tree ≢ table.tree) × AllByRecursion (λ (k : IndexTree). k.tree ≢ i.tree) (indexes_of table)
      → (IsNoIndex more i.table × AllByRecursion (λ (k : IndexTree). k.tree ≢ i.table) (indexes_of table)) × Edited table.tree row i mid.trees new.trees
      → IsIndexOf i.columns (old.trees i.table) (old.trees i.tree) → IsIndexOf i.columns (new.trees i.table) (new.trees i.tree)
  stays i a b was =
      let tree_kept : mid.trees i.tree ≡ old.trees i.tree = mid_other i.tree a.0 a.1 in
      elim (cases_eq i.table table.tree) [
        | inl same ↦
            let entries : new.trees i.tree ≡ insert_entry i.order (entry_of i.columns row) (old.trees i.tree) = b.1.0 same ∙ ap (insert_entry i.order (entry_of i.columns row)) tree_kept in
            let before : IsIndexOf i.columns (old.trees table.tree) (old.trees i.tree) = subst (λ t. IsIndexOf i.columns (old.trees t) (old.trees i.tree)) same was in
            subst (λ t. IsIndexOf i.columns (new.trees t) (new.trees i.tree)) (sym same)
            (rw (table_now, entries) (indexed_last i.order i.columns (old.trees table.tree) (old.trees i.tree) row shaped before))
        | inr other ↦
            let entries : new.trees i.tree ≡ old.trees i.tree = b.1.1 other ∙ tree_kept in
            let rows : new.trees i.table ≡ old.trees i.table = same_at i.table b.0.0 ∙ mid_other i.table other b.0.1 in
            rw (rows, entries) was
      ]

  edited : AllByRecursion (λ (i : AddedIndex). Edited table.tree row i mid.trees new.trees) more
  edited = subst (λ (ts : Trees). AllByRecursion (λ (i : AddedIndex). Edited table.tree row i mid.trees ts) more) (sym trees_are) (edits_each table.tree row more mid.trees apart.apart)

  own_kept : (i : IndexTree) → AllByRecursion (λ (m : AddedIndex). m.tree ≢ i.tree) more → StaysIndexed old mid table.tree i → StaysIndexed old new table.tree i
  own_kept i none step was = rw (table_now ∙ sym now, same_at i.tree none) (step was)

  all_apart : (is : List IndexTree) (ms : List AddedIndex) → AllByRecursion (λ (m : AddedIndex). AllByRecursion (λ (k : IndexTree). k.tree ≢ m.tree) is) ms
      → AllByRecursion (λ (k : IndexTree). AllByRecursion (λ (m : AddedIndex). m.tree ≢ k.tree) ms) is
  all_apart [] ms h = tt
  all_apart (k ∷ is) ms h = (all_weaker _ (λ (m : AddedIndex). m.tree ≢ k.tree) (λ m all e. all.0 (sym e)) ms h, all_apart is ms (all_weaker _ (λ (m : AddedIndex). AllByRecursion (λ (k : IndexTree). k.tree ≢ m.tree) is) (λ m all. all.1) ms h))

  pub appended_more : Appends table more (columns ∷ []) old new × (new.trees table.tree ≡ old.trees table.tree ++ row ∷ [])
  appended_more = (
    record {
      sound = own.sound;
      rows = ap (map (drop 1)) (table_now ∙ sym now) ∙ own.rows;
      indexed = all_both (λ (k : IndexTree). AllByRecursion (λ (m : AddedIndex). m.tree ≢ k.tree) more) (StaysIndexed old mid table.tree) (StaysIndexed old new table.tree) own_kept (indexes_of table)
          (all_apart (indexes_of table) more (all_weaker _ (λ (m : AddedIndex). AllByRecursion (λ (k : IndexTree). k.tree ≢ m.tree) (indexes_of table)) (λ m h. h.1) more apart.trees)) own.indexed;
      more_indexed = all_both _ _ (λ (i : AddedIndex). IsIndexOf i.columns (old.trees i.table) (old.trees i.tree) → IsIndexOf i.columns (new.trees i.table) (new.trees i.tree)) stays more apart.trees
          (all_both _ (λ (i : AddedIndex). Edited table.tree row i mid.trees new.trees) (λ (i : AddedIndex). (IsNoIndex more i.table × AllByRecursion (λ (k : IndexTree). k.tree ≢ i.table) (indexes_of table)) × Edited table.tree row i mid.trees new.trees)
          (λ i a b. (a, b)) more apart.tables edited);
      others = λ t other also none. same_at t none ∙ mid_other t other also;
      rest = writes_then old mid new own.rest (goes ∙ ap (λ (ts : Trees). record mid { trees = ts; cursors = new.cursors }) (sym trees_are));
    },
    table_now,
  )

-- ---- rows one after the other

-- nothing is appended by a read
pub appends_nothing : (table : TableTree) (more : List AddedIndex) (old new : View) → old.is_broken ≡ false → OnlyReads old new → Appends table more [] old new
appends_nothing table more old new sound reads =
    let same : new.trees ≡ old.trees = ap (λ (v : View). v.trees) reads in
    record {
      sound = sound;
      rows = rw (same, append-nil) refl;
      indexed = all_of (StaysIndexed old new table.tree) (λ i was. rw same was) (indexes_of table);
      more_indexed = all_of (λ (i : AddedIndex). IsIndexOf i.columns (old.trees i.table) (old.trees i.tree) → IsIndexOf i.columns (new.trees i.table) (new.trees i.tree)) (λ i was. rw same was) more;
      others = λ t other also none. ap (λ (ts : Trees). ts t) same;
      rest = reads ∙ ap (λ (ts : Trees). record old { trees = ts; cursors = new.cursors }) (sym same);
    }

appends_then : (table : TableTree) (more : List AddedIndex) (first second : List Row) (a b c : View) → Appends table more first a b → Appends table more second b c → Appends table more (first ++ second) a c
appends_then table more first second a b c one two = record {
  sound = one.sound;
  rows = two.rows ∙ ap (λ (rows : List Row). rows ++ second) one.rows ∙ append_assoc (map (drop 1) (a.trees table.tree)) first second;
  indexed = kept_indexed a b c table.tree (indexes_of table) one.indexed two.indexed;
  more_indexed = kept_more more a.trees b.trees c.trees one.more_indexed two.more_indexed;
  others = λ t other also none. two.others t other also none ∙ one.others t other also none;
  rest = writes_then a b c one.rest two.rest;
}

-- the rows before a place are put, and then the row there
pub appends_next : {R : Type 0} (columns : R → Row) (rows : List R) (i : ℕ) (row : R) (table : TableTree) (more : List AddedIndex) (old mid new : View) → i < length rows → row ≡ get_or rows i row
    → Appends table more (map columns (take i rows)) old mid → Appends table more (columns row ∷ []) mid new → Appends table more (map columns (take (i + 1) rows)) old new
appends_next columns rows i row table more old mid new within is before step =
    let all : map columns (take (i + 1) rows) ≡ map columns (take i rows) ++ columns row ∷ [] =
    ap (map columns) (take_more rows i row within) ∙ map-append columns (take i rows) (get_or rows i row ∷ []) ∙ ap (λ r. map columns (take i rows) ++ columns r ∷ []) (sym is) in
    rw all (appends_then table more _ _ old mid new before step)
