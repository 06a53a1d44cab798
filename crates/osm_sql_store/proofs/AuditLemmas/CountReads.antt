-- What the queries that count say of the tables.
use Rattle.std.proofs.Common.{◌≡◌, ℕ, suc, min, pos, negsuc, true, false, List, [], ◌∷◌, ◌++◌, map, length, codes, Some, refl, sym, ap, subst, ◌∙◌, arith, IsPermutation}
use Rattle.std.specs.Prelude.{flat_map, filter}
use Rattle.std.specs.List.{AllZip, AllByRecursion}
use Rattle.std.proofs.lemmas.List.{length-map}
use Rattle.std.proofs.lemmas.List.Sorted.{length_permutation}
use Rattle.sqlite.specs.declared.types.Value.TheVariants.{Null, Int}
use Rattle.sqlite.specs.Collation.TheVariants.{Binary}
use Rattle.sqlite.specs.Command.TheVariants.{Select}
use Rattle.sqlite.specs.Order.{Row}
use Rattle.sqlite.specs.Program.{overlay}
use Rattle.sqlite.specs.Schema.{Schema}
use Rattle.sqlite.specs.Query.{Query, inner, end, IsAnswer, Output, output}
use Rattle.sqlite.specs.State.{State}
use Rattle.sqlite.specs.Term.{Env, col, lit}
use Rattle.sqlite.specs.Tree.{Trees}
use Rattle.sqlite.specs.Listing.{understood, reads_listing}
use Rattle.sqlite.proofs.Callers.{reads_as, IsPlain, command_of}
use Rattle.sqlite_sql.specs.declared.aggregate.AggregateOp.TheVariants.{CountRows}
use Rattle.sqlite_sql.specs.Group.{Grouping, IsSummary, Summarizes, value_over}
use Rattle.sqlite_sql.specs.Query.{matches_as}
use Rattle.sqlite_trees.proofs.ListLemmas.{all-permutation}
use Rattle.sqlite_tied.specs.Compute.{everything}
use Rattle.osm_sql_store.specs.declared.audit.table.AuditedTable.{AuditedTable}
use Rattle.osm_sql_store.specs.declared.audit.table.AuditedTable.TheVariants.{Blobs, Elements, Tags, Links}
use Rattle.osm_rows.specs.declared.schema.layout.Layout.TheVariants as layout
use Rattle.osm_sql_store.specs.AuditedTables.{HasTable, tree_of, count_statement}
use Rattle.osm_sql_store.specs.Load.Asking.{IsAnswered}
use Rattle.osm_sql_store.specs.Load.Selects.{selects}

abbrev counting : Grouping
counting = record { keys = []; collations = []; aggregates = record { op = CountRows; distinct = false; collation = Binary; argument = lit Null } ∷ []; having = [] }

-- `SELECT count(*) FROM tree`
abbrev pub counts : ℕ → Query
counts tree = record {
  from = inner tree end;
  filter = [];
  group = Some counting;
  project = col 1 0 ∷ [];
  distinct = false;
  collations = [];
  order = [];
  limit = lit (Int (negsuc 0));
  offset = lit (Int (pos 0));
}

-- the statement counts the rows of the table
abbrev IsCount : AuditedTable → Schema → Type 0
IsCount table schema =
    (command_of (understood schema (count_statement table)) ≡ Select (record { lets = []; body = counts (tree_of table) }) (codes "count(*)" ∷ [])) × (reads_listing schema (count_statement table) ≡ false) × IsPlain (understood schema (count_statement table))

count_is : (table : AuditedTable) (schema : Schema) → HasTable table schema → IsCount table schema
unfolding understood everything
count_is Blobs schema (layout.Bodies, is) = subst (IsCount Blobs) (sym is) (refl, refl, (refl, refl))
count_is Blobs schema (layout.Tables, is) = subst (IsCount Blobs) (sym is) (refl, refl, (refl, refl))
count_is Elements schema is = subst (IsCount Elements) (sym is) (refl, refl, (refl, refl))
count_is Tags schema is = subst (IsCount Tags) (sym is) (refl, refl, (refl, refl))
count_is Links schema is = subst (IsCount Links) (sym is) (refl, refl, (refl, refl))

pub count_selects : (table : AuditedTable) → selects (count_statement table) ≡ true
unfolding everything
count_selects Blobs = refl
count_selects Elements = refl
count_selects Tags = refl
count_selects Links = refl

-- each row is a match
matches_length : (env : Env) (table : List Row) → length (flat_map (λ r. (env ++ r ∷ []) ∷ []) table) ≡ length table
matches_length env [] = refl
matches_length env (r ∷ table) = ap suc (matches_length env table)

abbrev pub counted : ℕ → Row
counted n = Int (pos (min n 9223372036854775807)) ∷ []

-- one group has one row, which has the count
one_summary : (order : List Env) (rows : List Row) → AllZip (IsSummary counting) (order ∷ []) rows → rows ≡ counted (length order) ∷ []
one_summary order [] zip = absurd zip
one_summary order (row ∷ []) zip = ap (λ r. r ∷ []) (of_row zip.0.0 zip.0.1 zip.0.2)
  where
    of_row : (values : Row) → AllZip (λ a v. value_over order a ≡ Some v) counting.aggregates values → row ≡ [] ++ values → row ≡ counted (length order)
    of_row [] all is = absurd all
    of_row (v ∷ []) all is =
        let shown : Some (Int (pos (min (length (map (λ (env : Env). Null) order)) 9223372036854775807))) ≡ Some v = all.0 in
        let value : v ≡ Int (pos (min (length (map (λ (env : Env). Null) order)) 9223372036854775807)) = cc in
        is ∙ ap (λ v. v ∷ []) value ∙ ap (λ n. counted n) (length-map order (λ (env : Env). Null))
    of_row (v ∷ w ∷ values) all is = absurd all.1
one_summary order (row ∷ other ∷ rows) zip = absurd zip.1

every : (envs : List Env) → filter (λ env. true) envs ≡ envs
every [] = refl
every (env ∷ envs) = ap (λ l. env ∷ l) (every envs)

-- what `SELECT count(*)` shows, up to 2^63 - 1
pub counts_shown : (tree : ℕ) (trees : Trees) (rows : List Row) → IsAnswer (counts tree) trees [] rows → rows ≡ counted (length (trees tree)) ∷ []
counts_shown tree trees rows a =
    let all : List Env = matches_as Null trees [] (inner tree end) ([] ∷ []) in
    let many : length all ≡ length (trees tree) = matches_length ([] ∷ []) (trees tree) in
    let s : Summarizes counting [] all a.staged = a.grouped in
    let order = s.grouping.0 in
    let groups : s.groups ≡ order ∷ [] = s.grouping.2 in
    let summed : s.rows ≡ counted (length order) ∷ [] = one_summary order s.rows (subst (λ gs. AllZip (IsSummary counting) gs s.rows) groups s.summaries) in
    let long : length order ≡ length (trees tree) = length_permutation all order s.grouping.1 ∙ many in
    let staged : a.staged ≡ ([] ∷ counted (length (trees tree)) ∷ []) ∷ [] =
    s.having ∙ every _ ∙ ap (map (λ (r : Row). [] ∷ r ∷ [])) (summed ∙ ap (λ n. counted n ∷ []) long) in
    let kept : a.kept ≡ ([], counted (length (trees tree))) ∷ [] = a.distinct ∙ ap (map (output (counts tree))) staged in
    let ordered : a.ordered ≡ ([], counted (length (trees tree))) ∷ [] = only a.kept a.ordered _ kept a.same in
    a.shown ∙ ap (map (λ (o : Output). o.1)) ordered
  where
    one : (xs : List Output) (x : Output) → length xs ≡ 1 → AllByRecursion (λ y. y ≡ x) xs → xs ≡ x ∷ []
    one [] x e all = absurd (let z : 0 ≡ 1 = e in omega (arith, z))
    one (y ∷ []) x e all = ap (λ z. z ∷ []) all.0
    one (y ∷ z ∷ xs) x e all = absurd (omega (arith, e))

    only : (xs ys : List Output) (x : Output) → xs ≡ x ∷ [] → IsPermutation xs ys → ys ≡ x ∷ []
    only xs ys x is same =
        one ys x (length_permutation xs ys same ∙ ap length is) (all-permutation (λ y. y ≡ x) xs ys same (subst (AllByRecursion (λ y. y ≡ x)) (sym is) (refl, tt)))

-- the query sees the table itself
itself : (table : AuditedTable) (trees : Trees) → overlay trees [] (tree_of table) ≡ trees (tree_of table)
itself Blobs trees = refl
itself Elements trees = refl
itself Tags trees = refl
itself Links trees = refl

pub counts_rows : (table : AuditedTable) (old new : State) (rows : List Row) → HasTable table old.now.schema → IsAnswered (count_statement table) [] old new rows → rows ≡ counted (length (old.now.trees (tree_of table))) ∷ []
counts_rows table old new rows has answered =
    let is = count_is table old.now.schema has in
    let read = reads_as (count_statement table) [] old new old.now.schema refl _ is.0 is.2 is.1 rows answered.shown in
    counts_shown (tree_of table) (overlay old.now.trees []) rows (read.answer Null) ∙ ap (λ rows. counted (length rows) ∷ []) (itself table old.now.trees)
