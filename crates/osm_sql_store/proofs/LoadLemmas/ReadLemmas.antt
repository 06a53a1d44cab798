-- What each query of a store reads.
use Rattle.std.proofs.Common.{◌≡◌, inl, inr, ℕ, ℤ, pos, ◌<◌, Bool, true, false, ◌&&◌, nat_lt, nat_le, List, [], ◌∷◌, length, map, take, refl, sym, ap, ap₂, subst, ◌∙◌, ◌≤◌, arith, Less, Equal, IsPermutation}
use Rattle.std.specs.Prelude.{filter}
use Rattle.std.specs.Ordering.{ordering_then}
use Rattle.sqlite.specs.declared.types.Value.{Value}
use Rattle.sqlite.specs.declared.types.Value.TheVariants.{Null, Int}
use Rattle.sqlite.specs.declared.error.Error.{Error}
use Rattle.sqlite.specs.Collation.TheVariants.{Binary}
use Rattle.sqlite.specs.Ops.{binary, is_true}
use Rattle.sqlite.specs.Order.{Row, column}
use Rattle.sqlite.specs.Term.{col, lit}
use Rattle.sqlite.specs.Query.{Output}
use Rattle.sqlite.specs.Program.{overlay}
use Rattle.sqlite.specs.Effect.{Database}
use Rattle.sqlite.specs.Listing.{understood}
use Rattle.sqlite.specs.State.{State, Shown, FailsToQuery}
use Rattle.sqlite.proofs.Callers.{reads_as}
use Rattle.sqlite_sql.specs.declared.ops.CompareOp.{CompareOp}
use Rattle.sqlite_sql.specs.declared.ops.CompareOp.TheVariants.{Lt, Le, Gt, Ge}
use Rattle.sqlite_sql.specs.declared.ops.BinaryOp.TheVariants.{Compare}
use Rattle.sqlite_value.specs.Order.{value_cmp}
use Rattle.sqlite_trees.proofs.ListLemmas.{all_both, all-filter, all-map, all-permutation, ascending_weaker, ascending-filter}
use Rattle.sqlite_tied.specs.Compute.{everything}
use Rattle.sqlite_typing.specs.Types.{accepts_program}
use Rattle.std.specs.List.{AllByRecursion}
use Rattle.std.proofs.lemmas.List.Elements.{filter_passes, recursion_from_All}
use Rattle.std.proofs.lemmas.Bool.Decides.{nat_tests}
use Rattle.osm_rows.specs.declared.keeper.Extent.{Extent}
use Rattle.osm_rows.specs.declared.schema.layout.Layout.{Layout}
use Rattle.osm_rows.specs.declared.schema.layout.Layout.TheVariants.{Bodies, Tables}
use Rattle.osm_rows.specs.Schema.Layouts.{schema_of}
use Rattle.osm_rows.specs.Keeping.{touches}
use Rattle.osm_sql_store.specs.declared.schema.sql.TheConstants.{SELECT_VERSION, SELECT_EXTENTS, SELECT_LAST_START, SELECT_TOUCHING}
use Rattle.osm_rows.specs.Rows.{Placed, extent_columns as shown_extent}
use Rattle.osm_sql_store.specs.Load.Selects.{selects}
use Rattle.osm_sql_store.proofs.LoadLemmas.CauseLemmas.{IsCause, takes, query_causes}
use Rattle.osm_sql_store.proofs.LoadLemmas.OneTable.{select, orders, answer_is}
use Rattle.osm_rows.proofs.ListLemmas.CompareLemmas.{lower, higher, at_most, at_least}
use Rattle.osm_rows.proofs.ListLemmas.NumberOrder.{numbers_below, numbers_tied}
use Rattle.osm_rows.proofs.MapLemmas.PlacedLaws.{IsBefore}
use Rattle.osm_sql_store.proofs.LoadLemmas.SharedTexts.{compares, version_is, extents_is, extent_columns, touching_is, latest_first, last_start_is}
use Rattle.osm_rows.proofs.LoadLemmas.ShownRows.{HasExtents, columns_at}

-- the table `meta` has one row, which names the version
pub record HasVersion (layout : Layout) (db : Database) (version : ℤ) : Type 0 where
  pub schema : db.schema ≡ schema_of layout
  pub rows : IsPermutation (map (columns_at (0 ∷ [])) (db.trees 0)) ((Int version ∷ []) ∷ [])

always : {X : Type 0} (xs : List X) → filter (λ _. true) xs ≡ xs
always [] = refl
always (x ∷ xs) = ap (λ ys. x ∷ ys) (always xs)

pub and_true : (a b : Bool) → (a && (b && true)) ≡ (a && b)
and_true true true = refl
and_true true false = refl
and_true false b = refl

pub alone : (b : Bool) → (b && true) ≡ b
alone true = refl
alone false = refl

abbrev pub is : CompareOp → Value → Value → Bool
is op a b = is_true (binary (Compare op Binary) a b)

-- what a query on `blob` is sorted by, and what it shows
abbrev pub extent_output : Row → Output
extent_output v = (column v 0 ∷ [], column v 0 ∷ column v 1 ∷ column v 2 ∷ column v 3 ∷ column v 4 ∷ [])

by_offset : (x y : Extent) → x.off < y.off → ordering_then (value_cmp (Int (pos x.off)) (Int (pos y.off))) Equal ≡ Less
by_offset x y low = ap (λ o. ordering_then o Equal) (numbers_below x.off y.off low)

-- what a query that names a start looks for
abbrev pub touches_from : ℕ → ℕ → ℕ → Extent → Bool
touches_from start from to extent = nat_le start extent.off && touches from to extent

-- what the query for the last start is sorted by, and what it shows
abbrev start_output : Row → Output
start_output v = (column v 0 ∷ [], column v 0 ∷ [])

-- the row shows an offset of which P holds
abbrev pub ShowsOne : (ℕ → Type 0) → Row → Type 0
ShowsOne P row = (off : ℕ) × P off × (row ≡ Int (pos off) ∷ [])

first_of : (P : ℕ → Type 0) (rows : List Output) → AllByRecursion (λ (o : Output). ShowsOne P o.1) rows → AllByRecursion (ShowsOne P) (take 1 (map (λ (o : Output). o.1) rows))
first_of P [] all = tt
first_of P (o ∷ rows) all = (all.0, tt)

module _ (layout : Layout) (old new : State) (rows : List Row) (held : List Extent) (h : HasExtents layout old.now held) where
  -- each row shows the start of an extent at `from` or before
  pub last_start_read : (from : ℕ) (P : ℕ → Type 0) → AllByRecursion (λ (e : Extent). e.off ≤ from → P e.off) held → Shown SELECT_LAST_START.now (Int (pos from) ∷ []) old new rows → AllByRecursion (ShowsOne P) rows
  last_start_read from P all shown =
      let params = Int (pos from) ∷ [] in
      let read = reads_as SELECT_LAST_START.now params old new (schema_of layout) h.schema _ (last_start_is layout).0 (last_start_is layout).2 (last_start_is layout).1 rows shown in
      let a = read.answer Null in
      let ordered = orders 1 (compares Le (col 1 0) (col 0 0) ∷ []) (col 1 0 ∷ []) latest_first (lit (Int (pos 1))) (overlay old.now.trees []) params rows
      (columns_at (0 ∷ 2 ∷ 3 ∷ 4 ∷ 5 ∷ [])) shown_extent held h.rows
      (λ v. is Le (column v 0) (Int (pos from)) && true) (λ r. refl) start_output (λ r. refl)
      (λ x. nat_le x.off from) (λ x. rw (at_most x.off from) (alone (nat_le x.off from))) a in
      let passing = filter (λ (x : Extent). nat_le x.off from) held in
      let low : AllByRecursion (λ (x : Extent). nat_le x.off from ≡ true) passing = recursion_from_All _ _ (filter_passes (λ (x : Extent). nat_le x.off from) held) in
      let starts : AllByRecursion (λ (x : Extent). ShowsOne P (start_output (shown_extent x)).1) passing =
      all_both _ _ (λ (x : Extent). ShowsOne P (start_output (shown_extent x)).1) (λ x p test. (x.off, p (grind (arith, nat_tests)), refl)) passing (all-filter _ (λ (x : Extent). nat_le x.off from) held all) low in
      subst (AllByRecursion (ShowsOne P)) (sym a.shown) (first_of P a.ordered (all-permutation _ _ _ ordered (all-map (λ (o : Output). ShowsOne P o.1) (λ x. start_output (shown_extent x)) passing starts)))

  pub extents_read : Shown SELECT_EXTENTS.now [] old new rows → rows ≡ map shown_extent held
  extents_read shown =
      let read = reads_as SELECT_EXTENTS.now [] old new (schema_of layout) h.schema _ (extents_is layout).0 (extents_is layout).2 (extents_is layout).1 rows shown in
      answer_is 1 [] extent_columns (col 1 0 ∷ []) (overlay old.now.trees []) [] rows (columns_at (0 ∷ 2 ∷ 3 ∷ 4 ∷ 5 ∷ [])) shown_extent held h.rows
      (λ _. true) (λ r. refl) extent_output (λ r. refl) (λ _. true) (λ x. refl)
      (ascending-filter _ (λ _. true) held (ascending_weaker _ _ by_offset held h.ascending)) (read.answer Null)
      ∙ ap (map shown_extent) (always held)

  pub touching_read : (start from to : ℕ) → Shown SELECT_TOUCHING.now (Int (pos start) ∷ Int (pos to) ∷ Int (pos from) ∷ []) old new rows → rows ≡ map shown_extent (filter (touches_from start from to) held)
  touching_read start from to shown =
      let params = Int (pos start) ∷ Int (pos to) ∷ Int (pos from) ∷ [] in
      let read = reads_as SELECT_TOUCHING.now params old new (schema_of layout) h.schema _ (touching_is layout).0 (touching_is layout).2 (touching_is layout).1 rows shown in
      answer_is 1 (compares Ge (col 1 0) (col 0 0) ∷ compares Lt (col 1 0) (col 0 1) ∷ compares Gt (col 1 2) (col 0 2) ∷ []) extent_columns (col 1 0 ∷ []) (overlay old.now.trees []) params rows
      (columns_at (0 ∷ 2 ∷ 3 ∷ 4 ∷ 5 ∷ [])) shown_extent held h.rows
      (λ v. is Ge (column v 0) (Int (pos start)) && (is Lt (column v 0) (Int (pos to)) && (is Gt (column v 1) (Int (pos from)) && true))) (λ r. refl) extent_output (λ r. refl)
      (touches_from start from to) (λ x. rw (at_least x.off start, lower x.off to, higher x.fin from) (ap (λ b. nat_le start x.off && b) (and_true (nat_lt x.off to) (nat_lt from x.fin))))
      (ascending-filter _ (touches_from start from to) held (ascending_weaker _ _ by_offset held h.ascending)) (read.answer Null)

-- the keys of a query on elements that is sorted by offset and position
pub in_order : (x y : Placed) → IsBefore x y → ordering_then (value_cmp (Int (pos x.0)) (Int (pos y.0))) (ordering_then (value_cmp (Int (pos x.1)) (Int (pos y.1))) Equal) ≡ Less
in_order x y (inl low) = ap (λ o. ordering_then o (ordering_then (value_cmp (Int (pos x.1)) (Int (pos y.1))) Equal)) (numbers_below x.0 y.0 low)
in_order x y (inr h) =
    ap₂ (λ o p. ordering_then o (ordering_then p Equal)) (numbers_tied x.0 y.0 h.0) (numbers_below x.1 y.1 h.1)

abbrev version_output : Row → Output
version_output v = ([], column v 0 ∷ [])

pub version_read : (layout : Layout) (old new : State) (rows : List Row) (version : ℤ) → HasVersion layout old.now version → Shown SELECT_VERSION.now [] old new rows → rows ≡ (Int version ∷ []) ∷ []
version_read layout old new rows version h shown =
    let read = reads_as SELECT_VERSION.now [] old new (schema_of layout) h.schema _ (version_is layout).0 (version_is layout).2 (version_is layout).1 rows shown in
    answer_is 0 [] (col 1 0 ∷ []) [] (overlay old.now.trees []) [] rows (columns_at (0 ∷ [])) (λ (v : ℤ). Int v ∷ []) (version ∷ []) h.rows
    (λ _. true) (λ r. refl) version_output (λ r. refl) (λ _. true) (λ x. refl) (tt, tt) (read.answer Null)

version_takes : (layout : Layout) → takes (understood (schema_of layout) SELECT_VERSION.now) (length SELECT_VERSION.now) 0 ≡ true
unfolding understood everything
version_takes Bodies = refl
version_takes Tables = refl

version_typed : (layout : Layout) → accepts_program (schema_of layout) [] (select 0 [] (col 1 0 ∷ []) []) [] ≡ true
version_typed Bodies = refl
version_typed Tables = refl

version_selects : selects SELECT_VERSION.now ≡ true
unfolding everything
version_selects = refl

pub version_fails : (layout : Layout) (old new : State) → old.now.schema ≡ schema_of layout → (e : Error) → FailsToQuery SELECT_VERSION.now [] old new e → IsCause e
version_fails layout old new has e failed =
    query_causes SELECT_VERSION.now [] old new (schema_of layout) has version_selects (version_takes layout) 0 [] (col 1 0 ∷ []) [] _ (version_is layout).0 (version_is layout).1 (version_typed layout) e failed
