-- What the query for a flag reads.
use Rattle.std.proofs.Common.{◌≡◌, ℕ, suc, pos, Bool, true, false, ◌&&◌, not, ◌==◌, List, [], ◌∷◌, map, take, length, codes, Option, Some, None, refl, sym, ap, ◌∙◌, arith}
use Rattle.std.specs.Prelude.{filter, is_some}
use Rattle.std.specs.List.{list_any}
use Rattle.std.proofs.lemmas.Bool.Decides.{nat_tests}
use Rattle.std.proofs.lemmas.List.{length-map}
use Rattle.std.proofs.lemmas.List.Sorted.{length_permutation}
use Rattle.sqlite.specs.declared.types.Value.TheVariants.{Null, Int}
use Rattle.sqlite.specs.Values.{or_null}
use Rattle.sqlite.specs.Ops.{binary}
use Rattle.sqlite.specs.Order.{Row, column}
use Rattle.sqlite.specs.Term.{Term, col, lit}
use Rattle.sqlite.specs.Query.{Output}
use Rattle.sqlite.specs.Program.{overlay}
use Rattle.sqlite.specs.State.{State, Shown}
use Rattle.sqlite.specs.Command.TheVariants.{Select}
use Rattle.sqlite.specs.Listing.{understood, reads_listing}
use Rattle.sqlite.proofs.Callers.{reads_as, IsPlain, command_of}
use Rattle.sqlite_sql.specs.declared.ops.CompareOp.TheVariants.{Ge}
use Rattle.sqlite_tied.specs.Compute.{everything}
use Rattle.osm_value.specs.Elements.{info_of_element}
use Rattle.osm_sql_store.specs.declared.schema.sql.TheConstants.{SELECT_FLAG}
use Rattle.osm_rows.specs.Flags.{has_flag}
use Rattle.osm_rows.specs.Rows.{Placed}
use Rattle.osm_rows.specs.Schema.Tables.{table_schema}
use Rattle.osm_rows.specs.TableRows.{flag, element_row}
use Rattle.osm_rows.proofs.ListLemmas.CompareLemmas.{at_least}
use Rattle.osm_sql_store.proofs.LoadLemmas.SharedTexts.{compares}
use Rattle.osm_sql_store.proofs.LoadLemmas.OneTable.{select_some, orders}
use Rattle.osm_rows.proofs.LoadLemmas.ShownRows.{columns_at, HasTables, twelve_places}
use Rattle.osm_sql_store.proofs.LoadLemmas.ReadLemmas.{is}

abbrev with_flag : List Term
with_flag = compares Ge (col 1 12) (lit (Int (pos 0))) ∷ []

abbrev flag_shown : List Term
flag_shown = col 1 12 ∷ []

flag_is : (command_of (understood table_schema SELECT_FLAG.now) ≡ Select (record { lets = []; body = select_some 2 with_flag flag_shown [] (lit (Int (pos 1))) }) (codes "visible" ∷ [])) × (reads_listing table_schema SELECT_FLAG.now ≡ false) × IsPlain (understood table_schema SELECT_FLAG.now)
unfolding understood everything
flag_is = (refl, refl, (refl, refl))

abbrev flag_output : Row → Output
flag_output v = ([], column v 11 ∷ [])

-- what is absent is NULL, which isn't at least 0
absent_fails : is Ge Null (Int (pos 0)) ≡ false
unfolding binary
absent_fails = refl

-- and a flag is 0 or 1
flag_there : (f : Option Bool) → (is Ge (or_null flag f) (Int (pos 0)) && true) ≡ is_some f
flag_there None = ap (λ b. b && true) absent_fails
flag_there (Some true) = ap (λ b. b && true) (at_least 1 0)
flag_there (Some false) = ap (λ b. b && true) (at_least 0 0)

never_none : (n : ℕ) → (suc n == 0) ≡ false
never_none n = grind (arith, nat_tests)

any_cons : {A : Type 0} (p : A → Bool) (x : A) (xs : List A) → not (length (filter p xs) == 0) ≡ list_any p xs → (test : Bool) → p x ≡ test → not (length (filter p (x ∷ xs)) == 0) ≡ list_any p (x ∷ xs)
any_cons p x xs rest true there = rw there (ap not (never_none (length (filter p xs))))
any_cons p x xs rest false missing = rw missing rest

any_filter : {A : Type 0} (p : A → Bool) (xs : List A) → not (length (filter p xs) == 0) ≡ list_any p xs
any_filter p [] = refl
any_filter p (x ∷ xs) = any_cons p x xs (any_filter p xs) (p x) refl

empty_first : {A B : Type 0} (f : A → B) (xs : List A) → (length (take 1 (map f xs)) == 0) ≡ (length xs == 0)
empty_first f [] = refl
empty_first f (x ∷ xs) = never_none 0 ∙ sym (never_none (length xs))

abbrev placed_has_flag : Placed → Bool
placed_has_flag p = has_flag p.2

-- it shows a row where some element has a flag, and none where none has
pub flag_read : (old new : State) (rows : List Row) (held : List Placed) → HasTables old.now held → Shown SELECT_FLAG.now [] old new rows → not (length rows == 0) ≡ list_any (λ (p : Placed). has_flag p.2) held
flag_read old new rows held h shown =
    let read = reads_as SELECT_FLAG.now [] old new table_schema h.schema _ flag_is.0 flag_is.2 flag_is.1 rows shown in
    let a = read.answer Null in
    let ordered = orders 2 with_flag flag_shown [] (lit (Int (pos 1))) (overlay old.now.trees []) [] rows
    (columns_at twelve_places) element_row held h.elements
    (λ v. is Ge (column v 11) (Int (pos 0)) && true) (λ r. refl) flag_output (λ r. refl)
    placed_has_flag (λ x. flag_there (info_of_element x.2).visible) a in
    let many : length a.ordered ≡ length (filter placed_has_flag held) = length_permutation _ _ ordered ∙ length-map (filter placed_has_flag held) (λ x. flag_output (element_row x)) in
    ap (λ (rs : List Row). not (length rs == 0)) a.shown ∙ ap not (empty_first (λ (o : Output). o.1) a.ordered) ∙ ap (λ n. not (n == 0)) many ∙ any_filter placed_has_flag held
