-- An index whose entries are those of its table's rows, in the order of these.
use Rattle.std.proofs.Common.{◌≡◌, ◌∙◌, ℕ, List, [], ◌∷◌, ◌++◌, map, sym, ap, append_assoc, append-nil, Result, Ok, Err, Option, Some, None}
use Rattle.std.specs.Prelude.{IfOk, IfSome}
use Rattle.std.proofs.lemmas.List.{map-append}
use Rattle.sqlite_value.specs.Order.{Row}
use Rattle.sqlite_sql.specs.Catalog.{entry_of}

-- one more row, and what is left of the index then
pub one_more : (cs : List ℕ) (done left rest now entries : List Row) (row : Row) → map (entry_of cs) done ++ left ≡ entries → left ≡ entry_of cs row ∷ rest → now ≡ rest → map (entry_of cs) (done ++ row ∷ []) ++ now ≡ entries
one_more cs done left rest now entries row before next same =
    ap (λ l. map (entry_of cs) (done ++ row ∷ []) ++ l) same ∙ ap (λ l. l ++ rest) (map-append (entry_of cs) done (row ∷ [])) ∙ append_assoc (map (entry_of cs) done) (entry_of cs row ∷ []) rest ∙ ap (λ l. map (entry_of cs) done ++ l) (sym next) ∙ before

-- neither has more
pub at_end : (cs : List ℕ) (rows done more left entries : List Row) → rows ≡ done ++ more → more ≡ [] → map (entry_of cs) done ++ left ≡ entries → left ≡ [] → map (entry_of cs) rows ≡ entries
at_end cs rows done more left entries split no_more before ended =
    ap (map (entry_of cs)) (split ∙ ap (λ l. done ++ l) no_more ∙ append-nil done) ∙ sym (append-nil (map (entry_of cs) done)) ∙ ap (λ l. map (entry_of cs) done ++ l) (sym ended) ∙ before

-- all rows have been given
pub all_done : (rows done more : List Row) → rows ≡ done ++ more → more ≡ [] → rows ≡ done
all_done rows done more split no_more = split ∙ ap (λ l. done ++ l) no_more ∙ append-nil done

-- what follows of what is there
pub some_then : {T : Type 0} {A B : T → Type 0} (o : Option T) → ((x : T) → A x → B x) → IfSome o A → IfSome o B
some_then (Some x) f h = f x h
some_then None f h = tt

-- what follows of an answer that isn't a fault
pub ok_then : {T E : Type 0} {A B : T → Type 0} (r : Result T E) → ((x : T) → A x → B x) → IfOk r A → IfOk r B
ok_then (Ok x) f h = f x h
ok_then (Err e) f h = tt
