-- The columns of a row, copied one by one.
use Rattle.std.proofs.Common.{◌≡◌, ℕ, suc, ◌+◌, ◌<◌, ◌≤◌, [], ◌∷◌, ◌++◌, length, drop, sym, ap, ◌∙◌, append_assoc, append-nil, arith, drop-cons}
use Rattle.std.proofs.lemmas.List.{drop_all}
use Rattle.sqlite_value.specs.declared.value.Value.{Value}
use Rattle.sqlite_value.specs.declared.value.Value.TheVariants.{Null}
use Rattle.sqlite_value.specs.Order.{Row, column}

next_at : (row : Row) (at : ℕ) → at < length row → drop at row ≡ column row at ∷ drop (at + 1) row
next_at row at within = let one : at + 1 ≡ suc at = omega arith in rw one (drop-cons row at Null within)

pub one_more : (row : Row) (at : ℕ) (done new : Row) (v : Value) → at < length row → v ≡ column row at → new ≡ done ++ v ∷ [] → done ++ drop at row ≡ drop 1 row → new ++ drop (at + 1) row ≡ drop 1 row
one_more row at done new v within is grown so_far =
    ap (λ l. l ++ drop (at + 1) row) grown ∙ append_assoc done (v ∷ []) (drop (at + 1) row) ∙ ap (λ x. done ++ x ∷ drop (at + 1) row) is ∙ ap (λ l. done ++ l) (sym (next_at row at within)) ∙ so_far

pub all_copied : (row : Row) (at : ℕ) (done : Row) → length row ≤ at → done ++ drop at row ≡ drop 1 row → done ≡ drop 1 row
all_copied row at done past so_far = sym (append-nil done) ∙ ap (λ l. done ++ l) (sym (drop_all at row past)) ∙ so_far
