-- An entry is written a column at a time.
use Rattle.std.proofs.Common.{◌≡◌, ℕ, suc, ◌+◌, ◌-◌, ◌<◌, ◌≤◌, [], ◌∷◌, ◌++◌, map, sym, ap, ◌∙◌, arith, append_assoc}
use Rattle.std.proofs.lemmas.List.{append-nil}
use Rattle.sqlite_value.specs.Order.{Row, column}
use Rattle.osm_tree_writes.specs.Appending.{places}

places_more : (at end : ℕ) → at < end → places at (end - at) ≡ at ∷ places (at + 1) (end - (at + 1))
places_more at end within =
    let more : end - at ≡ suc (end - (at + 1)) = omega arith in
    ap (places at) more

pub one_more_column : (row entry all : Row) (at end : ℕ) → at < end → entry ++ map (column row) (places at (end - at)) ≡ all → (entry ++ column row at ∷ []) ++ map (column row) (places (at + 1) (end - (at + 1))) ≡ all
one_more_column row entry all at end within h =
    append_assoc entry (column row at ∷ []) _ ∙ ap (λ more. entry ++ map (column row) more) (sym (places_more at end within)) ∙ h

pub no_more_columns : (row entry all : Row) (at end : ℕ) → end ≤ at → entry ++ map (column row) (places at (end - at)) ≡ all → entry ≡ all
no_more_columns row entry all at end done h =
    let none : end - at ≡ 0 = omega arith in
    sym (append-nil entry) ∙ ap (λ n. entry ++ map (column row) (places at n)) (sym none) ∙ h
