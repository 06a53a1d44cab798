-- Rows that one statement writes from parameters.
use Rattle.std.proofs.Common.{◌≡◌, ℕ, zero, suc, List, [], ◌∷◌, ◌++◌, map, take, drop, length, slice_index_or, Bool, true, false, ◌&&◌, not, true≢false, append-nil, append_assoc, refl, sym, ap, subst, ◌∙◌}
use Rattle.std.specs.Prelude.{flat_map}
use Rattle.std.specs.List.Sorted.{IsPermutation}
use Rattle.std.proofs.lemmas.List.Sorted.{IsPermutation-refl, IsPermutation-trans, IsPermutation-map, IsPermutation-append_comm, IsPermutation-append_left}
use Rattle.sqlite.specs.declared.types.Value.{Value}
use Rattle.sqlite.specs.declared.types.Value.TheVariants.{Null, Int}
use Rattle.sqlite.specs.Order.{Row}
use Rattle.sqlite.specs.Term.{Term, lit, col}
use Rattle.sqlite.specs.Tree.{put_row}
use Rattle.sqlite.specs.Effect.{value_rows}
use Rattle.sqlite.specs.Edit.{are_fresh, put_all, next_rowid}
use Rattle.sqlite.specs.Rowids.TheVariants.{Chosen}
use Rattle.sqlite_sql.specs.Term.{eval_all}
use Rattle.sqlite_rules.specs.Edit.{numbered}
use Rattle.osm_rows.specs.Put.Gains.{Gains}
use Rattle.osm_sql_store.proofs.PutLemmas.Adds.{put_fresh}

-- the terms of one row: parameters from this one on
abbrev pub terms_of_row : ℕ → ℕ → List Term
terms_of_row zero at = []
terms_of_row (suc width) at = col 0 at ∷ terms_of_row width (suc at)

-- the parameter after a row
abbrev pub past : ℕ → ℕ → ℕ
past zero at = at
past (suc width) at = past width (suc at)

-- some rows, each with a rowid that `sqlite` chooses
abbrev pub terms_of_rows : ℕ → ℕ → ℕ → List Term
terms_of_rows width zero at = []
terms_of_rows width (suc count) at = lit Null ∷ terms_of_row width at ++ terms_of_rows width count (past width at)

-- ---- what the terms read

at_drop : (at : ℕ) (xs : Row) (v d : Value) (rest : Row) → drop at xs ≡ v ∷ rest → slice_index_or xs at d ≡ v
at_drop zero [] v d rest e = cc
at_drop zero (x ∷ xs) v d rest e = cc
at_drop (suc at) [] v d rest e = cc
at_drop (suc at) (x ∷ xs) v d rest e = at_drop at xs v d rest e

past_drop : (at : ℕ) (xs : Row) (v : Value) (rest : Row) → drop at xs ≡ v ∷ rest → drop (suc at) xs ≡ rest
past_drop zero [] v rest e = cc
past_drop zero (x ∷ xs) v rest e = cc
past_drop (suc at) [] v rest e = cc
past_drop (suc at) (x ∷ xs) v rest e = past_drop at xs v rest e

reads_row : (params row post : Row) (at : ℕ) → drop at params ≡ row ++ post → eval_all (terms_of_row (length row) at) (params ∷ []) ≡ row
reads_row params [] post at e = refl
reads_row params (v ∷ row) post at e =
    ap (λ x. x ∷ eval_all (terms_of_row (length row) (suc at)) (params ∷ [])) (at_drop at params v Null (row ++ post) e)
    ∙ ap (λ r. v ∷ r) (reads_row params row post (suc at) (past_drop at params v (row ++ post) e))

after_row : (params row post : Row) (at : ℕ) → drop at params ≡ row ++ post → drop (past (length row) at) params ≡ post
after_row params [] post at e = e
after_row params (v ∷ row) post at e = after_row params row post (suc at) (past_drop at params v (row ++ post) e)

take_terms : (width at : ℕ) (more : List Term) → take width (terms_of_row width at ++ more) ≡ terms_of_row width at
take_terms zero at [] = refl
take_terms zero at (t ∷ more) = refl
take_terms (suc width) at more = ap (λ ts. col 0 at ∷ ts) (take_terms width (suc at) more)

drop_terms : (width at : ℕ) (more : List Term) → drop width (terms_of_row width at ++ more) ≡ more
drop_terms zero at [] = refl
drop_terms zero at (t ∷ more) = refl
drop_terms (suc width) at more = drop_terms width (suc at) more

module _ {X : Type 0} (columns : X → Row) (width : ℕ) (wide : (x : X) → length (columns x) ≡ width) where
  -- the rows that a statement is given
  abbrev pub given : List X → List Row
  given = map (λ x. Null ∷ columns x)

  pub reads_rows : (params : Row) (xs : List X) (at : ℕ) → drop at params ≡ flat_map columns xs → value_rows params (suc width) (length xs) (terms_of_rows width (length xs) at) ≡ given xs
  reads_rows params [] at e = refl
  reads_rows params (x ∷ xs) at e =
      let more = terms_of_rows width (length xs) (past width at) in
      let here = ap (λ ts. eval_all (lit Null ∷ ts) (params ∷ [])) (take_terms width at more)
      ∙ ap (λ r. Null ∷ r) (subst (λ w. eval_all (terms_of_row w at) (params ∷ []) ≡ columns x) (wide x) (reads_row params (columns x) (flat_map columns xs) at e)) in
      let next = subst (λ w. drop (past w at) params ≡ flat_map columns xs) (wide x) (after_row params (columns x) (flat_map columns xs) at e) in
      let rest = ap (value_rows params (suc width) (length xs)) (drop_terms width at more) ∙ reads_rows params xs (past width at) next in
      ap (λ r. r ∷ value_rows params (suc width) (length xs) (drop width (terms_of_row width at ++ more))) here ∙ ap (λ rs. (Null ∷ columns x) ∷ rs) rest

-- ---- what the rows add

unseen : (taken more : Bool) → not taken && more ≡ true → (taken ≡ false) × (more ≡ true)
unseen true more e = absurd (true≢false (sym e))
unseen false more e = (refl, e)

pub all_fresh : (before rows : List Row) → are_fresh before (numbered Chosen before (map (λ r. Null ∷ r) rows)) ≡ true → Gains before rows (put_all before (numbered Chosen before (map (λ r. Null ∷ r) rows)))
all_fresh before [] fresh = rw append-nil (IsPermutation-refl (map (drop 1) before))
all_fresh before (r ∷ rows) fresh =
    let new : Row = Int (next_rowid before) ∷ r in
    let both = unseen _ _ fresh in
    let here = IsPermutation-trans _ _ _ (IsPermutation-append_comm (map (drop 1) before) (r ∷ [])) (IsPermutation-map (drop 1) _ _ (put_fresh new before both.0)) in
    let rest = all_fresh (put_row new before) rows both.1 in
    subst (λ all. IsPermutation all (map (drop 1) (put_all before (numbered Chosen before (map (λ r. Null ∷ r) (r ∷ rows)))))) (append_assoc (map (drop 1) before) (r ∷ []) rows) (IsPermutation-trans _ _ _ (IsPermutation-append_left rows _ _ here) rest)
