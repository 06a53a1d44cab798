-- Tests of indexes, as the code makes them and as the phases do.
use Rattle.std.proofs.Common.{◌≡◌, ℕ, ◌%◌, ◌^◌, List, [], ◌∷◌, ◌++◌, map, refl, sym, ap, ◌∙◌, ℤ, Option, Some, None, Bool, true, false, ◌&&◌}
use Rattle.std.specs.Prelude.{option_map, option_to_list, nat_lt}
use Rattle.std.specs.List.{list_all}
use Rattle.std.proofs.lemmas.List.Folds.{list_all-append}
use Rattle.std.proofs.lemmas.Bool.{true≢false}
use Rattle.pbf_wire.specs.Readings.{uint32, int32}
use Rattle.osm_block.specs.Phases.{is_index}
use Rattle.osm_block.specs.FieldsLeft.{all_below, user_in, tag_indexes_in, indexes_in}

as_numbers : (n : ℕ) (ks : List ℕ) → list_all (is_index n) (map uint32 ks) ≡ all_below n ks
as_numbers n [] = refl
as_numbers n (k ∷ ks) = ap (λ b. nat_lt (k % 2 ^ 32) n && b) (as_numbers n ks)

true_right : (b : Bool) → (b && true) ≡ b
true_right true = refl
true_right false = refl

as_option : (n : ℕ) (u : Option ℕ) → list_all (is_index n) (option_to_list (option_map uint32 u)) ≡ user_in n u
as_option n None = refl
as_option n (Some i) = true_right (nat_lt (i % 2 ^ 32) n)

tags_are : (n : ℕ) (ks vs : List ℕ) → tag_indexes_in n ks vs ≡ list_all (is_index n) (map uint32 ks ++ map uint32 vs)
tags_are n ks vs =
    sym (list_all-append (is_index n) (map uint32 ks) (map uint32 vs)
    ∙ ap (λ b. b && list_all (is_index n) (map uint32 vs)) (as_numbers n ks)
    ∙ ap (λ b. all_below n ks && b) (as_numbers n vs))

-- the test of all indexes, part by part
pub indexes_are : (n : ℕ) (ks vs : List ℕ) (u : Option ℕ) → indexes_in n ks vs u ≡ list_all (is_index n) (map uint32 ks ++ map uint32 vs ++ option_to_list (option_map uint32 u))
indexes_are n ks vs u =
    let users : List ℤ = option_to_list (option_map uint32 u) in
    ap (λ b. b && user_in n u) (tags_are n ks vs) ∙ ap (λ b. list_all (is_index n) (map uint32 ks ++ map uint32 vs) && b) (sym (as_option n u))
    ∙ sym (list_all-append (is_index n) (map uint32 ks ++ map uint32 vs) users)

as_roles : (n : ℕ) (rs : List ℕ) → list_all (is_index n) (map int32 rs) ≡ list_all (λ r. is_index n (int32 r)) rs
as_roles n [] = refl
as_roles n (r ∷ rs) = ap (λ b. is_index n (int32 r) && b) (as_roles n rs)

swapped : (a b c : Bool) → (a && b && c) ≡ (a && c && b)
swapped false b c = refl
swapped true true c = sym (true_right c)
swapped true false true = refl
swapped true false false = refl

pub role_indexes_are : (n : ℕ) (ks vs rs : List ℕ) (u : Option ℕ) →
    (indexes_in n ks vs u && list_all (λ r. is_index n (int32 r)) rs) ≡ list_all (is_index n) (map uint32 ks ++ map uint32 vs ++ map int32 rs ++ option_to_list (option_map uint32 u))
role_indexes_are n ks vs rs u =
    let tags : List ℤ = map uint32 ks ++ map uint32 vs in
    let users : List ℤ = option_to_list (option_map uint32 u) in
    swapped (tag_indexes_in n ks vs) (user_in n u) (list_all (λ r. is_index n (int32 r)) rs)
    ∙ ap (λ b. b && list_all (λ r. is_index n (int32 r)) rs && user_in n u) (tags_are n ks vs)
    ∙ ap (λ b. list_all (is_index n) tags && b && user_in n u) (sym (as_roles n rs))
    ∙ ap (λ b. list_all (is_index n) tags && list_all (is_index n) (map int32 rs) && b) (sym (as_option n u))
    ∙ ap (λ b. b && list_all (is_index n) users) (sym (list_all-append (is_index n) tags (map int32 rs)))
    ∙ sym (list_all-append (is_index n) (tags ++ map int32 rs) users)

pub and_left : (a b : Bool) → (a && b) ≡ true → a ≡ true
and_left true b h = refl
and_left false b h = h

pub and_right : (a b : Bool) → (a && b) ≡ true → b ≡ true
and_right true b h = h
and_right false b h = absurd (true≢false (sym h))
