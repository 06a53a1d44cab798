-- What a bool that tells one fact tells of another.
use Rattle.std.proofs.Common.{◌≡◌, Bool, List, Result, Ok, Err, subst}
use Rattle.std.specs.Prelude.{◌↔◌, IfOk, IfErr, MatchResult}

pub iff_then : {A B C : Type 0} → A ↔ B → B ↔ C → A ↔ C
iff_then one two = ((λ a. two.0 (one.0 a)), λ c. one.1 (two.1 c))

-- the same of a list that is the one that was asked of
pub asked : {X : Type 0} {T : Type 0} (xs ys zs : List X) → xs ≡ ys → T ↔ (xs ≡ zs) → T ↔ (ys ≡ zs)
asked {X} {T} xs ys zs is told = subst (λ (l : List X). T ↔ (l ≡ zs)) is told

pub ok_told : {E : Type 0} {A B : Bool → Type 0} (r : Result Bool E) → ((b : Bool) → A b → B b) → IfOk r A → IfOk r B
ok_told (Ok b) f h = f b h
ok_told (Err e) f h = tt

pub meant : {X : Type 0} {T : Type 0} (xs ys zs : List X) → ys ≡ zs → T ↔ (xs ≡ ys) → T ↔ (xs ≡ zs)
meant {X} {T} xs ys zs is told = subst (λ (l : List X). T ↔ (xs ≡ l)) is told

pub both_told : {T E : Type 0} (P : Type 0) (F : E → Type 0) (r : Result T E) → IfOk r (λ _. P) → IfErr r F → MatchResult r (λ _. P) F
both_told P F (Ok v) ok err = ok
both_told P F (Err e) ok err = err
