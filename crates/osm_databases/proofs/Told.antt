-- What is said of an opening whose answer is passed on.
use Rattle.std.proofs.Common.{◌≡◌, Result, Ok, Err, sym, subst}
use Rattle.std.specs.Prelude.{IfOk, MatchResult}

pub told_ok : {T E F : Type 0} (fault : E → F) (P : T → Type 0) (opened : Result T E) (result : Result T F) → MatchResult opened (λ it. result ≡ Ok it) (λ refusal. result ≡ Err (fault refusal)) → IfOk opened P → IfOk result P
told_ok {T} {E} {F} fault P (Ok it) result is ok = subst (λ (r : Result T F). IfOk r P) (sym is) ok
told_ok {T} {E} {F} fault P (Err refusal) result is ok = subst (λ (r : Result T F). IfOk r P) (sym is) tt

-- and of what was opened
pub told_of : {T E F : Type 0} (fault : E → F) (P : T → Type 0) (opened : Result T E) (result : Result T F) (it : T) → MatchResult opened (λ it. result ≡ Ok it) (λ refusal. result ≡ Err (fault refusal))
    → result ≡ Ok it → IfOk opened P → P it
told_of {T} {E} {F} fault P opened result it is ok known = subst (λ (r : Result T F). IfOk r P) ok (told_ok fault P opened result is known)
