-- What `?` has handed on.
use Rattle.std.proofs.Common.{◌≡◌, Result, Ok, Err, ap}
use Rattle.std.specs.Prelude.{IsErrAnd, OnErr}

pub handed : {T E : Type 0} (r : Result T E) (e : E) → IsErrAnd r (λ y. y ≡ e) → r ≡ Err e
handed (Ok x) e h = absurd h
handed {T} {E} (Err y) e h = ap (λ (x : E). let out : Result T E = Err x in out) h

pub on-err : {T E : Type 0} (r : Result T E) (P : Type 0) → P → OnErr r P
on-err (Ok x) P p = tt
on-err (Err y) P p = p
