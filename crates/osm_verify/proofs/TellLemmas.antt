-- What a bool that tells a fact says.
use Rattle.std.proofs.Common.{◌≡◌, Bool, true, false}
use Rattle.osm_verify.specs.Agreements.{Tells}

pub told-true : (b : Bool) (P : Type 0) → b ≡ true → Tells b P → P
told-true true P is h = h
told-true false P is h = absurd (cc)

pub told-false : (b : Bool) (P : Type 0) → b ≡ false → Tells b P → ¬ P
told-false true P is h = absurd (cc)
told-false false P is h = h
