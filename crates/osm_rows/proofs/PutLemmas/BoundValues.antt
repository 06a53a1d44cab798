-- What `sqlite` keeps of the values of a row of the layout of tables that are bound.
use Rattle.std.proofs.Common.{◌≡◌, ℕ, ℤ, List, Option, Some, None, Bor, ap}
use Rattle.std.specs.Option.{option_copied}
use Rattle.sqlite.specs.declared.types.Value.{Value}
use Rattle.sqlite.specs.declared.types.Value.TheVariants.{Int, Text as Words}
use Rattle.sqlite.specs.Values.{or_null, bound_value}

pub bound_or_null : {X : Type 0} (f : X → ℤ) (v : Value) (o : Option X) → v ≡ or_null (λ x. Int (f x)) o → bound_value v ≡ or_null (λ x. Int (f x)) o
bound_or_null f v None e = ap bound_value e
bound_or_null f v (Some x) e = ap bound_value e

pub bound_words : (v : Value) (o : Option (Bor (List ℕ))) → v ≡ or_null (λ (s : Bor (List ℕ)). Words s.now) o → bound_value v ≡ or_null Words (option_copied o)
bound_words v None e = ap bound_value e
bound_words v (Some x) e = ap bound_value e
