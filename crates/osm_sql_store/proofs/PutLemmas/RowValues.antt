-- What `sqlite` makes of the values of a row of the layout of tables.
use Rattle.std.proofs.Common.{◌≡◌, ℕ, ℤ, List, Option, Some, None, refl}
use Rattle.sqlite.specs.declared.types.Value.TheVariants.{Int, Text as Words}
use Rattle.sqlite.specs.Values.{or_null}
use Rattle.sqlite.specs.Cast.{cast}
use Rattle.sqlite.specs.Kind.TheVariants.{Integer, Text}
use Rattle.osm_sql_store.proofs.PutLemmas.Adds.{cast_null, cast_int}

pub cast_or_null : {X : Type 0} (f : X → ℤ) (o : Option X) → cast Integer (or_null (λ x. Int (f x)) o) ≡ or_null (λ x. Int (f x)) o
cast_or_null f None = cast_null
cast_or_null f (Some x) = cast_int (f x)

pub cast_words : (o : Option (List ℕ)) → cast Text (or_null Words o) ≡ or_null Words o
cast_words None = refl
cast_words (Some x) = refl
