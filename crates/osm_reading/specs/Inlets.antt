-- A reader as a source.
use Rattle.std.specs.Prelude.{Bool}

pub record InletValue (R : Type 0) : Type 0 where
  pub reader : R
  pub has_failed : Bool
