-- A writer as a sink.
use Rattle.std.specs.Prelude.{Bool}

pub record OutletValue (W : Type 0) : Type 0 where
  pub writer : W
  pub has_failed : Bool
