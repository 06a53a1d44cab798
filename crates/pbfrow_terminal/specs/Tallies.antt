-- When a progress line is due, and what draws it.
use Rattle.std.specs.Prelude.{◌≡◌, ℕ, ◌+◌, ◌≤◌, List, ◌∷◌, ◌++◌, codes, max, Option, Some, None, false}
use Rattle.pbfrow_reading.specs.Progress.{progress_line}
use Rattle.pbfrow_reading.specs.declared.progress.Progress.{Progress}
use Rattle.pbfrow_terminal.specs.declared.tally.Tally.{Tally}

-- the command has worked for a second, its line has stood for a fifth of one, and no line of the output is in its way
pub record IsDue (tally : Tally) (milliseconds : ℕ) : Type 0 where
  pub worked : 1000 ≤ milliseconds
  pub stood : tally.drawn_at + 200 ≤ milliseconds
  pub free : tally.is_inside_line ≡ false

-- the greater of two sizes, of which one may not be known
abbrev pub at_least : Option ℕ → ℕ → ℕ
at_least None size = size
at_least (Some known) size = max known size

-- what draws a progress line over the one that stands there: from the first column, and with what stood behind it erased
-- (ECMA-48, section 8.3.41, EL)
abbrev pub erasing_line : Progress → List ℕ
erasing_line progress = 13 ∷ (progress_line progress ++ (27 ∷ codes "[K"))
