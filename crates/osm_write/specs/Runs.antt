-- The first of the groups, counted from the front.
use Rattle.std.specs.Prelude.{ℕ, suc, List, [], ◌∷◌, if◌then◌else◌}
use Rattle.osm_value.specs.declared.element.Element.{Element}
use Rattle.osm_write.specs.Canon.{fit_together}

-- how many elements the first group has
abbrev pub first_run : List Element → ℕ
first_run [] = 0
first_run (e ∷ []) = 1
first_run (e ∷ f ∷ es) = if fit_together e f then suc (first_run (f ∷ es)) else 1
