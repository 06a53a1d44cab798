-- The texts that a set was given.
use Rattle.std.specs.Prelude.{◌≡◌, List, Bool, ◌||◌, bytes_eq}
use Rattle.std.specs.Borrow.{Bor}
use Rattle.std.specs.List.{list_any}
use Rattle.std.specs.HashSet.{HashSet, contains_by}
use Rattle.osm_value.specs.Value.{Text}

-- whether the set has the text
abbrev pub has_text : {S : Type 0} → HashSet (Bor Text) S → Text → Bool
has_text seen t = contains_by (λ k. bytes_eq t k.now) seen

-- it has these texts beside those that it had
abbrev pub AddsTexts : {S : Type 0} → HashSet (Bor Text) S → HashSet (Bor Text) S → List Text → Type 0
AddsTexts old new ts = (t : Text) → has_text new t ≡ (list_any (λ u. bytes_eq u t) ts || has_text old t)
