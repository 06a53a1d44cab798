-- Texts by their indexes in a list of texts, as Arrow has them (Arrow Columnar Format, "Dictionary-encoded Layout").
use Rattle.std.specs.Prelude.{◌≡◌, List, [], ◌∷◌, ◌++◌, ℤ, pos, negsuc, Option, Some, None, ⊤}
use Rattle.std.specs.List.{slice_get}
use Rattle.osm_value.specs.Value.{Text}

-- the index names this text; -1 says that there is none
abbrev pub Names : List Text → ℤ → Option Text → Type 0
Names texts (pos index) (Some text) = slice_get texts index ≡ Some text
Names texts (negsuc n) None = n ≡ 0
Names texts (pos index) None = ⊥
Names texts (negsuc n) (Some text) = ⊥

-- the indexes name these texts, one for one
abbrev pub NameAll : List Text → List ℤ → List (Option Text) → Type 0
NameAll texts [] [] = ⊤
NameAll texts (index ∷ indexes) (text ∷ rest) = Names texts index text × NameAll texts indexes rest
NameAll texts [] (text ∷ rest) = ⊥
NameAll texts (index ∷ indexes) [] = ⊥

-- the new texts are the old ones and maybe more behind them
abbrev pub Extends : List Text → List Text → Type 0
Extends old new = (more : List Text) × (new ≡ old ++ more)
