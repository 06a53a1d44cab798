-- A table of texts, each once, in order of first use.
use Rattle.std.specs.Prelude.{◌≡◌, ℕ, suc, List, [], ◌∷◌, ◌++◌, Option, Some, None, option_map, Bool, bytes_eq, if◌then◌else◌}
use Rattle.std.specs.Borrow.{Bor}
use Rattle.std.specs.List.{list_any}
use Rattle.std.specs.HashMap.{HashMap, get_by}
use Rattle.osm_value.specs.Value.{Text}

-- the text stands in the list
abbrev pub has : List Text → Text → Bool
has ts t = list_any (λ u. bytes_eq u t) ts

-- the first index of the text
abbrev pub find_text : List Text → Text → Option ℕ
find_text [] t = None
find_text (u ∷ us) t = if bytes_eq u t then Some 0 else option_map suc (find_text us t)

-- the text at the end, unless it is there already
abbrev pub with_text : List Text → Text → List Text
with_text ts t = if has ts t then ts else ts ++ t ∷ []

-- each of the texts in turn
abbrev pub with_texts : List Text → List Text → List Text
with_texts ts [] = ts
with_texts ts (u ∷ us) = with_texts (with_text ts u) us

-- the map knows the index of every text of the list, and no other text
abbrev pub Knows : {S : Type 0} → HashMap (Bor Text) ℕ S → List Text → Type 0
Knows indexes ts = (t : Text) → get_by (λ k. bytes_eq t k.now) indexes ≡ find_text ts t
