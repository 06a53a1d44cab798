-- Lists, joined, and where each of them ends: with a 0 in front, the offsets of Arrow's large lists and texts (Arrow Columnar
-- Format, "Variable-size List Layout").
use Rattle.std.specs.Prelude.{ℕ, ◌+◌, List, [], ◌∷◌, length, map}
use Rattle.std.specs.List.{flat_map}
use Rattle.osm_value.specs.declared.element.Element.{Element}
use Rattle.osm_value.specs.Value.{Text, MemberValue}
use Rattle.osm_value.specs.Elements.{tags_of_element}
use Rattle.osm_columns.specs.Values.{refs_of_element, members_of_element}
use Rattle.std.specs.Prelude.{ℤ}

-- lists, one behind the other
abbrev pub joined : {A : Type 0} → List (List A) → List A
joined lists = flat_map (λ xs. xs) lists

-- where each list ends in their joining, which begins behind `at` items
abbrev pub ends_from : {A : Type 0} → ℕ → List (List A) → List ℕ
ends_from at [] = []
ends_from at (xs ∷ rest) = (at + length xs) ∷ ends_from (at + length xs) rest

abbrev pub ends_of : {A : Type 0} → List (List A) → List ℕ
ends_of lists = ends_from 0 lists

-- the tags, references and members of all elements, in their order
abbrev pub all_tags : List Element → List (Text × Text)
all_tags es = joined (map tags_of_element es)

abbrev pub all_refs : List Element → List ℤ
all_refs es = joined (map refs_of_element es)

abbrev pub all_members : List Element → List MemberValue
all_members es = joined (map members_of_element es)

-- the running sums of some counts, behind a first one: where the lists end that are so long
abbrev pub sums_from : ℕ → List ℕ → List ℕ
sums_from at [] = []
sums_from at (n ∷ ns) = (at + n) ∷ sums_from (at + n) ns
