-- Some elements, whose rows are known.
use Rattle.std.specs.Prelude.{ℕ, ℤ, pos, negsuc, [], ◌∷◌, None, codes}
use Rattle.sqlite.specs.declared.types.Value.TheVariants.{Null, Int, Text as Words}
use Rattle.sqlite.specs.Order.{Row}
use Rattle.osm_value.specs.declared.element.Element.{Element}
use Rattle.osm_value.specs.declared.element.Element.TheVariants as elements
use Rattle.osm_value.specs.declared.element.MemberKind.TheVariants as kinds
use Rattle.osm_value.specs.Value.{InfoValue}

abbrev pub no_info : InfoValue
no_info = record { version = None; time = None; changeset = None; uid = None; user = None; visible = None }

-- a node without tags
abbrev pub a_node : ℤ → ℤ → ℤ → Element
a_node id lat lon = elements.Node (record { id = id; lat = lat; lon = lon; tags = []; info = no_info })

-- a way over four nodes, one of them twice
abbrev pub a_way : Element
a_way = elements.Way (record { id = pos 7; refs = pos 5 ∷ pos 6 ∷ pos 7 ∷ pos 6 ∷ []; tags = (codes "a", codes "b") ∷ []; info = no_info })

-- a relation with a node that has a role and a way that has none
abbrev pub a_relation : Element
a_relation = elements.Relation (record {
  id = pos 9;
  members = record { kind = kinds.Node; id = pos 1; role = codes "outer" } ∷ record { kind = kinds.Way; id = negsuc 1; role = [] } ∷ [];
  tags = (codes "name", codes "a b,c") ∷ [];
  info = no_info;
})

-- the columns of an element's last change where nothing is known of it: version, time, changeset, user id, user and flag
abbrev pub nothing_known : Row
nothing_known = Null ∷ Null ∷ Null ∷ Null ∷ Null ∷ Null ∷ []

-- the columns without a value, of what has no place
abbrev pub no_values : Row
no_values = Null ∷ Null ∷ nothing_known

-- the row of a node at this position of its blob, of which the id and the place are known
abbrev pub row_of_a_node : ℕ → ℕ → ℤ → ℤ → ℤ → Row
row_of_a_node off i id lat lon = Int (pos off) ∷ Int (pos i) ∷ Int (pos 0) ∷ Int id ∷ Int lat ∷ Int lon ∷ nothing_known

-- the row of the node at this position of the way at position 0: of kind 0, with an empty role
abbrev pub node_of_a_way : ℕ → ℕ → ℤ → Row
node_of_a_way off at id = Int (pos off) ∷ Int (pos 0) ∷ Int (pos at) ∷ Int (pos 0) ∷ Int id ∷ Words [] ∷ []
