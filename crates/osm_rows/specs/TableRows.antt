-- The rows that an element stands for in the layout of tables.
use Rattle.std.specs.Prelude.{ℕ, ◌+◌, ℤ, pos, Bool, if◌then◌else◌, List, [], ◌∷◌, map, flat_map, Option, Some, None}
use Rattle.sqlite.specs.declared.types.Value.{Value}
use Rattle.sqlite.specs.declared.types.Value.TheVariants.{Int, Text as Words}
use Rattle.sqlite.specs.Order.{Row}
use Rattle.sqlite.specs.Values.{or_null}
use Rattle.osm_value.specs.declared.element.Element.{Element}
use Rattle.osm_value.specs.declared.element.Element.TheVariants as elements
use Rattle.osm_value.specs.declared.element.MemberKind.TheVariants as kinds
use Rattle.osm_value.specs.Elements.{tags_of_element, info_of_element, kind_of_element, id_of_element}
use Rattle.osm_value.specs.Value.{Text, InfoValue, MemberValue}
use Rattle.osm_rows.specs.Rows.{Placed, element_code}

-- ways and relations have no place
abbrev pub lat_of : Element → Option ℤ
lat_of (elements.Node n) = Some n.lat
lat_of (elements.Way w) = None
lat_of (elements.Relation r) = None

abbrev pub lon_of : Element → Option ℤ
lon_of (elements.Node n) = Some n.lon
lon_of (elements.Way w) = None
lon_of (elements.Relation r) = None

-- a node that a way refers to: without a role
abbrev pub node_link : ℤ → MemberValue
node_link id = record { kind = kinds.Node; id = id; role = [] }

-- what an element refers to, in order
abbrev pub links_of : Element → List MemberValue
links_of (elements.Node n) = []
links_of (elements.Way w) = map node_link w.refs
links_of (elements.Relation r) = r.members

abbrev pub flag : Bool → Value
flag b = Int (if b then pos 1 else pos 0)

-- what is absent is NULL
abbrev pub info_columns : InfoValue → Row
info_columns i = or_null Int i.version ∷ or_null Int i.time ∷ or_null Int i.changeset ∷ or_null Int i.uid ∷ or_null Words i.user ∷ or_null flag i.visible ∷ []

-- the columns of `element`, without the rowid, which `sqlite` chooses
abbrev pub element_row : Placed → Row
element_row p = Int (pos p.0) ∷ Int (pos p.1) ∷ Int (pos (element_code (kind_of_element p.2))) ∷ Int (id_of_element p.2) ∷ or_null Int (lat_of p.2) ∷ or_null Int (lon_of p.2) ∷ info_columns (info_of_element p.2)

-- a tag or a link in its element: the blob's offset, the element's position, its own number there, and what it is
pub record Part (A : Type 0) : Type 0 where
  pub off : ℕ
  pub position : ℕ
  pub number : ℕ
  pub item : A

-- the parts of one element, each with its number, from this one on
abbrev pub parts : {A : Type 0} → ℕ → ℕ → ℕ → List A → List (Part A)
parts off position number [] = []
parts off position number (x ∷ xs) = record { off = off; position = position; number = number; item = x } ∷ parts off position (number + 1) xs

abbrev pub tags_at : Placed → List (Part (Text × Text))
tags_at p = parts p.0 p.1 0 (tags_of_element p.2)

abbrev pub links_at : Placed → List (Part MemberValue)
links_at p = parts p.0 p.1 0 (links_of p.2)

-- the columns of `tag`
abbrev pub tag_row : Part (Text × Text) → Row
tag_row p = Int (pos p.off) ∷ Int (pos p.position) ∷ Int (pos p.number) ∷ Words p.item.0 ∷ Words p.item.1 ∷ []

-- the columns of `link`
abbrev pub link_row : Part MemberValue → Row
link_row p = Int (pos p.off) ∷ Int (pos p.position) ∷ Int (pos p.number) ∷ Int (pos (element_code p.item.kind)) ∷ Int p.item.id ∷ Words p.item.role ∷ []

-- the rows of some elements in each table
abbrev pub element_rows : List Placed → List Row
element_rows = map element_row

-- the rows of their tags, element by element
abbrev pub tag_rows : List Placed → List Row
tag_rows elements = map tag_row (flat_map tags_at elements)

-- the rows of what they refer to, element by element
abbrev pub link_rows : List Placed → List Row
link_rows elements = map link_row (flat_map links_at elements)
