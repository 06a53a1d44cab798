-- The rows that a held map stands for.
use Rattle.std.specs.Prelude.{◌≡◌, ◌⊎◌, ℕ, ◌+◌, ◌^◌, ◌<◌, ◌==◌, ◌&&◌, Bool, ℤ, pos, List, [], ◌∷◌, flat_map, length}
use Rattle.std.specs.Ordering.{int_eq}
use Rattle.std.specs.FinMap.{entries}
use Rattle.sqlite.specs.declared.types.Value.TheVariants.{Null, Int, Blob as Octets}
use Rattle.sqlite.specs.Order.{Row}
use Rattle.osm_value.specs.declared.element.Element.{Element}
use Rattle.osm_value.specs.declared.element.MemberKind.{MemberKind}
use Rattle.osm_value.specs.declared.element.MemberKind.TheVariants.{Node, Way, Relation}
use Rattle.osm_value.specs.Elements.{IsElement, kind_of_element, id_of_element}
use Rattle.osm_write.specs.Canon.{canon}
use Rattle.pbf_frame.specs.declared.kind.Kind.{Kind}
use Rattle.pbf_frame.specs.declared.kind.Kind.TheVariants.{OsmHeader, OsmData, Other}
use Rattle.osm_rows.specs.declared.keeper.Extent.{Extent}
use Rattle.osm_rows.specs.declared.schema.layout.Layout.{Layout}
use Rattle.osm_rows.specs.declared.schema.layout.Layout.TheVariants.{Bodies, Tables}
use Rattle.osm_rows.specs.Held.{Blob, HeldMap, HasFewTexts}
use Rattle.osm_rows.specs.Schema.Layouts.{version_of}

-- the number that a row has for a kind of blob
abbrev pub blob_code : Kind → ℕ
blob_code OsmHeader = 0
blob_code OsmData = 1
blob_code Other = 2

-- the number that a row has for a node, a way or a relation
abbrev pub element_code : MemberKind → ℕ
element_code Node = 0
element_code Way = 1
element_code Relation = 2

-- an element in its blob: the blob's offset, its position there, and the element
abbrev pub Placed : Type 0
Placed = ℕ × ℕ × Element

-- the elements of one blob, each at its position, from this one on
abbrev pub placed : ℕ → ℕ → List Element → List Placed
placed off position [] = []
placed off position (e ∷ es) = (off, position, e) ∷ placed off (position + 1) es

-- all held elements, by offset and position
abbrev pub placed_in : HeldMap → List Placed
placed_in held = flat_map (λ (entry : ℕ × Blob). placed entry.0 0 entry.1.elements) (entries held)

-- by offset and position
abbrev pub IsBefore : Placed → Placed → Type 0
IsBefore a b = (a.0 < b.0) ⊎ ((a.0 ≡ b.0) × (a.1 < b.1))

-- the one row of the table `meta`, which names the version of a layout
abbrev pub version_row : Layout → Row
version_row layout = Int (pos (version_of layout)) ∷ Null ∷ []

-- the rowid, and then the columns, of which the INTEGER PRIMARY KEY is kept as NULL
abbrev pub extent_row : Extent → Row
extent_row e = Int (pos e.off) ∷ Null ∷ Int (pos e.fin) ∷ Octets e.digest ∷ Int (pos (blob_code e.kind)) ∷ Int (pos e.n) ∷ []

-- the columns, without the rowid, which `sqlite` chooses
abbrev pub body_columns : ℕ → ℕ → MemberKind → ℤ → List ℕ → Row
body_columns off position kind id block = Int (pos off) ∷ Int (pos position) ∷ Int (pos (element_code kind)) ∷ Int id ∷ Octets block ∷ []

-- an element is kept as the canonical block of itself alone
abbrev pub body_row : Placed → Row
body_row p = body_columns p.0 p.1 (kind_of_element p.2) (id_of_element p.2) (canon (p.2 ∷ []))

-- what a query shows of an extent
abbrev pub extent_columns : Extent → Row
extent_columns e = Int (pos e.off) ∷ Int (pos e.fin) ∷ Octets e.digest ∷ Int (pos (blob_code e.kind)) ∷ Int (pos e.n) ∷ []

-- whether the element is of the blob at this offset
abbrev pub is_in : ℕ → Placed → Bool
is_in off p = p.0 == off

-- whether the element has this kind and this id
abbrev pub is_of : MemberKind → ℤ → Placed → Bool
is_of kind id p = (element_code (kind_of_element p.2) == element_code kind) && int_eq (id_of_element p.2) id

-- inside its ranges, and its block has a length
pub record HasBlock (e : Element) : Type 0 where
  pub in_range : IsElement e
  pub short : length (canon (e ∷ [])) < 2 ^ 64

-- what is known of an element that is kept as a body, and of one that is kept in tables
abbrev pub CanStore : Layout → Element → Type 0
CanStore Bodies e = HasBlock e
CanStore Tables e = IsElement e

-- what is known of each stored element
abbrev pub IsStored : Layout → Element → Type 0
IsStored layout e = CanStore layout e × HasFewTexts e
