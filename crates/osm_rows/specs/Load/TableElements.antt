-- What rows of `element`, `tag` and `link` say of the element that they belong to.
use Rattle.std.specs.Prelude.{◌≡◌, ◌<◌, ℕ, pos, length}
use Rattle.sqlite.specs.declared.types.Value.TheVariants.{Int}
use Rattle.sqlite.specs.Order.{Row, column}
use Rattle.osm_value.specs.Ranges.{IsText, IsWide, IsMember}
use Rattle.osm_value.specs.Value.{Text, MemberValue}
use Rattle.osm_rows.specs.TableRows.{Part, node_link}

-- the row is of the element at this place
pub record StandsAt (off position : ℕ) (row : Row) : Type 0 where
  pub long : 1 < length row
  pub its_off : column row 0 ≡ Int (pos off)
  pub its_position : column row 1 ≡ Int (pos position)

-- the row is of an element at another place
pub record StandsApart (off position : ℕ) (row : Row) : Type 0 where
  pub at : ℕ × ℕ
  pub stands : StandsAt at.0 at.1 row
  pub apart : at.0 ≡ off → at.1 ≡ position → ⊥

abbrev pub item_of : {A : Type 0} → Part A → A
item_of p = p.item

-- inside its ranges
abbrev pub IsTagPart : Part (Text × Text) → Type 0
IsTagPart p = IsText p.item.0 × IsText p.item.1

abbrev pub IsMemberPart : Part MemberValue → Type 0
IsMemberPart p = IsMember p.item

-- a node of a way
abbrev pub IsNodePart : Part MemberValue → Type 0
IsNodePart p = IsWide p.item.id × (p.item ≡ node_link p.item.id)
