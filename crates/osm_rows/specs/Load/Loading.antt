-- What the rows of a blob stand for.
use Rattle.std.specs.Prelude.{◌≡◌, ℕ, List, map, All}
use Rattle.osm_value.specs.declared.element.Element.{Element}
use Rattle.osm_rows.specs.declared.load.bodies.BodyRows.{BodyRows}
use Rattle.osm_rows.specs.declared.load.loaded.Loaded.{Loaded}
use Rattle.osm_rows.specs.declared.load.rows.ElementRows.{ElementRows}
use Rattle.osm_rows.specs.declared.load.rows.ElementRows.TheVariants as element_rows
use Rattle.osm_rows.specs.declared.schema.layout.Layout.TheVariants.{Bodies}
use Rattle.osm_rows.specs.Load.Numbering.{AreNumbered}
use Rattle.osm_rows.specs.Load.TableAnswers.{AreRowsOf}
use Rattle.osm_rows.specs.Rows.{Placed, placed, body_row, IsStored}

-- the rows are those of these elements: each with its place, its kind and id, and its canonical block
pub record AreBodiesOf (bodies : BodyRows) (placed : List Placed) : Type 0 where
  pub rows : bodies.rows.items ≡ map body_row placed
  pub stored : All (λ (p : Placed). IsStored Bodies p.2) placed

-- the rows are those of these elements, in the one layout or the other
abbrev pub StandFor : ElementRows → List Placed → Type 0
StandFor (element_rows.Bodies bodies) placed = AreBodiesOf bodies placed
StandFor (element_rows.Tables tables) placed = AreRowsOf tables placed

-- the rows are those of a blob with these elements
pub record HasRowsOf (loaded : Loaded) (elements : List Element) : Type 0 where
  pub off : ℕ
  pub rows : StandFor loaded.rows (placed off 0 elements)

-- the positions are 0, 1, 2, .. in the order of the rows
abbrev pub AreInPlace : ElementRows → Type 0
AreInPlace (element_rows.Bodies bodies) = AreNumbered 1 bodies.rows.items
AreInPlace (element_rows.Tables tables) = AreNumbered 1 tables.elements.items

-- whatever rows the tables have, the loaded ones are at the positions 0, 1, 2, .. of their blob
pub record IsInPlace (loaded : Loaded) : Type 0 where
  pub rows : AreInPlace loaded.rows
