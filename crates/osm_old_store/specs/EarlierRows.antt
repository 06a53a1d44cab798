-- The rows that a held map stood for before flags of visibility were read and written: what of `Rows` and `LayoutHolding` was
-- another then. No element had a flag. A body was the block of that time; the columns of tables were those of now, the flag's
-- being NULL. It is kept for the law that these rows hold the same map.
use Rattle.std.specs.Prelude.{◌≡◌, ℕ, ◌^◌, ◌<◌, List, [], ◌∷◌, map, length, None}
use Rattle.std.specs.List.{AllByRecursion}
use Rattle.std.specs.FinMap.{entries}
use Rattle.sqlite.specs.Order.{Row}
use Rattle.sqlite.specs.Tree.{Trees}
use Rattle.sqlite_catalog.specs.Listing.{IsSound}
use Rattle.osm_value.specs.declared.element.Element.{Element}
use Rattle.osm_value.specs.Elements.{IsElement, info_of_element, kind_of_element, id_of_element}
use Rattle.osm_write.specs.EarlierCanon.{canon}
use Rattle.osm_rows.specs.declared.schema.layout.Layout.{Layout}
use Rattle.osm_rows.specs.declared.schema.layout.Layout.TheVariants.{Bodies, Tables}
use Rattle.osm_rows.specs.Held.{Blob, HeldMap, HaveFewTexts, IsApart}
use Rattle.osm_rows.specs.Keeping.{extents_of}
use Rattle.osm_rows.specs.Rows.{Placed, placed_in, version_row, extent_row, body_columns}
use Rattle.osm_rows.specs.TableRows.{element_rows, tag_rows, link_rows}
use Rattle.osm_rows.specs.LayoutHolding.{HasRows}
use Rattle.osm_rows.specs.Schema.Layouts.{schema_of}
use Rattle.osm_rows.specs.declared.trees.TheConstants.{BLOBS, ELEMENTS, LINKS, META, TAGS}

-- ---- what could be kept

pub record IsFlagless (e : Element) : Type 0 where
  pub in_range : IsElement e
  pub no_flag : (info_of_element e).visible ≡ None

pub record HasBlock (e : Element) : Type 0 where
  pub element : IsFlagless e
  pub short : length (canon (e ∷ [])) < 2 ^ 64

abbrev pub CanStore : Layout → Element → Type 0
CanStore Bodies e = HasBlock e
CanStore Tables e = IsFlagless e

pub record IsBlob (layout : Layout) (blob : Blob) : Type 0 where
  pub digest : length blob.digest ≡ 32
  pub can_store : AllByRecursion (CanStore layout) blob.elements
  pub few_texts : HaveFewTexts blob.elements

-- A map that the layout could hold before flags of visibility were written: no element has one.
pub record IsKept (layout : Layout) (held : HeldMap) : Type 0 where
  pub apart : IsApart held
  pub blobs : AllByRecursion (λ (entry : ℕ × Blob). IsBlob layout entry.1) (entries held)

-- ---- its rows

abbrev pub body_row : Placed → Row
body_row p = body_columns p.0 p.1 (kind_of_element p.2) (id_of_element p.2) (canon (p.2 ∷ []))

abbrev pub HoldElements : Layout → List Placed → Trees → Type 0
HoldElements Bodies elements db = HasRows (map body_row elements) (db ELEMENTS)
HoldElements Tables elements db = HasRows (element_rows elements) (db ELEMENTS) × HasRows (tag_rows elements) (db TAGS) × HasRows (link_rows elements) (db LINKS)

-- the tables have exactly the rows that the map stood for
pub record TablesHold (layout : Layout) (held : HeldMap) (db : Trees) : Type 0 where
  pub sound : IsSound (schema_of layout) db
  pub meta : db META ≡ version_row layout ∷ []
  pub blob : db BLOBS ≡ map extent_row (extents_of held)
  pub elements : HoldElements layout (placed_in held) db
