-- Which tags and links are those of one element.
use Rattle.std.specs.Prelude.{◌≡◌, ◌==◌, ◌&&◌, ℕ, Bool, List, filter, flat_map}
use Rattle.osm_rows.specs.Rows.{Placed}
use Rattle.osm_rows.specs.TableRows.{Part, tags_at, links_at}

-- whether the part is one of the element at this place
abbrev pub is_part_at : {A : Type 0} → ℕ → ℕ → Part A → Bool
is_part_at off position x = (x.off == off) && (x.position == position)

-- among the tags and links of all these elements, those at its place are its own
pub record IsAlone (all : List Placed) (p : Placed) : Type 0 where
  pub tags : filter (is_part_at p.0 p.1) (flat_map tags_at all) ≡ tags_at p
  pub links : filter (is_part_at p.0 p.1) (flat_map links_at all) ≡ links_at p
