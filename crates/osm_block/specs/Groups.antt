-- The elements of groups whose dense nodes stay in arrays (osmformat.proto, PrimitiveGroup, DenseNodes).
use Rattle.std.specs.Prelude.{◌≡◌, List, map, length, Some, option_map}
use Rattle.osm_value.specs.declared.element.Element.{Element}
use Rattle.osm_value.specs.declared.element.Element.TheVariants as elements
use Rattle.osm_value.specs.Value.{NodeValue}
use Rattle.osm_block.specs.declared.dense.arrays.DenseArrays.{DenseArrays}
use Rattle.osm_block.specs.declared.groups.GroupElements.{GroupElements}
use Rattle.osm_block.specs.declared.groups.GroupElements.TheVariants as groups
use Rattle.osm_block.specs.declared.groups.BlockGroups.{BlockGroups}
use Rattle.osm_block.specs.Message.{Context}
use Rattle.osm_block.specs.Block.{Joins, coordinate, time, version, text_at, texts_at, all_there, values_for}
use Rattle.osm_block.specs.Dense.{AreReady}
use Rattle.osm_block.specs.Fields.{context_of}
use Rattle.osm_block.specs.NodeTags.{node_pairs}

-- the nodes of the arrays: a value of each array for each node, and none where the array is empty
pub record AreNodesOf (b : Context) (c : DenseArrays) (ns : List NodeValue) : Type 0 where
  pub ready : AreReady b c
  pub ids : map (λ n. n.id) ns ≡ c.ids.items
  pub lats : map (λ n. n.lat) ns ≡ map (coordinate b.lat_offset b.granularity) c.lats.items
  pub lons : map (λ n. n.lon) ns ≡ map (coordinate b.lon_offset b.granularity) c.lons.items
  pub tags : map (λ n. all_there n.tags) ns ≡ map (texts_at b.table) (node_pairs (length ns) c.keys_vals.items)
  pub versions : map (λ n. n.info.version) ns ≡ values_for (length ns) (map version c.versions.items)
  pub times : map (λ n. n.info.time) ns ≡ values_for (length ns) (map (λ t. Some (time b.date_granularity t)) c.timestamps.items)
  pub changesets : map (λ n. n.info.changeset) ns ≡ values_for (length ns) (map (λ v. Some v) c.changesets.items)
  pub uids : map (λ n. n.info.uid) ns ≡ values_for (length ns) (map (λ v. Some v) c.uids.items)
  pub users : map (λ n. option_map Some n.info.user) ns ≡ values_for (length ns) (map (λ v. Some (text_at b.table v)) c.users.items)
  pub visibles : map (λ n. n.info.visible) ns ≡ values_for (length ns) (map (λ v. Some v) c.visible.items)

abbrev pub GroupHolds : Context → List Element → GroupElements → Type 0
GroupHolds b es (groups.Listed listed) = es ≡ listed.items
GroupHolds b es (groups.Dense arrays) = (ns : List NodeValue) × (es ≡ map elements.Node ns) × AreNodesOf b arrays ns

-- the groups together hold these elements, in their order
abbrev pub GroupsHold : BlockGroups → List Element → Type 0
GroupsHold g es = Joins (GroupHolds (context_of g.scale)) es g.groups.items
