-- What a call that appends dense nodes has read.
use Rattle.std.specs.Prelude.{◌≡◌, ℕ, List, ◌++◌, map, length, drop, ◌-◌, ℤ, Some, option_map}
use Rattle.std.specs.List.{AllByRecursion}
use Rattle.osm_value.specs.declared.element.Element.{Element}
use Rattle.osm_value.specs.declared.element.Element.TheVariants as elements
use Rattle.osm_value.specs.Value.{InfoValue, NodeValue}
use Rattle.osm_value.specs.Ranges.{IsInfo, IsNode}
use Rattle.osm_block.specs.declared.dense.arrays.DenseArrays.{DenseArrays}
use Rattle.osm_block.specs.Message.{Context}
use Rattle.osm_block.specs.Block.{coordinate, time, version, text_at, texts_at, all_there, values_for}
use Rattle.osm_block.specs.NodeTags.{node_pairs}

-- the infos of the first nodes: with what is left of the arrays, they are the arrays
pub record InfosRead (b : Context) (c : DenseArrays) (k : ℕ) (is : List InfoValue) : Type 0 where
  pub versions : map (λ i. i.version) is ++ drop k (values_for (length c.ids.items) (map version c.versions.items)) ≡ values_for (length c.ids.items) (map version c.versions.items)
  pub times : map (λ i. i.time) is ++ drop k (values_for (length c.ids.items) (map (λ t. Some (time b.date_granularity t)) c.timestamps.items)) ≡ values_for (length c.ids.items) (map (λ t. Some (time b.date_granularity t)) c.timestamps.items)
  pub changesets : map (λ i. i.changeset) is ++ drop k (values_for (length c.ids.items) (map (λ v. Some v) c.changesets.items)) ≡ values_for (length c.ids.items) (map (λ v. Some v) c.changesets.items)
  pub uids : map (λ i. i.uid) is ++ drop k (values_for (length c.ids.items) (map (λ v. Some v) c.uids.items)) ≡ values_for (length c.ids.items) (map (λ v. Some v) c.uids.items)
  pub users : map (λ i. option_map Some i.user) is ++ drop k (values_for (length c.ids.items) (map (λ v. Some (text_at b.table v)) c.users.items)) ≡ values_for (length c.ids.items) (map (λ v. Some (text_at b.table v)) c.users.items)
  pub visibles : map (λ i. i.visible) is ++ drop k (values_for (length c.ids.items) (map (λ v. Some v) c.visible.items)) ≡ values_for (length c.ids.items) (map (λ v. Some v) c.visible.items)
  pub in_range : AllByRecursion IsInfo is

-- the first nodes, where these are the indexes of the tags that are left
pub record NodesRead (b : Context) (c : DenseArrays) (k : ℕ) (left : List ℤ) (ns : List NodeValue) : Type 0 where
  pub ids : map (λ n. n.id) ns ++ drop k c.ids.items ≡ c.ids.items
  pub lats : map (λ n. n.lat) ns ++ drop k (map (coordinate b.lat_offset b.granularity) c.lats.items) ≡ map (coordinate b.lat_offset b.granularity) c.lats.items
  pub lons : map (λ n. n.lon) ns ++ drop k (map (coordinate b.lon_offset b.granularity) c.lons.items) ≡ map (coordinate b.lon_offset b.granularity) c.lons.items
  pub tags : map (λ n. all_there n.tags) ns ++ map (texts_at b.table) (node_pairs (length c.ids.items - k) left) ≡ map (texts_at b.table) (node_pairs (length c.ids.items) c.keys_vals.items)
  pub infos : InfosRead b c k (map (λ n. n.info) ns)
  pub in_range : AllByRecursion IsNode ns

-- all nodes were appended
abbrev pub AppendedNodes : Context → DenseArrays → List Element → List Element → Type 0
AppendedNodes b c old new = (ns : List NodeValue) × (left : List ℤ) × (new ≡ old ++ map elements.Node ns) × NodesRead b c (length c.ids.items) left ns
