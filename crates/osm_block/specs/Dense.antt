-- Dense nodes while they are read: their arrays, and what each node takes of them.
use Rattle.std.specs.Prelude.{◌≡◌, ℕ, List, map, length, pos, Bool, true, ◌&&◌, slice_index_or, Option, Some, None, option_map}
use Rattle.std.specs.List.{list_all}
use Rattle.pbf_wire.specs.Readings.{int32, sint64}
use Rattle.osm_value.specs.Value.{InfoValue, NodeValue}
use Rattle.osm_value.specs.Ranges.{is_wide, is_version, is_uid, passes, IsInfo, IsNode}
use Rattle.osm_block.specs.declared.dense.fields.DenseFields.{DenseFields}
use Rattle.osm_block.specs.declared.dense.arrays.DenseArrays.{DenseArrays}
use Rattle.osm_block.specs.Message.{boolean, Context, DenseMessage}
use Rattle.osm_block.specs.Differences.{Diff}
use Rattle.osm_block.specs.Block.{coordinate, time, version, text_at, values_for}
use Rattle.osm_block.specs.Phases.{is_index, coordinate_in_range, fits_ids}
use Rattle.osm_block.specs.NodeTags.{node_pairs}
use Rattle.osm_block.specs.DenseTags.{indexes_of}

-- the arrays as they stand in the message; those of 32 bits are cut to 32 bits
abbrev pub dense_message_of : DenseFields → DenseMessage
dense_message_of d = record {
  id = map sint64 d.ids.numbers.items;
  info = record {
    version = map int32 d.info.versions.numbers.items;
    timestamp = map sint64 d.info.timestamps.numbers.items;
    changeset = map sint64 d.info.changesets.numbers.items;
    uid = map sint64 d.info.uids.numbers.items;
    user_sid = map sint64 d.info.users.numbers.items;
    visible = map boolean d.info.visible.numbers.items;
  };
  lat = map sint64 d.lats.numbers.items;
  lon = map sint64 d.lons.numbers.items;
  keys_vals = map int32 d.keys_vals.numbers.items;
}

-- the absolute numbers of a message
pub record AreArraysOf (c : DenseArrays) (m : DenseMessage) : Type 0 where
  pub ids : Diff c.ids.items m.id
  pub lats : Diff c.lats.items m.lat
  pub lons : Diff c.lons.items m.lon
  pub timestamps : Diff c.timestamps.items m.info.timestamp
  pub changesets : Diff c.changesets.items m.info.changeset
  pub uids : Diff c.uids.items m.info.uid
  pub users : Diff c.users.items m.info.user_sid
  pub versions : c.versions.items ≡ m.info.version
  pub visible : c.visible.items ≡ m.info.visible
  pub keys_vals : c.keys_vals.items ≡ m.keys_vals

abbrev pub arrays_in_range : Context → DenseArrays → Bool
arrays_in_range b c =
    list_all is_wide c.ids.items
    && list_all (coordinate_in_range b.lat_offset b.granularity) c.lats.items
    && list_all (coordinate_in_range b.lon_offset b.granularity) c.lons.items
    && (list_all (λ v. passes is_version (version v)) c.versions.items
    && list_all (λ t. is_wide (time b.date_granularity t)) c.timestamps.items
    && list_all is_wide c.changesets.items
    && list_all is_uid c.uids.items)

-- the arrays are as long as they should be, and their numbers in their ranges and their indexes in the table
pub record AreReady (b : Context) (c : DenseArrays) : Type 0 where
  pub lats : length c.lats.items ≡ length c.ids.items
  pub lons : length c.lons.items ≡ length c.ids.items
  pub versions : fits_ids c.ids.items c.versions.items ≡ true
  pub timestamps : fits_ids c.ids.items c.timestamps.items ≡ true
  pub changesets : fits_ids c.ids.items c.changesets.items ≡ true
  pub uids : fits_ids c.ids.items c.uids.items ≡ true
  pub users : fits_ids c.ids.items c.users.items ≡ true
  pub visible : fits_ids c.ids.items c.visible.items ≡ true
  pub in_range : arrays_in_range b c ≡ true
  pub tags_in_table : list_all (is_index (length b.table)) (indexes_of (node_pairs (length c.ids.items) c.keys_vals.items)) ≡ true
  pub users_in_table : list_all (is_index (length b.table)) c.users.items ≡ true

-- each node has all of an info but its visibility
pub record HaveInfos (c : DenseArrays) : Type 0 where
  pub versions : length c.versions.items ≡ length c.ids.items
  pub timestamps : length c.timestamps.items ≡ length c.ids.items
  pub changesets : length c.changesets.items ≡ length c.ids.items
  pub uids : length c.uids.items ≡ length c.ids.items
  pub users : length c.users.items ≡ length c.ids.items
  pub visible : length c.visible.items ≡ 0

-- what stands at an index of an array that may be empty
abbrev pub at_index : {A B : Type 0} → ℕ → (A → Option B) → List A → ℕ → Option B
at_index n meaning xs k = slice_index_or (values_for n (map meaning xs)) k None

-- the info of the node at that index
pub record InfoAt (b : Context) (c : DenseArrays) (k : ℕ) (i : InfoValue) : Type 0 where
  pub version : i.version ≡ at_index (length c.ids.items) version c.versions.items k
  pub time : i.time ≡ at_index (length c.ids.items) (λ t. Some (time b.date_granularity t)) c.timestamps.items k
  pub changeset : i.changeset ≡ at_index (length c.ids.items) (λ v. Some v) c.changesets.items k
  pub uid : i.uid ≡ at_index (length c.ids.items) (λ v. Some v) c.uids.items k
  pub user : option_map Some i.user ≡ at_index (length c.ids.items) (λ v. Some (text_at b.table v)) c.users.items k
  pub visible : i.visible ≡ at_index (length c.ids.items) (λ v. Some v) c.visible.items k
  pub in_range : IsInfo i

-- the node at that index, but for its tags
pub record NodeAt (b : Context) (c : DenseArrays) (k : ℕ) (n : NodeValue) : Type 0 where
  pub id : n.id ≡ slice_index_or c.ids.items k (pos 0)
  pub lat : n.lat ≡ coordinate b.lat_offset b.granularity (slice_index_or c.lats.items k (pos 0))
  pub lon : n.lon ≡ coordinate b.lon_offset b.granularity (slice_index_or c.lons.items k (pos 0))
  pub info : InfoAt b c k n.info
  pub in_range : IsNode n
