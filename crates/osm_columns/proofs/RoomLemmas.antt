-- Arrays that have room for so many elements.
use Rattle.std.proofs.Common.{rules, ◌≡◌, ◌≤◌, length, true}
use Rattle.osm_columns.specs.declared.columns.Columns.{Columns}
use Rattle.osm_columns.specs.declared.counts.Counts.{Counts}
use Rattle.osm_columns.specs.Columns.{columns_fit}

-- and for the tags and members that they have
pub record HasListRoom (n : Counts) (c : Columns) : Type 0 where
  pub tag_ends : n.elements ≤ length c.tags.ends.now
  pub keys : n.tags ≤ length c.tags.keys.now
  pub values : n.tags ≤ length c.tags.values.now
  pub member_ends : n.elements ≤ length c.members.ends.now
  pub kinds : n.members ≤ length c.members.kinds.now
  pub ids : n.members ≤ length c.members.ids.now
  pub roles : n.members ≤ length c.members.roles.now

pub list-room-of : (n : Counts) (c : Columns) → columns_fit n c ≡ true → HasListRoom n c
list-room-of n c h = record {
  tag_ends = search rules;
  keys = search rules;
  values = search rules;
  member_ends = search rules;
  kinds = search rules;
  ids = search rules;
  roles = search rules;
}
