-- Columns in the arrays of a caller: each begins with its column, and is as before behind it.
use Rattle.std.specs.Prelude.{◌≡◌, ℕ, ◌==◌, ℤ, List, map, length, ◌++◌, drop, Bool, ◌&&◌, nat_le}
use Rattle.std.specs.List.{count_by}
use Rattle.osm_value.specs.declared.element.Element.{Element}
use Rattle.osm_value.specs.Value.{Text}
use Rattle.osm_value.specs.Elements.{id_of_element, tags_of_element}
use Rattle.osm_block.specs.declared.groups.BlockGroups.{BlockGroups}
use Rattle.osm_block.specs.Groups.{GroupsHold}
use Rattle.osm_columns.specs.declared.columns.ElementColumns.{ElementColumns}
use Rattle.osm_columns.specs.declared.columns.TagColumns.{TagColumns}
use Rattle.osm_columns.specs.declared.columns.RefColumns.{RefColumns}
use Rattle.osm_columns.specs.declared.columns.MemberColumns.{MemberColumns}
use Rattle.osm_columns.specs.declared.columns.TextColumn.{TextColumn}
use Rattle.osm_columns.specs.declared.columns.Columns.{Columns}
use Rattle.osm_columns.specs.declared.counts.Counts.{Counts}
use Rattle.osm_columns.specs.declared.counts.Survey.{Survey}
use Rattle.osm_columns.specs.Values.{number_of_kind, kind_number, lat_of_element, lon_of_element, version_of_element, time_of_element, changeset_of_element, uid_of_element, flag_of_element, refs_of_element, members_of_element}
use Rattle.osm_columns.specs.Lists.{joined, ends_of, all_tags, all_refs, all_members}
use Rattle.osm_columns.specs.Texts.{NameAll}
use Rattle.osm_columns.specs.Indexes.{AreIndexes, texts_in, users_of, keys_of, values_of, roles_of}

-- ---- how long the columns are

pub record AreCounts (c : Counts) (es : List Element) (texts : List Text) : Type 0 where
  pub elements_are : c.elements ≡ length es
  pub nodes_are : c.nodes ≡ count_by (λ e. kind_number e == 0) es
  pub ways_are : c.ways ≡ count_by (λ e. kind_number e == 1) es
  pub relations_are : c.relations ≡ count_by (λ e. kind_number e == 2) es
  pub tags_are : c.tags ≡ length (all_tags es)
  pub refs_are : c.refs ≡ length (all_refs es)
  pub members_are : c.members ≡ length (all_members es)
  pub texts_are : c.texts ≡ length texts
  pub text_bytes_are : c.text_bytes ≡ length (joined texts)

pub record IsSurvey (s : Survey) (es : List Element) : Type 0 where
  pub indexes_are : AreIndexes s.indexes es
  pub counts_are : AreCounts s.counts es (texts_in s.indexes.dictionary)

-- what is known of all that the groups hold before their columns are written; dense nodes stay in their arrays
abbrev pub IsSurveyOf : Survey → BlockGroups → Type 0
IsSurveyOf s g = (es : List Element) → GroupsHold g es → IsSurvey s es

-- ---- whether they have room

abbrev pub has_room : {A : Type 0} → ℕ → List A → Bool
has_room count array = nat_le count (length array)

abbrev pub elements_fit : ℕ → ElementColumns → Bool
elements_fit n c = has_room n c.kinds.now && has_room n c.ids.now && has_room n c.lats.now && has_room n c.lons.now
    && has_room n c.versions.now && has_room n c.times.now && has_room n c.changesets.now && has_room n c.uids.now
    && has_room n c.users.now && has_room n c.visible.now

abbrev pub tags_fit : ℕ → ℕ → TagColumns → Bool
tags_fit elements tags c = has_room elements c.ends.now && has_room tags c.keys.now && has_room tags c.values.now

abbrev pub refs_fit : ℕ → ℕ → RefColumns → Bool
refs_fit elements refs c = has_room elements c.ends.now && has_room refs c.ids.now

abbrev pub members_fit : ℕ → ℕ → MemberColumns → Bool
members_fit elements members c = has_room elements c.ends.now && has_room members c.kinds.now && has_room members c.ids.now && has_room members c.roles.now

-- the arrays have room for so many texts with so many bytes
abbrev pub texts_fit : ℕ → ℕ → TextColumn → Bool
texts_fit texts bytes c = has_room texts c.ends.now && has_room bytes c.bytes.now

-- each array has as many items as its column, or more
abbrev pub columns_fit : Counts → Columns → Bool
columns_fit n c = elements_fit n.elements c.elements && tags_fit n.elements n.tags c.tags && refs_fit n.elements n.refs c.refs
    && members_fit n.elements n.members c.members && texts_fit n.texts n.text_bytes c.texts

-- ---- what they hold

-- an array that begins with these items and is behind them as it was
abbrev pub over : {A : Type 0} → List A → List A → List A
over xs old = xs ++ drop (length xs) old

-- these stand behind a column of so many items, and then what stood there
abbrev pub Adds : {A : Type 0} → ℕ → List A → List A → List A → Type 0
Adds {A} at xs old new = (front before : List A) → old ≡ over front before → length front ≡ at → new ≡ over (front ++ xs) before

-- the numbers of the elements, and these indexes of their users
pub record HoldsElements (users : List ℤ) (es : List Element) (old new : ElementColumns) : Type 0 where
  pub kinds_are : new.kinds.now ≡ over (map kind_number es) old.kinds.now
  pub ids_are : new.ids.now ≡ over (map id_of_element es) old.ids.now
  pub lats_are : new.lats.now ≡ over (map lat_of_element es) old.lats.now
  pub lons_are : new.lons.now ≡ over (map lon_of_element es) old.lons.now
  pub versions_are : new.versions.now ≡ over (map version_of_element es) old.versions.now
  pub times_are : new.times.now ≡ over (map time_of_element es) old.times.now
  pub changesets_are : new.changesets.now ≡ over (map changeset_of_element es) old.changesets.now
  pub uids_are : new.uids.now ≡ over (map uid_of_element es) old.uids.now
  pub users_are : new.users.now ≡ over users old.users.now
  pub visible_are : new.visible.now ≡ over (map flag_of_element es) old.visible.now

-- where the tags of the elements end; keys and values are as before
pub record HoldsTagEnds (es : List Element) (old new : TagColumns) : Type 0 where
  pub ends_are : new.ends.now ≡ over (ends_of (map tags_of_element es)) old.ends.now
  pub keys_are : new.keys.now ≡ old.keys.now
  pub values_are : new.values.now ≡ old.values.now

-- the tags of the elements, with these indexes of their keys and values
pub record HoldsTags (keys values : List ℤ) (es : List Element) (old new : TagColumns) : Type 0 where
  pub ends_are : new.ends.now ≡ over (ends_of (map tags_of_element es)) old.ends.now
  pub keys_are : new.keys.now ≡ over keys old.keys.now
  pub values_are : new.values.now ≡ over values old.values.now

pub record HoldsRefs (es : List Element) (old new : RefColumns) : Type 0 where
  pub ends_are : new.ends.now ≡ over (ends_of (map refs_of_element es)) old.ends.now
  pub ids_are : new.ids.now ≡ over (all_refs es) old.ids.now

-- the members of the elements; their roles are as before
pub record HoldsMemberIds (es : List Element) (old new : MemberColumns) : Type 0 where
  pub ends_are : new.ends.now ≡ over (ends_of (map members_of_element es)) old.ends.now
  pub kinds_are : new.kinds.now ≡ over (map (λ m. number_of_kind m.kind) (all_members es)) old.kinds.now
  pub ids_are : new.ids.now ≡ over (map (λ m. m.id) (all_members es)) old.ids.now
  pub roles_are : new.roles.now ≡ old.roles.now

-- these indexes of roles; the rest is as before
pub record HoldsRoles (roles : List ℤ) (old new : MemberColumns) : Type 0 where
  pub ends_are : new.ends.now ≡ old.ends.now
  pub kinds_are : new.kinds.now ≡ old.kinds.now
  pub ids_are : new.ids.now ≡ old.ids.now
  pub roles_are : new.roles.now ≡ over roles old.roles.now

-- the members of the elements, with these indexes of their roles
pub record HoldsMembers (roles : List ℤ) (es : List Element) (old new : MemberColumns) : Type 0 where
  pub ends_are : new.ends.now ≡ over (ends_of (map members_of_element es)) old.ends.now
  pub kinds_are : new.kinds.now ≡ over (map (λ m. number_of_kind m.kind) (all_members es)) old.kinds.now
  pub ids_are : new.ids.now ≡ over (map (λ m. m.id) (all_members es)) old.ids.now
  pub roles_are : new.roles.now ≡ over roles old.roles.now

-- the texts stand one behind the other, with the end of each; what is behind them is as it was
pub record HoldsTexts (texts : List Text) (old new : TextColumn) : Type 0 where
  pub ends_are : new.ends.now ≡ over (ends_of texts) old.ends.now
  pub bytes_are : new.bytes.now ≡ over (joined texts) old.bytes.now

-- The columns of the elements, and the texts that their indexes name: each index names the text of its element, tag or member.
pub record HoldsColumns (es : List Element) (texts : List Text) (old new : Columns) : Type 0 where
  pub users : List ℤ
  pub keys : List ℤ
  pub values : List ℤ
  pub roles : List ℤ
  pub users_name : NameAll texts users (users_of es)
  pub keys_name : NameAll texts keys (keys_of es)
  pub values_name : NameAll texts values (values_of es)
  pub roles_name : NameAll texts roles (roles_of es)
  pub elements_are : HoldsElements users es old.elements new.elements
  pub tags_are : HoldsTags keys values es old.tags new.tags
  pub refs_are : HoldsRefs es old.refs new.refs
  pub members_are : HoldsMembers roles es old.members new.members
  pub texts_are : HoldsTexts texts old.texts new.texts
