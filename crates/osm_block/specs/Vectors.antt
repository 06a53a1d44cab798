-- The fault of each vector, computed.
use Rattle.std.specs.Prelude.{◌≡◌, ℕ, List, [], ◌∷◌, refl, Some, None, take}
use Rattle.std.specs.Str.{is_utf8, chars}
use lib.Utf8
use Rattle.osm_block.specs.declared.fault.BlockFault.TheVariants as faults
use Rattle.pbf_wire.specs.declared.fault.WireFaultKind.TheVariants as wires
use Rattle.pbf_wire.specs.Number.{number_within, number_at}
use Rattle.pbf_wire.specs.Field.{value_at, field_at, next_at}
use Rattle.pbf_wire.specs.FieldList.{items_within, items_from}
use Rattle.pbf_wire.specs.Readings.{row_within}
use Rattle.osm_block.specs.Phases.{fault}

abbrev pub two_nodes : List ℕ
two_nodes = 0x0A ∷ 0x02 ∷ 0x0A ∷ 0x00 ∷ 0x12 ∷ 0x0E ∷ 0x12 ∷ 0x0C ∷ 0x0A ∷ 0x02 ∷ 0x02 ∷ 0x02 ∷ 0x42 ∷ 0x02 ∷ 0x14 ∷ 0x01 ∷ 0x4A ∷ 0x02 ∷ 0x01 ∷ 0x00 ∷ []

abbrev pub tagged_nodes : List ℕ
tagged_nodes = 0x0A ∷ 0x08 ∷ 0x0A ∷ 0x00 ∷ 0x0A ∷ 0x01 ∷ 0x61 ∷ 0x0A ∷ 0x01 ∷ 0x62 ∷ 0x12 ∷ 0x14 ∷ 0x12 ∷ 0x12 ∷ 0x0A ∷ 0x02 ∷ 0x02 ∷ 0x02 ∷ 0x42 ∷ 0x02 ∷ 0x00 ∷ 0x00 ∷ 0x4A ∷ 0x02 ∷ 0x00 ∷ 0x00 ∷ 0x52 ∷ 0x04 ∷ 0x01 ∷ 0x02 ∷ 0x00 ∷ 0x00 ∷ []

abbrev pub untagged_nodes : List ℕ
untagged_nodes = 0x0A ∷ 0x08 ∷ 0x0A ∷ 0x00 ∷ 0x0A ∷ 0x01 ∷ 0x61 ∷ 0x0A ∷ 0x01 ∷ 0x62 ∷ 0x12 ∷ 0x0E ∷ 0x12 ∷ 0x0C ∷ 0x0A ∷ 0x02 ∷ 0x02 ∷ 0x02 ∷ 0x42 ∷ 0x02 ∷ 0x00 ∷ 0x00 ∷ 0x4A ∷ 0x02 ∷ 0x00 ∷ 0x00 ∷ []

abbrev pub delimiters_alone : List ℕ
delimiters_alone = 0x0A ∷ 0x08 ∷ 0x0A ∷ 0x00 ∷ 0x0A ∷ 0x01 ∷ 0x61 ∷ 0x0A ∷ 0x01 ∷ 0x62 ∷ 0x12 ∷ 0x12 ∷ 0x12 ∷ 0x10 ∷ 0x0A ∷ 0x02 ∷ 0x02 ∷ 0x02 ∷ 0x42 ∷ 0x02 ∷ 0x00 ∷ 0x00 ∷ 0x4A ∷ 0x02 ∷ 0x00 ∷ 0x00 ∷ 0x52 ∷ 0x02 ∷ 0x00 ∷ 0x00 ∷ []

abbrev pub no_delimiter : List ℕ
no_delimiter = 0x0A ∷ 0x08 ∷ 0x0A ∷ 0x00 ∷ 0x0A ∷ 0x01 ∷ 0x61 ∷ 0x0A ∷ 0x01 ∷ 0x62 ∷ 0x12 ∷ 0x12 ∷ 0x12 ∷ 0x10 ∷ 0x0A ∷ 0x02 ∷ 0x02 ∷ 0x02 ∷ 0x42 ∷ 0x02 ∷ 0x00 ∷ 0x00 ∷ 0x4A ∷ 0x02 ∷ 0x00 ∷ 0x00 ∷ 0x52 ∷ 0x02 ∷ 0x01 ∷ 0x02 ∷ []

abbrev pub one_delimiter : List ℕ
one_delimiter = 0x0A ∷ 0x08 ∷ 0x0A ∷ 0x00 ∷ 0x0A ∷ 0x01 ∷ 0x61 ∷ 0x0A ∷ 0x01 ∷ 0x62 ∷ 0x12 ∷ 0x13 ∷ 0x12 ∷ 0x11 ∷ 0x0A ∷ 0x02 ∷ 0x02 ∷ 0x02 ∷ 0x42 ∷ 0x02 ∷ 0x00 ∷ 0x00 ∷ 0x4A ∷ 0x02 ∷ 0x00 ∷ 0x00 ∷ 0x52 ∷ 0x03 ∷ 0x01 ∷ 0x02 ∷ 0x00 ∷ []

abbrev pub way_in_pieces : List ℕ
way_in_pieces = 0x12 ∷ 0x13 ∷ 0x1A ∷ 0x11 ∷ 0x08 ∷ 0x07 ∷ 0x12 ∷ 0x01 ∷ 0x01 ∷ 0x1A ∷ 0x01 ∷ 0x02 ∷ 0x42 ∷ 0x01 ∷ 0x0A ∷ 0x40 ∷ 0x02 ∷ 0x42 ∷ 0x02 ∷ 0x02 ∷ 0x01 ∷ 0x0A ∷ 0x05 ∷ 0x0A ∷ 0x00 ∷ 0x0A ∷ 0x01 ∷ 0x61 ∷ 0x0A ∷ 0x03 ∷ 0x0A ∷ 0x01 ∷ 0x62 ∷ []

abbrev pub way : List ℕ
way = 0x0A ∷ 0x08 ∷ 0x0A ∷ 0x00 ∷ 0x0A ∷ 0x01 ∷ 0x61 ∷ 0x0A ∷ 0x01 ∷ 0x62 ∷ 0x12 ∷ 0x10 ∷ 0x1A ∷ 0x0E ∷ 0x08 ∷ 0x07 ∷ 0x12 ∷ 0x01 ∷ 0x01 ∷ 0x1A ∷ 0x01 ∷ 0x02 ∷ 0x42 ∷ 0x04 ∷ 0x0A ∷ 0x02 ∷ 0x02 ∷ 0x01 ∷ []

abbrev pub coordinate_over_range : List ℕ
coordinate_over_range = 0x0A ∷ 0x02 ∷ 0x0A ∷ 0x00 ∷ 0x12 ∷ 0x0B ∷ 0x12 ∷ 0x09 ∷ 0x0A ∷ 0x01 ∷ 0x02 ∷ 0x42 ∷ 0x01 ∷ 0x00 ∷ 0x4A ∷ 0x01 ∷ 0x00 ∷ 0x88 ∷ 0x01 ∷ 0x01 ∷ 0x98 ∷ 0x01 ∷ 0x80 ∷ 0x80 ∷ 0x80 ∷ 0x80 ∷ 0x80 ∷ 0x80 ∷ 0x80 ∷ 0x80 ∷ 0x40 ∷ []

abbrev pub greatest_coordinate : List ℕ
greatest_coordinate = 0x0A ∷ 0x02 ∷ 0x0A ∷ 0x00 ∷ 0x12 ∷ 0x0B ∷ 0x12 ∷ 0x09 ∷ 0x0A ∷ 0x01 ∷ 0x02 ∷ 0x42 ∷ 0x01 ∷ 0x01 ∷ 0x4A ∷ 0x01 ∷ 0x00 ∷ 0x88 ∷ 0x01 ∷ 0x01 ∷ 0x98 ∷ 0x01 ∷ 0x80 ∷ 0x80 ∷ 0x80 ∷ 0x80 ∷ 0x80 ∷ 0x80 ∷ 0x80 ∷ 0x80 ∷ 0x40 ∷ []

abbrev pub widest_ids : List ℕ
widest_ids = 0x0A ∷ 0x02 ∷ 0x0A ∷ 0x00 ∷ 0x12 ∷ 0x1F ∷ 0x12 ∷ 0x1D ∷ 0x0A ∷ 0x13 ∷ 0xFE ∷ 0xFF ∷ 0xFF ∷ 0xFF ∷ 0xFF ∷ 0xFF ∷ 0xFF ∷ 0xFF ∷ 0x7F ∷ 0xFB ∷ 0xFF ∷ 0xFF ∷ 0xFF ∷ 0xFF ∷ 0xFF ∷ 0xFF ∷ 0xFF ∷ 0xFF ∷ 0x01 ∷ 0x42 ∷ 0x02 ∷ 0x00 ∷ 0x00 ∷ 0x4A ∷ 0x02 ∷ 0x00 ∷ 0x00 ∷ []

abbrev pub absent_version : List ℕ
absent_version = 0x0A ∷ 0x02 ∷ 0x0A ∷ 0x00 ∷ 0x12 ∷ 0x1D ∷ 0x12 ∷ 0x1B ∷ 0x0A ∷ 0x02 ∷ 0x02 ∷ 0x02 ∷ 0x2A ∷ 0x0D ∷ 0x0A ∷ 0x0B ∷ 0x03 ∷ 0xFF ∷ 0xFF ∷ 0xFF ∷ 0xFF ∷ 0xFF ∷ 0xFF ∷ 0xFF ∷ 0xFF ∷ 0xFF ∷ 0x01 ∷ 0x42 ∷ 0x02 ∷ 0x00 ∷ 0x00 ∷ 0x4A ∷ 0x02 ∷ 0x00 ∷ 0x00 ∷ []

abbrev pub version_in_its_group : List ℕ
version_in_its_group = 0x0A ∷ 0x02 ∷ 0x0A ∷ 0x00 ∷ 0x12 ∷ 0x10 ∷ 0x12 ∷ 0x0E ∷ 0x0A ∷ 0x01 ∷ 0x02 ∷ 0x2A ∷ 0x03 ∷ 0x0A ∷ 0x01 ∷ 0x03 ∷ 0x42 ∷ 0x01 ∷ 0x00 ∷ 0x4A ∷ 0x01 ∷ 0x00 ∷ 0x12 ∷ 0x0B ∷ 0x12 ∷ 0x09 ∷ 0x0A ∷ 0x01 ∷ 0x04 ∷ 0x42 ∷ 0x01 ∷ 0x00 ∷ 0x4A ∷ 0x01 ∷ 0x00 ∷ []

abbrev pub relation : List ℕ
relation = 0x0A ∷ 0x18 ∷ 0x0A ∷ 0x00 ∷ 0x0A ∷ 0x04 ∷ 0x6E ∷ 0x61 ∷ 0x6D ∷ 0x65 ∷ 0x0A ∷ 0x05 ∷ 0x61 ∷ 0x20 ∷ 0x62 ∷ 0x2C ∷ 0x63 ∷ 0x0A ∷ 0x05 ∷ 0x6F ∷ 0x75 ∷ 0x74 ∷ 0x65 ∷ 0x72 ∷ 0x0A ∷ 0x00 ∷ 0x12 ∷ 0x16 ∷ 0x22 ∷ 0x14 ∷ 0x08 ∷ 0x09 ∷ 0x12 ∷ 0x01 ∷ 0x01 ∷ 0x1A ∷ 0x01 ∷ 0x02 ∷ 0x42 ∷ 0x02 ∷ 0x03 ∷ 0x04 ∷ 0x4A ∷ 0x02 ∷ 0x02 ∷ 0x05 ∷ 0x52 ∷ 0x02 ∷ 0x00 ∷ 0x01 ∷ []

abbrev pub bad_member_type : List ℕ
bad_member_type = 0x0A ∷ 0x18 ∷ 0x0A ∷ 0x00 ∷ 0x0A ∷ 0x04 ∷ 0x6E ∷ 0x61 ∷ 0x6D ∷ 0x65 ∷ 0x0A ∷ 0x05 ∷ 0x61 ∷ 0x20 ∷ 0x62 ∷ 0x2C ∷ 0x63 ∷ 0x0A ∷ 0x05 ∷ 0x6F ∷ 0x75 ∷ 0x74 ∷ 0x65 ∷ 0x72 ∷ 0x0A ∷ 0x00 ∷ 0x12 ∷ 0x16 ∷ 0x22 ∷ 0x14 ∷ 0x08 ∷ 0x09 ∷ 0x12 ∷ 0x01 ∷ 0x01 ∷ 0x1A ∷ 0x01 ∷ 0x02 ∷ 0x42 ∷ 0x02 ∷ 0x03 ∷ 0x04 ∷ 0x4A ∷ 0x02 ∷ 0x02 ∷ 0x05 ∷ 0x52 ∷ 0x02 ∷ 0x00 ∷ 0x03 ∷ []

abbrev pub way_with_info : List ℕ
way_with_info = 0x0A ∷ 0x05 ∷ 0x0A ∷ 0x00 ∷ 0x0A ∷ 0x01 ∷ 0x75 ∷ 0x12 ∷ 0x19 ∷ 0x1A ∷ 0x17 ∷ 0x08 ∷ 0x07 ∷ 0x22 ∷ 0x13 ∷ 0x08 ∷ 0x02 ∷ 0x10 ∷ 0x03 ∷ 0x18 ∷ 0x04 ∷ 0x20 ∷ 0xFF ∷ 0xFF ∷ 0xFF ∷ 0xFF ∷ 0xFF ∷ 0xFF ∷ 0xFF ∷ 0xFF ∷ 0xFF ∷ 0x01 ∷ 0x28 ∷ 0x01 ∷ []

abbrev pub visible_node : List ℕ
visible_node = 0x0A ∷ 0x02 ∷ 0x0A ∷ 0x00 ∷ 0x12 ∷ 0x0C ∷ 0x0A ∷ 0x0A ∷ 0x08 ∷ 0x02 ∷ 0x22 ∷ 0x02 ∷ 0x30 ∷ 0x01 ∷ 0x40 ∷ 0x02 ∷ 0x48 ∷ 0x02 ∷ []

abbrev pub two_groups : List ℕ
two_groups = 0x0A ∷ 0x02 ∷ 0x0A ∷ 0x00 ∷ 0x12 ∷ 0x0B ∷ 0x12 ∷ 0x09 ∷ 0x0A ∷ 0x01 ∷ 0x02 ∷ 0x42 ∷ 0x01 ∷ 0x00 ∷ 0x4A ∷ 0x01 ∷ 0x00 ∷ 0x12 ∷ 0x0B ∷ 0x12 ∷ 0x09 ∷ 0x0A ∷ 0x01 ∷ 0x02 ∷ 0x42 ∷ 0x01 ∷ 0x00 ∷ 0x4A ∷ 0x01 ∷ 0x00 ∷ []

abbrev pub sum_too_large : List ℕ
sum_too_large = 0x0A ∷ 0x02 ∷ 0x0A ∷ 0x00 ∷ 0x12 ∷ 0x1A ∷ 0x12 ∷ 0x18 ∷ 0x0A ∷ 0x0C ∷ 0xFE ∷ 0xFF ∷ 0xFF ∷ 0xFF ∷ 0xFF ∷ 0xFF ∷ 0xFF ∷ 0xFF ∷ 0xFF ∷ 0x01 ∷ 0x02 ∷ 0x01 ∷ 0x42 ∷ 0x03 ∷ 0x00 ∷ 0x00 ∷ 0x00 ∷ 0x4A ∷ 0x03 ∷ 0x00 ∷ 0x00 ∷ 0x00 ∷ []

abbrev pub nodes_with_info : List ℕ
nodes_with_info = 0x0A ∷ 0x05 ∷ 0x0A ∷ 0x00 ∷ 0x0A ∷ 0x01 ∷ 0x75 ∷ 0x12 ∷ 0x24 ∷ 0x12 ∷ 0x22 ∷ 0x0A ∷ 0x02 ∷ 0x02 ∷ 0x02 ∷ 0x2A ∷ 0x14 ∷ 0x0A ∷ 0x02 ∷ 0x01 ∷ 0x02 ∷ 0x12 ∷ 0x02 ∷ 0x02 ∷ 0x02 ∷ 0x1A ∷ 0x02 ∷ 0x0A ∷ 0x00 ∷ 0x22 ∷ 0x02 ∷ 0x0E ∷ 0x00 ∷ 0x2A ∷ 0x02 ∷ 0x02 ∷ 0x00 ∷ 0x42 ∷ 0x02 ∷ 0x00 ∷ 0x00 ∷ 0x4A ∷ 0x02 ∷ 0x00 ∷ 0x00 ∷ []

abbrev pub visible_dense_nodes : List ℕ
visible_dense_nodes = 0x0A ∷ 0x02 ∷ 0x0A ∷ 0x00 ∷ 0x12 ∷ 0x13 ∷ 0x12 ∷ 0x11 ∷ 0x0A ∷ 0x02 ∷ 0x02 ∷ 0x02 ∷ 0x2A ∷ 0x03 ∷ 0x32 ∷ 0x01 ∷ 0x01 ∷ 0x42 ∷ 0x02 ∷ 0x00 ∷ 0x00 ∷ 0x4A ∷ 0x02 ∷ 0x00 ∷ 0x00 ∷ []

abbrev pub visible_dense_node : List ℕ
visible_dense_node = 0x0A ∷ 0x02 ∷ 0x0A ∷ 0x00 ∷ 0x12 ∷ 0x10 ∷ 0x12 ∷ 0x0E ∷ 0x0A ∷ 0x01 ∷ 0x02 ∷ 0x2A ∷ 0x03 ∷ 0x32 ∷ 0x01 ∷ 0x01 ∷ 0x42 ∷ 0x01 ∷ 0x02 ∷ 0x4A ∷ 0x01 ∷ 0x02 ∷ []

abbrev pub hidden_way : List ℕ
hidden_way = 0x0A ∷ 0x02 ∷ 0x0A ∷ 0x00 ∷ 0x12 ∷ 0x08 ∷ 0x1A ∷ 0x06 ∷ 0x08 ∷ 0x07 ∷ 0x22 ∷ 0x02 ∷ 0x30 ∷ 0x00 ∷ []

abbrev pub plain_node : List ℕ
plain_node = 0x0A ∷ 0x02 ∷ 0x0A ∷ 0x00 ∷ 0x12 ∷ 0x08 ∷ 0x0A ∷ 0x06 ∷ 0x08 ∷ 0x02 ∷ 0x40 ∷ 0x02 ∷ 0x48 ∷ 0x02 ∷ []

abbrev pub plain_node_without_lon : List ℕ
plain_node_without_lon = 0x0A ∷ 0x02 ∷ 0x0A ∷ 0x00 ∷ 0x12 ∷ 0x06 ∷ 0x0A ∷ 0x04 ∷ 0x08 ∷ 0x02 ∷ 0x40 ∷ 0x02 ∷ []

abbrev pub text_table_in_pieces : List ℕ
text_table_in_pieces = 0x0A ∷ 0x02 ∷ 0x0A ∷ 0x01 ∷ 0x0A ∷ 0x01 ∷ 0x61 ∷ []

abbrev pub way_without_id : List ℕ
way_without_id = 0x0A ∷ 0x02 ∷ 0x0A ∷ 0x00 ∷ 0x12 ∷ 0x02 ∷ 0x1A ∷ 0x00 ∷ []

abbrev pub empty : List ℕ
empty = []

abbrev pub one_group : List ℕ
one_group = 0x0A ∷ 0x02 ∷ 0x0A ∷ 0x00 ∷ 0x12 ∷ 0x0E ∷ 0x12 ∷ 0x0C ∷ 0x0A ∷ 0x02 ∷ 0x02 ∷ 0x00 ∷ 0x42 ∷ 0x02 ∷ 0x00 ∷ 0x00 ∷ 0x4A ∷ 0x02 ∷ 0x00 ∷ 0x00 ∷ []

two_nodes_fault : fault two_nodes ≡ None
unfolding fault number_within number_at value_at field_at next_at items_within items_from row_within is_utf8 chars lib.Utf8.encode
two_nodes_fault = refl

tagged_nodes_fault : fault tagged_nodes ≡ None
unfolding fault number_within number_at value_at field_at next_at items_within items_from row_within is_utf8 chars lib.Utf8.encode
tagged_nodes_fault = refl

untagged_nodes_fault : fault untagged_nodes ≡ None
unfolding fault number_within number_at value_at field_at next_at items_within items_from row_within is_utf8 chars lib.Utf8.encode
untagged_nodes_fault = refl

delimiters_alone_fault : fault delimiters_alone ≡ None
unfolding fault number_within number_at value_at field_at next_at items_within items_from row_within is_utf8 chars lib.Utf8.encode
delimiters_alone_fault = refl

no_delimiter_fault : fault no_delimiter ≡ Some faults.TagsUneven
unfolding fault number_within number_at value_at field_at next_at items_within items_from row_within is_utf8 chars lib.Utf8.encode
no_delimiter_fault = refl

one_delimiter_fault : fault one_delimiter ≡ Some faults.TagsUneven
unfolding fault number_within number_at value_at field_at next_at items_within items_from row_within is_utf8 chars lib.Utf8.encode
one_delimiter_fault = refl

way_in_pieces_fault : fault way_in_pieces ≡ None
unfolding fault number_within number_at value_at field_at next_at items_within items_from row_within is_utf8 chars lib.Utf8.encode
way_in_pieces_fault = refl

way_fault : fault way ≡ None
unfolding fault number_within number_at value_at field_at next_at items_within items_from row_within is_utf8 chars lib.Utf8.encode
way_fault = refl

coordinate_over_range_fault : fault coordinate_over_range ≡ Some faults.OutOfRange
unfolding fault number_within number_at value_at field_at next_at items_within items_from row_within is_utf8 chars lib.Utf8.encode
coordinate_over_range_fault = refl

greatest_coordinate_fault : fault greatest_coordinate ≡ None
unfolding fault number_within number_at value_at field_at next_at items_within items_from row_within is_utf8 chars lib.Utf8.encode
greatest_coordinate_fault = refl

widest_ids_fault : fault widest_ids ≡ None
unfolding fault number_within number_at value_at field_at next_at items_within items_from row_within is_utf8 chars lib.Utf8.encode
widest_ids_fault = refl

absent_version_fault : fault absent_version ≡ None
unfolding fault number_within number_at value_at field_at next_at items_within items_from row_within is_utf8 chars lib.Utf8.encode
absent_version_fault = refl

version_in_its_group_fault : fault version_in_its_group ≡ None
unfolding fault number_within number_at value_at field_at next_at items_within items_from row_within is_utf8 chars lib.Utf8.encode
version_in_its_group_fault = refl

relation_fault : fault relation ≡ None
unfolding fault number_within number_at value_at field_at next_at items_within items_from row_within is_utf8 chars lib.Utf8.encode
relation_fault = refl

bad_member_type_fault : fault bad_member_type ≡ Some faults.BadMemberType
unfolding fault number_within number_at value_at field_at next_at items_within items_from row_within is_utf8 chars lib.Utf8.encode
bad_member_type_fault = refl

way_with_info_fault : fault way_with_info ≡ None
unfolding fault number_within number_at value_at field_at next_at items_within items_from row_within is_utf8 chars lib.Utf8.encode
way_with_info_fault = refl

visible_node_fault : fault visible_node ≡ None
unfolding fault number_within number_at value_at field_at next_at items_within items_from row_within is_utf8 chars lib.Utf8.encode
visible_node_fault = refl

two_groups_fault : fault two_groups ≡ None
unfolding fault number_within number_at value_at field_at next_at items_within items_from row_within is_utf8 chars lib.Utf8.encode
two_groups_fault = refl

sum_too_large_fault : fault sum_too_large ≡ Some faults.SumTooLarge
unfolding fault number_within number_at value_at field_at next_at items_within items_from row_within is_utf8 chars lib.Utf8.encode
sum_too_large_fault = refl

nodes_with_info_fault : fault nodes_with_info ≡ None
unfolding fault number_within number_at value_at field_at next_at items_within items_from row_within is_utf8 chars lib.Utf8.encode
nodes_with_info_fault = refl

visible_dense_nodes_fault : fault visible_dense_nodes ≡ Some faults.LengthsDiffer
unfolding fault number_within number_at value_at field_at next_at items_within items_from row_within is_utf8 chars lib.Utf8.encode
visible_dense_nodes_fault = refl

visible_dense_node_fault : fault visible_dense_node ≡ None
unfolding fault number_within number_at value_at field_at next_at items_within items_from row_within is_utf8 chars lib.Utf8.encode
visible_dense_node_fault = refl

hidden_way_fault : fault hidden_way ≡ None
unfolding fault number_within number_at value_at field_at next_at items_within items_from row_within is_utf8 chars lib.Utf8.encode
hidden_way_fault = refl

plain_node_fault : fault plain_node ≡ None
unfolding fault number_within number_at value_at field_at next_at items_within items_from row_within is_utf8 chars lib.Utf8.encode
plain_node_fault = refl

plain_node_without_lon_fault : fault plain_node_without_lon ≡ Some faults.Missing
unfolding fault number_within number_at value_at field_at next_at items_within items_from row_within is_utf8 chars lib.Utf8.encode
plain_node_without_lon_fault = refl

way_without_id_fault : fault way_without_id ≡ Some faults.Missing
unfolding fault number_within number_at value_at field_at next_at items_within items_from row_within is_utf8 chars lib.Utf8.encode
way_without_id_fault = refl

empty_fault : fault empty ≡ Some faults.NoStringTable
unfolding fault number_within number_at value_at field_at next_at items_within items_from row_within is_utf8 chars lib.Utf8.encode
empty_fault = refl

text_table_in_pieces_fault : fault text_table_in_pieces ≡ Some (faults.BlockWire (record { kind = wires.FieldCut; «at» = 0 }))
unfolding fault number_within number_at value_at field_at next_at items_within items_from row_within is_utf8 chars lib.Utf8.encode
text_table_in_pieces_fault = refl

two_nodes_front_0 : fault (take 0 two_nodes) ≡ Some faults.NoStringTable
unfolding fault number_within number_at value_at field_at next_at items_within items_from row_within is_utf8 chars lib.Utf8.encode
two_nodes_front_0 = refl

two_nodes_front_1 : fault (take 1 two_nodes) ≡ Some (faults.BlockWire (record { kind = wires.NumberCut; «at» = 0 }))
unfolding fault number_within number_at value_at field_at next_at items_within items_from row_within is_utf8 chars lib.Utf8.encode
two_nodes_front_1 = refl

two_nodes_front_2 : fault (take 2 two_nodes) ≡ Some (faults.BlockWire (record { kind = wires.FieldCut; «at» = 0 }))
unfolding fault number_within number_at value_at field_at next_at items_within items_from row_within is_utf8 chars lib.Utf8.encode
two_nodes_front_2 = refl

two_nodes_front_3 : fault (take 3 two_nodes) ≡ Some (faults.BlockWire (record { kind = wires.FieldCut; «at» = 0 }))
unfolding fault number_within number_at value_at field_at next_at items_within items_from row_within is_utf8 chars lib.Utf8.encode
two_nodes_front_3 = refl

two_nodes_front_4 : fault (take 4 two_nodes) ≡ None
unfolding fault number_within number_at value_at field_at next_at items_within items_from row_within is_utf8 chars lib.Utf8.encode
two_nodes_front_4 = refl

two_nodes_front_5 : fault (take 5 two_nodes) ≡ Some (faults.BlockWire (record { kind = wires.NumberCut; «at» = 4 }))
unfolding fault number_within number_at value_at field_at next_at items_within items_from row_within is_utf8 chars lib.Utf8.encode
two_nodes_front_5 = refl

two_nodes_front_6 : fault (take 6 two_nodes) ≡ Some (faults.BlockWire (record { kind = wires.FieldCut; «at» = 4 }))
unfolding fault number_within number_at value_at field_at next_at items_within items_from row_within is_utf8 chars lib.Utf8.encode
two_nodes_front_6 = refl

two_nodes_front_7 : fault (take 7 two_nodes) ≡ Some (faults.BlockWire (record { kind = wires.FieldCut; «at» = 4 }))
unfolding fault number_within number_at value_at field_at next_at items_within items_from row_within is_utf8 chars lib.Utf8.encode
two_nodes_front_7 = refl

two_nodes_front_8 : fault (take 8 two_nodes) ≡ Some (faults.BlockWire (record { kind = wires.FieldCut; «at» = 4 }))
unfolding fault number_within number_at value_at field_at next_at items_within items_from row_within is_utf8 chars lib.Utf8.encode
two_nodes_front_8 = refl

two_nodes_front_9 : fault (take 9 two_nodes) ≡ Some (faults.BlockWire (record { kind = wires.FieldCut; «at» = 4 }))
unfolding fault number_within number_at value_at field_at next_at items_within items_from row_within is_utf8 chars lib.Utf8.encode
two_nodes_front_9 = refl

two_nodes_front_10 : fault (take 10 two_nodes) ≡ Some (faults.BlockWire (record { kind = wires.FieldCut; «at» = 4 }))
unfolding fault number_within number_at value_at field_at next_at items_within items_from row_within is_utf8 chars lib.Utf8.encode
two_nodes_front_10 = refl

two_nodes_front_11 : fault (take 11 two_nodes) ≡ Some (faults.BlockWire (record { kind = wires.FieldCut; «at» = 4 }))
unfolding fault number_within number_at value_at field_at next_at items_within items_from row_within is_utf8 chars lib.Utf8.encode
two_nodes_front_11 = refl

two_nodes_front_12 : fault (take 12 two_nodes) ≡ Some (faults.BlockWire (record { kind = wires.FieldCut; «at» = 4 }))
unfolding fault number_within number_at value_at field_at next_at items_within items_from row_within is_utf8 chars lib.Utf8.encode
two_nodes_front_12 = refl

two_nodes_front_13 : fault (take 13 two_nodes) ≡ Some (faults.BlockWire (record { kind = wires.FieldCut; «at» = 4 }))
unfolding fault number_within number_at value_at field_at next_at items_within items_from row_within is_utf8 chars lib.Utf8.encode
two_nodes_front_13 = refl

two_nodes_front_14 : fault (take 14 two_nodes) ≡ Some (faults.BlockWire (record { kind = wires.FieldCut; «at» = 4 }))
unfolding fault number_within number_at value_at field_at next_at items_within items_from row_within is_utf8 chars lib.Utf8.encode
two_nodes_front_14 = refl

two_nodes_front_15 : fault (take 15 two_nodes) ≡ Some (faults.BlockWire (record { kind = wires.FieldCut; «at» = 4 }))
unfolding fault number_within number_at value_at field_at next_at items_within items_from row_within is_utf8 chars lib.Utf8.encode
two_nodes_front_15 = refl

two_nodes_front_16 : fault (take 16 two_nodes) ≡ Some (faults.BlockWire (record { kind = wires.FieldCut; «at» = 4 }))
unfolding fault number_within number_at value_at field_at next_at items_within items_from row_within is_utf8 chars lib.Utf8.encode
two_nodes_front_16 = refl

two_nodes_front_17 : fault (take 17 two_nodes) ≡ Some (faults.BlockWire (record { kind = wires.FieldCut; «at» = 4 }))
unfolding fault number_within number_at value_at field_at next_at items_within items_from row_within is_utf8 chars lib.Utf8.encode
two_nodes_front_17 = refl

two_nodes_front_18 : fault (take 18 two_nodes) ≡ Some (faults.BlockWire (record { kind = wires.FieldCut; «at» = 4 }))
unfolding fault number_within number_at value_at field_at next_at items_within items_from row_within is_utf8 chars lib.Utf8.encode
two_nodes_front_18 = refl

two_nodes_front_19 : fault (take 19 two_nodes) ≡ Some (faults.BlockWire (record { kind = wires.FieldCut; «at» = 4 }))
unfolding fault number_within number_at value_at field_at next_at items_within items_from row_within is_utf8 chars lib.Utf8.encode
two_nodes_front_19 = refl

two_nodes_front_20 : fault (take 20 two_nodes) ≡ None
unfolding fault number_within number_at value_at field_at next_at items_within items_from row_within is_utf8 chars lib.Utf8.encode
two_nodes_front_20 = refl
