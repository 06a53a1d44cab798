-- The fault and the parts of some header blocks, computed.
use Rattle.std.specs.Prelude.{◌≡◌, ℕ, List, [], ◌∷◌, refl, Some, None, codes, pos, negsuc}
use Rattle.std.specs.Str.{is_utf8, chars}
use lib.Utf8
use Rattle.osm_block.specs.declared.header.fault.HeaderFault.TheVariants as faults
use Rattle.pbf_wire.specs.declared.fault.WireFaultKind.TheVariants as wires
use Rattle.pbf_wire.specs.Number.{number_within, number_at}
use Rattle.pbf_wire.specs.Field.{value_at, field_at, next_at}
use Rattle.pbf_wire.specs.FieldList.{items_within, items_from}
use Rattle.pbf_wire.specs.Readings.{fields, row_within}
use Rattle.osm_block.specs.HeaderBlock.{HeaderValue, header_value, header_fault}

-- nothing
abbrev pub nothing : HeaderValue
nothing = record { bbox = None; required = []; optional = []; program = None; source = None; timestamp = None; sequence = None; url = None }

-- the header block of a file of plain features
abbrev pub two_features : List ℕ
two_features = 0x22 ∷ 0x0E ∷ 0x4F ∷ 0x73 ∷ 0x6D ∷ 0x53 ∷ 0x63 ∷ 0x68 ∷ 0x65 ∷ 0x6D ∷ 0x61 ∷ 0x2D ∷ 0x56 ∷ 0x30 ∷ 0x2E ∷ 0x36 ∷ 0x22 ∷ 0x0A ∷ 0x44 ∷ 0x65 ∷ 0x6E ∷ 0x73 ∷ 0x65 ∷ 0x4E ∷ 0x6F ∷ 0x64 ∷ 0x65 ∷ 0x73 ∷ []

-- and of one with history
abbrev pub three_features : List ℕ
three_features = 0x22 ∷ 0x0E ∷ 0x4F ∷ 0x73 ∷ 0x6D ∷ 0x53 ∷ 0x63 ∷ 0x68 ∷ 0x65 ∷ 0x6D ∷ 0x61 ∷ 0x2D ∷ 0x56 ∷ 0x30 ∷ 0x2E ∷ 0x36 ∷ 0x22 ∷ 0x0A ∷ 0x44 ∷ 0x65 ∷ 0x6E ∷ 0x73 ∷ 0x65 ∷ 0x4E ∷ 0x6F ∷ 0x64 ∷ 0x65 ∷ 0x73 ∷ 0x22 ∷ 0x15 ∷ 0x48 ∷ 0x69 ∷ 0x73 ∷ 0x74 ∷ 0x6F ∷ 0x72 ∷ 0x69 ∷ 0x63 ∷ 0x61 ∷ 0x6C ∷ 0x49 ∷ 0x6E ∷ 0x66 ∷ 0x6F ∷ 0x72 ∷ 0x6D ∷ 0x61 ∷ 0x74 ∷ 0x69 ∷ 0x6F ∷ 0x6E ∷ []

abbrev pub box : List ℕ
box = 0x0A ∷ 0x08 ∷ 0x08 ∷ 0x01 ∷ 0x10 ∷ 0x02 ∷ 0x18 ∷ 0x04 ∷ 0x20 ∷ 0x03 ∷ []

-- a box in two payloads
abbrev pub box_in_two : List ℕ
box_in_two = 0x0A ∷ 0x04 ∷ 0x08 ∷ 0x01 ∷ 0x10 ∷ 0x02 ∷ 0x0A ∷ 0x04 ∷ 0x18 ∷ 0x04 ∷ 0x20 ∷ 0x03 ∷ []

abbrev pub half_box : List ℕ
half_box = 0x0A ∷ 0x02 ∷ 0x08 ∷ 0x02 ∷ []

abbrev pub cut_box : List ℕ
cut_box = 0x0A ∷ 0x01 ∷ 0x08 ∷ []

abbrev pub bad_text : List ℕ
bad_text = 0x82 ∷ 0x01 ∷ 0x01 ∷ 0xFF ∷ []

abbrev pub unknown : List ℕ
unknown = 0x22 ∷ 0x03 ∷ 0x41 ∷ 0x42 ∷ 0x43 ∷ []

abbrev pub stamped : List ℕ
stamped = 0x80 ∷ 0x02 ∷ 0x05 ∷ []

empty_fault : header_fault [] ≡ None
unfolding header_fault number_within number_at value_at field_at next_at items_within items_from row_within is_utf8 chars lib.Utf8.encode
empty_fault = refl

empty_value : header_value (fields []) ≡ nothing
unfolding number_within number_at value_at field_at next_at items_within items_from row_within
empty_value = refl

two_features_fault : header_fault two_features ≡ None
unfolding header_fault number_within number_at value_at field_at next_at items_within items_from row_within is_utf8 chars lib.Utf8.encode
two_features_fault = refl

two_features_value : header_value (fields two_features) ≡ record nothing { required = codes "OsmSchema-V0.6" ∷ codes "DenseNodes" ∷ [] }
unfolding number_within number_at value_at field_at next_at items_within items_from row_within
two_features_value = refl

three_features_fault : header_fault three_features ≡ None
unfolding header_fault number_within number_at value_at field_at next_at items_within items_from row_within is_utf8 chars lib.Utf8.encode
three_features_fault = refl

three_features_value : header_value (fields three_features) ≡ record nothing { required = codes "OsmSchema-V0.6" ∷ codes "DenseNodes" ∷ codes "HistoricalInformation" ∷ [] }
unfolding number_within number_at value_at field_at next_at items_within items_from row_within
three_features_value = refl

box_fault : header_fault box ≡ None
unfolding header_fault number_within number_at value_at field_at next_at items_within items_from row_within is_utf8 chars lib.Utf8.encode
box_fault = refl

box_value : header_value (fields box) ≡ record nothing { bbox = Some (record { left = negsuc 0; right = pos 1; top = pos 2; bottom = negsuc 1 }) }
unfolding number_within number_at value_at field_at next_at items_within items_from row_within
box_value = refl

box_in_two_fault : header_fault box_in_two ≡ None
unfolding header_fault number_within number_at value_at field_at next_at items_within items_from row_within is_utf8 chars lib.Utf8.encode
box_in_two_fault = refl

half_box_fault : header_fault half_box ≡ Some faults.BBoxIncomplete
unfolding header_fault number_within number_at value_at field_at next_at items_within items_from row_within is_utf8 chars lib.Utf8.encode
half_box_fault = refl

cut_box_fault : header_fault cut_box ≡ Some (faults.HeaderBlockWire (record { kind = wires.NumberCut; «at» = 0 }))
unfolding header_fault number_within number_at value_at field_at next_at items_within items_from row_within is_utf8 chars lib.Utf8.encode
cut_box_fault = refl

bad_text_fault : header_fault bad_text ≡ Some faults.HeaderTextNotUtf8
unfolding header_fault number_within number_at value_at field_at next_at items_within items_from row_within is_utf8 chars lib.Utf8.encode
bad_text_fault = refl

unknown_fault : header_fault unknown ≡ Some (faults.UnknownFeature 0)
unfolding header_fault number_within number_at value_at field_at next_at items_within items_from row_within is_utf8 chars lib.Utf8.encode
unknown_fault = refl

stamped_fault : header_fault stamped ≡ None
unfolding header_fault number_within number_at value_at field_at next_at items_within items_from row_within is_utf8 chars lib.Utf8.encode
stamped_fault = refl

stamped_value : header_value (fields stamped) ≡ record nothing { timestamp = Some (pos 5) }
unfolding number_within number_at value_at field_at next_at items_within items_from row_within
stamped_value = refl
