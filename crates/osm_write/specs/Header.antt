-- The header block that is written (osmformat.proto, HeaderBlock; OpenStreetMap Wiki, "PBF Format", "Definition of the OSMHeader fileblock").
use Rattle.std.specs.Prelude.{◌≡◌, ℕ, List, [], ◌∷◌, ◌++◌, codes, Bool, true, false, if◌then◌else◌, None, Some, refl}
use Rattle.std.specs.List.{flat_map}
use Rattle.std.specs.Str.{is_utf8, chars}
use lib.Utf8
use Rattle.osm_value.specs.Value.{Text}
use Rattle.pbf_wire.specs.Number.{number_within, number_at}
use Rattle.pbf_wire.specs.Field.{value_at, field_at, next_at}
use Rattle.pbf_wire.specs.FieldList.{items_within, items_from}
use Rattle.pbf_wire.specs.Readings.{fields}
use Rattle.pbf_wire.specs.Write.{shortest_within, shortest}
use Rattle.osm_block.specs.declared.fields.TheConstants.{HEADER_REQUIRED_FEATURES, HEADER_WRITINGPROGRAM}
use Rattle.osm_block.specs.HeaderBlock.{HeaderValue, header_value, header_fault}
use Rattle.osm_write.specs.Canon.{bytes_field}

-- what a reader of the file has to know
abbrev pub features : Bool → List Text
features history = codes "OsmSchema-V0.6" ∷ codes "DenseNodes" ∷ (if history then codes "HistoricalInformation" ∷ [] else [])

abbrev pub program : Text
program = codes "pbfrow"

-- the required features, and then the writing program
unfoldable pub header_block : Bool → List ℕ
header_block history = flat_map (bytes_field HEADER_REQUIRED_FEATURES) (features history) ++ bytes_field HEADER_WRITINGPROGRAM program

-- what a header block says that has features and a program alone
abbrev pub written_value : Bool → HeaderValue
written_value history = record {
  bbox = None;
  required = features history;
  optional = [];
  program = Some program;
  source = None;
  timestamp = None;
  sequence = None;
  url = None;
}

-- The bytes of a header block without history, computed.
abbrev pub plain_header : List ℕ
plain_header = 0x22 ∷ 0x0E ∷ 0x4F ∷ 0x73 ∷ 0x6D ∷ 0x53 ∷ 0x63 ∷ 0x68 ∷ 0x65 ∷ 0x6D ∷ 0x61 ∷ 0x2D ∷ 0x56 ∷ 0x30 ∷ 0x2E ∷ 0x36 ∷ 0x22 ∷ 0x0A ∷ 0x44 ∷ 0x65 ∷ 0x6E ∷ 0x73 ∷ 0x65 ∷ 0x4E ∷ 0x6F ∷ 0x64 ∷ 0x65 ∷ 0x73
    ∷ 0x82 ∷ 0x01 ∷ 0x06 ∷ 0x70 ∷ 0x62 ∷ 0x66 ∷ 0x72 ∷ 0x6F ∷ 0x77 ∷ []

pub plain_header_is : header_block false ≡ plain_header
unfolding header_block shortest_within shortest
plain_header_is = refl

pub plain_header_fault : header_fault plain_header ≡ None
unfolding header_fault number_within number_at value_at field_at next_at items_within items_from is_utf8 chars lib.Utf8.encode
plain_header_fault = refl

pub plain_header_value : header_value (fields plain_header) ≡ written_value false
unfolding number_within number_at value_at field_at next_at items_within items_from
plain_header_value = refl

-- The bytes of a header block with history, computed.
abbrev pub historic_header : List ℕ
historic_header = 0x22 ∷ 0x0E ∷ 0x4F ∷ 0x73 ∷ 0x6D ∷ 0x53 ∷ 0x63 ∷ 0x68 ∷ 0x65 ∷ 0x6D ∷ 0x61 ∷ 0x2D ∷ 0x56 ∷ 0x30 ∷ 0x2E ∷ 0x36 ∷ 0x22 ∷ 0x0A ∷ 0x44 ∷ 0x65 ∷ 0x6E ∷ 0x73 ∷ 0x65 ∷ 0x4E ∷ 0x6F ∷ 0x64 ∷ 0x65 ∷ 0x73
    ∷ 0x22 ∷ 0x15 ∷ 0x48 ∷ 0x69 ∷ 0x73 ∷ 0x74 ∷ 0x6F ∷ 0x72 ∷ 0x69 ∷ 0x63 ∷ 0x61 ∷ 0x6C ∷ 0x49 ∷ 0x6E ∷ 0x66 ∷ 0x6F ∷ 0x72 ∷ 0x6D ∷ 0x61 ∷ 0x74 ∷ 0x69 ∷ 0x6F ∷ 0x6E
    ∷ 0x82 ∷ 0x01 ∷ 0x06 ∷ 0x70 ∷ 0x62 ∷ 0x66 ∷ 0x72 ∷ 0x6F ∷ 0x77 ∷ []

pub historic_header_is : header_block true ≡ historic_header
unfolding header_block shortest_within shortest
historic_header_is = refl

pub historic_header_fault : header_fault historic_header ≡ None
unfolding header_fault number_within number_at value_at field_at next_at items_within items_from is_utf8 chars lib.Utf8.encode
historic_header_fault = refl

pub historic_header_value : header_value (fields historic_header) ≡ written_value true
unfolding number_within number_at value_at field_at next_at items_within items_from
historic_header_value = refl
