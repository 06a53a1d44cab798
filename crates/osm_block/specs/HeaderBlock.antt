-- What a header block says (osmformat.proto, HeaderBlock and HeaderBBox; OpenStreetMap Wiki, "PBF Format", "Definition of the OSMHeader fileblock").
use Rattle.std.specs.Prelude.{◌≡◌, Result, Ok, Err, ℕ, ℤ, List, [], ◌∷◌, ◌++◌, map, codes, Option, Some, None, option_map, is_none, Bool, true, false, not, ◌&&◌, ◌||◌}
use Rattle.std.specs.List.{list_all, position}
use Rattle.std.specs.Str.{bytes_eq, is_utf8}
use Rattle.osm_value.specs.Value.{Text}
use Rattle.pbf_wire.specs.Field.{Entry}
use Rattle.pbf_wire.specs.FieldList.{last_or}
use Rattle.pbf_wire.specs.Readings.{fields, wire, int64, sint64, last, each, sub, is_there}
use Rattle.osm_block.specs.declared.fields.TheConstants.{BBOX_BOTTOM, BBOX_LEFT, BBOX_RIGHT, BBOX_TOP, HEADER_BBOX, HEADER_OPTIONAL_FEATURES, HEADER_REPLICATION_BASE_URL, HEADER_REPLICATION_SEQUENCE_NUMBER, HEADER_REPLICATION_TIMESTAMP, HEADER_REQUIRED_FEATURES, HEADER_SOURCE, HEADER_WRITINGPROGRAM}
use Rattle.osm_block.specs.declared.header.BBox.{BBox}
use Rattle.osm_block.specs.declared.header.fault.HeaderFault.{HeaderFault}
use Rattle.osm_block.specs.declared.header.fault.HeaderFault.TheVariants as faults

-- the number of each fault of a header block
abbrev pub number_of : HeaderFault → ℕ
number_of (faults.HeaderBlockWire fault) = 30
number_of faults.BBoxIncomplete = 31
number_of faults.HeaderTextNotUtf8 = 32
number_of (faults.UnknownFeature index) = 33

-- its name
abbrev pub name_of : HeaderFault → List ℕ
name_of (faults.HeaderBlockWire fault) = codes "HeaderBlockWire"
name_of faults.BBoxIncomplete = codes "BBoxIncomplete"
name_of faults.HeaderTextNotUtf8 = codes "HeaderTextNotUtf8"
name_of (faults.UnknownFeature index) = codes "UnknownFeature"

-- ---- what it says

-- the sides of a box, where all four are there
abbrev pub box_of_sides : Option ℤ → Option ℤ → Option ℤ → Option ℤ → Option BBox
box_of_sides (Some left) (Some right) (Some top) (Some bottom) = Some (record { left = left; right = right; top = top; bottom = bottom })
box_of_sides _ _ _ _ = None

abbrev pub side : List Entry → ℕ → Option ℤ
side fs k = option_map sint64 (last fs k)

abbrev pub box_of : List Entry → Option BBox
box_of fs = box_of_sides (side fs BBOX_LEFT) (side fs BBOX_RIGHT) (side fs BBOX_TOP) (side fs BBOX_BOTTOM)

-- the last payload counts
abbrev pub last_text : List Entry → ℕ → Option Text
last_text fs k = last_or None (each fs k)

pub record HeaderValue : Type 0 where
  pub bbox : Option BBox
  pub required : List Text
  pub optional : List Text
  pub program : Option Text
  pub source : Option Text
  pub timestamp : Option ℤ
  pub sequence : Option ℤ
  pub url : Option Text

-- The parts of a header block. A box that occurs several times is one.
abbrev pub header_value : List Entry → HeaderValue
header_value fs = record {
  bbox = box_of (sub fs HEADER_BBOX);
  required = each fs HEADER_REQUIRED_FEATURES;
  optional = each fs HEADER_OPTIONAL_FEATURES;
  program = last_text fs HEADER_WRITINGPROGRAM;
  source = last_text fs HEADER_SOURCE;
  timestamp = option_map int64 (last fs HEADER_REPLICATION_TIMESTAMP);
  sequence = option_map int64 (last fs HEADER_REPLICATION_SEQUENCE_NUMBER);
  url = last_text fs HEADER_REPLICATION_BASE_URL;
}

-- ---- which fault it is refused with: the first phase that stands, in this order

abbrev pub Phase : Type 0
Phase = Option HeaderFault

abbrev pub when : Bool → HeaderFault → Phase
when true fault = Some fault
when false fault = None

abbrev pub first : List Phase → Phase
first [] = None
first (None ∷ phases) = first phases
first (Some fault ∷ phases) = Some fault

-- why a payload is no field list
abbrev pub wire_phase : List ℕ → Phase
wire_phase w = option_map faults.HeaderBlockWire (wire w)

-- a box is there, and one of its sides isn't
abbrev pub is_incomplete : List Entry → Bool
is_incomplete fs = is_there (each fs HEADER_BBOX) && is_none (box_of (sub fs HEADER_BBOX))

-- all texts of these fields are UTF-8
abbrev pub are_texts : List Entry → Bool
are_texts fs = list_all (λ k. list_all is_utf8 (each fs k)) (HEADER_REQUIRED_FEATURES ∷ HEADER_OPTIONAL_FEATURES ∷ HEADER_WRITINGPROGRAM ∷ HEADER_SOURCE ∷ HEADER_REPLICATION_BASE_URL ∷ [])

-- the features that a reader of this form has
abbrev pub is_known : Text → Bool
is_known feature = bytes_eq feature (codes "OsmSchema-V0.6") || bytes_eq feature (codes "DenseNodes") || bytes_eq feature (codes "HistoricalInformation")

-- the first required feature that isn't known, by its index
abbrev pub unknown_feature : List Text → Option ℕ
unknown_feature features = position (λ f. not (is_known f)) features

abbrev pub header_phases : List ℕ → List Phase
header_phases w = let fs = fields w in
    wire_phase w
    ∷ map wire_phase (each fs HEADER_BBOX)
    ++ when (is_incomplete fs) faults.BBoxIncomplete
    ∷ when (not (are_texts fs)) faults.HeaderTextNotUtf8
    ∷ option_map faults.UnknownFeature (unknown_feature (each fs HEADER_REQUIRED_FEATURES))
    ∷ []

-- the first fault of a header block, if it has one
unfoldable pub header_fault : List ℕ → Option HeaderFault
header_fault w = first (header_phases w)

-- what a call answers for such a phase
abbrev pub Answers : {A : Type 0} → Phase → Result A HeaderFault → Type 0
Answers phase (Ok x) = phase ≡ None
Answers phase (Err fault) = phase ≡ Some fault
