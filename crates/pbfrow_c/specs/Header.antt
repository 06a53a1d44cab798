-- What is told of a header block.
use Rattle.std.specs.Prelude.{◌≡◌, ◌⊎◌, ℕ, ℤ, pos, List, [], ◌∷◌, ◌++◌, length, Option, Some, None, unwrap_or, false}
use Rattle.osm_value.specs.Value.{Text}
use Rattle.osm_block.specs.declared.header.BBox.{BBox}
use Rattle.osm_block.specs.HeaderBlock.{HeaderValue}
use Rattle.osm_columns.specs.declared.columns.TextColumn.{TextColumn}
use Rattle.osm_columns.specs.Lists.{joined}
use Rattle.osm_columns.specs.Columns.{texts_fit, HoldsTexts}
use Rattle.pbfrow_c.specs.declared.header.HeaderValues.{HeaderValues}

-- a text that is there
abbrev pub listed : Option Text → List Text
listed (Some text) = text ∷ []
listed None = []

-- its texts: the required features, the optional ones, the program, the source and the URL
abbrev pub texts_of : HeaderValue → List Text
texts_of h = h.required ++ h.optional ++ listed h.program ++ listed h.source ++ listed h.url

abbrev pub number_or_0 : Option ℤ → ℤ
number_or_0 n = unwrap_or n (pos 0)

abbrev pub box_or_0 : Option BBox → BBox
box_or_0 box = unwrap_or box (record { left = pos 0; right = pos 0; top = pos 0; bottom = pos 0 })

abbrev pub flag_of : {A : Type 0} → Option A → ℕ
flag_of (Some x) = 1
flag_of None = 0

-- its numbers, and how many texts there are
abbrev pub values_of : HeaderValue → HeaderValues
values_of h = record {
  left = (box_or_0 h.bbox).left;
  right = (box_or_0 h.bbox).right;
  top = (box_or_0 h.bbox).top;
  bottom = (box_or_0 h.bbox).bottom;
  timestamp = number_or_0 h.timestamp;
  sequence = number_or_0 h.sequence;
  required = length h.required;
  optional = length h.optional;
  texts = length (texts_of h);
  text_bytes = length (joined (texts_of h));
  has_bbox = flag_of h.bbox;
  has_timestamp = flag_of h.timestamp;
  has_sequence = flag_of h.sequence;
  has_program = flag_of h.program;
  has_source = flag_of h.source;
  has_url = flag_of h.url;
}

-- What is answered of a header block without a fault: it is told; or an array is too short, and the texts aren't
-- written; or memory was refused, and nothing is.
abbrev pub IsTold : HeaderValue → HeaderValues → HeaderValues → TextColumn → TextColumn → ℕ → Type 0
IsTold h header told old new n =
    ((n ≡ 0) × (told ≡ values_of h) × HoldsTexts (texts_of h) old new)
    ⊎ (((n ≡ 72) × (told ≡ values_of h) × (texts_fit told.texts told.text_bytes old ≡ false) × (new ≡ old))
    ⊎ ((n ≡ 65) × (told ≡ header) × (new ≡ old)))
