-- What was found in a blob: elements and a header block, or a fault.
use Rattle.std.specs.Prelude.{◌≡◌, ℕ, Bool, List, Option, Result, Ok, Err, is_ok}
use Rattle.std.specs.List.{list_all}
use Rattle.osm_value.specs.declared.element.Element.{Element}
use Rattle.pbf_frame.specs.Frame.{kind_of}
use Rattle.osm_block.specs.HeaderBlock.{HeaderValue}
use Rattle.osm_reading.specs.Good.{IsGood, HasHeader}
use Rattle.osm_reading.specs.Bad.{IsBad}
use Rattle.osm_reading.specs.declared.fault.Fault.{Fault}
use Rattle.pbfrow_reading.specs.Walks.{Part, IsWholeFrame}

-- what a good blob holds
pub record Content : Type 0 where
  pub elements : List Element
  pub header : Option HeaderValue

abbrev pub Verdict : Type 0
Verdict = Result Content Fault

-- the bytes at an offset, a frame of this type and with this blob, are good and hold this, or are bad by this fault
abbrev pub IsVerdict : ℕ → List ℕ → List ℕ → List ℕ → Verdict → Type 0
IsVerdict at type blob w (Ok content) = IsGood at w (kind_of type) content.elements × HasHeader (kind_of type) blob content.header
IsVerdict at type blob w (Err fault) = IsBad at w fault

-- a frame with its verdict
abbrev pub Judged : Type 0
Judged = Part Verdict

abbrev pub HasVerdict : ℕ → Judged → Type 0
HasVerdict at p = IsVerdict at p.type_name p.blob p.bytes p.found

-- it is the frame that these bytes are
abbrev pub IsJudged : ℕ → List ℕ → Judged → Type 0
IsJudged at w p = (p.bytes ≡ w) × IsWholeFrame p × HasVerdict at p

abbrev pub all_good : List Judged → Bool
all_good blobs = list_all (λ p. is_ok p.found) blobs
