-- What the calls over a block answer: a status, and what they wrote.
use Rattle.std.specs.Prelude.{◌≡◌, ◌⊎◌, ℕ, List, Some, false}
use Rattle.osm_value.specs.declared.element.Element.{Element}
use Rattle.osm_value.specs.Value.{Text}
use Rattle.osm_block.specs.declared.fault.BlockFault.{BlockFault}
use Rattle.osm_block.specs.Fault.{number_of}
use Rattle.osm_block.specs.Phases.{fault}
use Rattle.osm_block.specs.Block.{Block}
use Rattle.osm_block.specs.Groups.{GroupsHold}
use Rattle.osm_columns.specs.declared.counts.Counts.{Counts}
use Rattle.osm_columns.specs.declared.columns.Columns.{Columns}
use Rattle.osm_columns.specs.Columns.{IsSurveyOf, AreCounts, columns_fit, HoldsColumns}
use Rattle.pbfrow_c.specs.declared.block.Reading.{Reading}

-- the groups of the block w hold its elements, and what is known of these
pub record IsReading (w : List ℕ) (r : Reading) : Type 0 where
  pub elements : List Element
  pub elements_are : Block elements w
  pub groups_hold : GroupsHold r.groups elements
  pub survey_is : IsSurveyOf r.survey r.groups

-- the status where there are no elements: memory was refused, or it is the block's first fault
abbrev pub Refused : List ℕ → ℕ → Type 0
Refused w n = (n ≡ 65) ⊎ ((f : BlockFault) × (fault w ≡ Some f) × (n ≡ number_of f))

-- The block says some elements, of which these are the counts; or nothing is written.
abbrev pub CountsAnswer : List ℕ → Counts → Counts → ℕ → Type 0
CountsAnswer w old new n =
    ((n ≡ 0) × ((es : List Element) × (texts : List Text) × Block es w × AreCounts new es texts))
    ⊎ (Refused w n × (new ≡ old))

-- The block says some elements, and these are their counts and columns; an array is too short, 72, and none has changed; or nothing is written.
abbrev pub ColumnsAnswer : List ℕ → Counts → Counts → Columns → Columns → ℕ → Type 0
ColumnsAnswer w counts counted old new n =
    ((n ≡ 0) × ((es : List Element) × (texts : List Text) × Block es w × AreCounts counted es texts × HoldsColumns es texts old new))
    ⊎ (((n ≡ 72) × (new ≡ old) × (columns_fit counted old ≡ false) × ((es : List Element) × (texts : List Text) × Block es w × AreCounts counted es texts))
    ⊎ (Refused w n × (counted ≡ counts) × (new ≡ old)))
