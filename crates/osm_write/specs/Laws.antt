-- What the canonical block of a list promises to its readers.
use Rattle.std.specs.Prelude.{◌≡◌, ℕ, ◌-◌, ◌^◌, ◌<◌, ◌≤◌, List, [], ◌∷◌, length, None, Result, Ok, Err}
use Rattle.std.specs.List.{AllByRecursion, flat_map}
use Rattle.osm_value.specs.declared.element.Element.{Element}
use Rattle.osm_value.specs.Elements.{IsElement}
use Rattle.osm_block.specs.Block.{Block}
use Rattle.osm_block.specs.Phases.{fault}
use Rattle.osm_block.specs.declared.fault.BlockError.{BlockError}
use Rattle.osm_block.specs.declared.fault.BlockError.TheVariants.{Memory, Fault}
use Rattle.osm_write.specs.declared.block.TheConstants.{MAX_BLOCK_LEN}
use Rattle.osm_write.specs.Canon.{first_uses, texts_of, canon}

-- fewer than 2^31 - 1 different texts: the index of each fits a number of 32 bits
abbrev pub FewTexts : List Element → Type 0
FewTexts es = length (first_uses (flat_map texts_of es)) < 2 ^ 31 - 1

-- the canonical block says these elements
abbrev pub ReadsBack : List Element → Type 0
ReadsBack es = AllByRecursion IsElement es → FewTexts es → length (canon es) < 2 ^ 64 → Block es (canon es)

-- the canonical block says these elements and no others
abbrev pub IsReadOnly : List Element → Type 0
IsReadOnly es = (fs : List Element) → AllByRecursion IsElement es → FewTexts es → length (canon es) < 2 ^ 64 → Block fs (canon es) → fs ≡ es

-- the block of a list is at least as long as that of its first element alone
abbrev pub FirstIsNoLonger : Element → List Element → Type 0
FirstIsNoLonger e es = IsElement e → length (canon (e ∷ [])) ≤ length (canon (e ∷ es))

-- the block that is given for elements inside their ranges: their canonical one, which fits a raw payload
abbrev pub IsGiven : List Element → List ℕ → Type 0
IsGiven es block = AllByRecursion IsElement es × (block ≡ canon es) × (length block ≤ MAX_BLOCK_LEN)

-- the block has no fault, and says these elements and no others
abbrev pub SaysAlone : List Element → List ℕ → Type 0
SaysAlone es block = (fault block ≡ None) × Block es block × ((fs : List Element) → Block fs block → fs ≡ es)

-- the answer is these elements, unless memory ran out
abbrev pub AnswersThem : List Element → Result (List Element) BlockError → Type 0
AnswersThem es (Ok fs) = fs ≡ es
AnswersThem es (Err Memory) = Unit {0}
AnswersThem es (Err (Fault other)) = ⊥
