-- How a list of elements is cut into blocks: the next 8,000 elements, or all that are left, and half as many while their block is too large.
use Rattle.std.specs.Prelude.{◌≡◌, ℕ, ◌/◌, ◌<◌, ◌≤◌, List, [], length, take, drop, min, Option, Some, None}
use Rattle.osm_value.specs.declared.element.Element.{Element}
use Rattle.osm_write.specs.declared.block.TheConstants.{MAX_BLOCK_LEN}
use Rattle.osm_write.specs.declared.fault.WriteFault.{WriteFault}
use Rattle.osm_write.specs.declared.fault.WriteFault.TheVariants.{BlockTooLarge, Memory}
use Rattle.std.specs.Prelude.{Vec}
use Rattle.osm_write.specs.Canon.{canon}

abbrev pub is_too_large : List Element → ℕ → Type 0
is_too_large es count = MAX_BLOCK_LEN < length (canon (take count es))

-- the block of the first element alone isn't too large
abbrev pub FirstFits : List Element → Type 0
FirstFits es = length (canon (take 1 es)) ≤ MAX_BLOCK_LEN

-- `count` came from `from` by halving, and the block of each number before it is too large
pub data Halved (es : List Element) : ℕ → ℕ → Type 0 where
  Start : (count : ℕ) → Halved es count count
  Half : (start count : ℕ) → Halved es start count → is_too_large es count → Halved es start (count / 2)

abbrev pub first_count : List Element → ℕ
first_count es = min (length es) 8000

-- the block has the first of these counts whose block isn't too large
pub record StepOk (es : List Element) (block : List ℕ) (count : ℕ) : Type 0 where
  pub some : 1 ≤ count
  pub within : count ≤ length es
  pub halved : Halved es (first_count es) count
  pub block_is : block ≡ canon (take count es)
  pub fits : length block ≤ MAX_BLOCK_LEN

-- halving came to the first element alone, and its block is too large, too
abbrev pub ComesToOne : List Element → Type 0
ComesToOne es = Halved es (first_count es) 1 × is_too_large es 1

-- Why a cutter gives no block: that of the next element alone is too large, or memory was refused.
abbrev pub StepErr : List Element → WriteFault → Type 0
StepErr es BlockTooLarge = ComesToOne es
StepErr es Memory = Unit {0}

-- What a cutter gives: a block of the next elements, with the others left, or none where no element is left.
abbrev pub NextOk : {Z : Type 0} → List Element → List Element → Option (Vec ℕ Z) → Type 0
NextOk es rest None = (es ≡ []) × (rest ≡ [])
NextOk es rest (Some block) = (count : ℕ) × StepOk es block.items count × (rest ≡ drop count es)
