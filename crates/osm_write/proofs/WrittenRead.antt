-- What is read of a block that is given is the list that was given for it.
use Rattle.std.proofs.Common.{◌≡◌, ℕ, List, None, Some, Result, Ok, Err}
use Rattle.osm_value.specs.declared.element.Element.{Element}
use Rattle.osm_block.specs.declared.fault.BlockError.{BlockError}
use Rattle.osm_block.specs.declared.fault.BlockError.TheVariants.{Memory, Fault}
use Rattle.osm_block.specs.Block.{Block}
use Rattle.osm_block.specs.Phases.{Gives, fault}
use Rattle.osm_block.proofs.Complete.{no_fault}
use Rattle.osm_block.proofs.UniqueDense.{Block-unique}
use Rattle.osm_write.specs.Laws.{IsGiven, SaysAlone, AnswersThem}
use Rattle.osm_write.proofs.Bounds.{block_is_read_back}

pub says_alone : (es : List Element) (block : List ℕ) → IsGiven es block → SaysAlone es block
says_alone es block given =
    let says = block_is_read_back es block given.1 given.2 given.0 in
    (no_fault es block says, says, λ fs other. Block-unique fs es block other says)

pub answers_them : (es : List Element) (block : List ℕ) (answer : Result (List Element) BlockError) → IsGiven es block → Gives (λ fs. Block fs block) (fault block) answer → AnswersThem es answer
answers_them es block (Ok fs) given gives = (says_alone es block given).2 fs gives.1
answers_them es block (Err Memory) given gives = tt
answers_them es block (Err (Fault other)) given gives =
    let none : fault block ≡ None = (says_alone es block given).0 in
    let stands : fault block ≡ Some other = gives in
    absurd (cc)
