-- An element is fixed by the canonical block of it alone.
use Rattle.std.proofs.Common.{◌≡◌, List, [], ◌∷◌, None, subst, append-nil}
use Rattle.osm_value.specs.declared.element.Element.{Element}
use Rattle.osm_block.specs.Block.{Block}
use Rattle.osm_block.specs.Phases.{fault}
use Rattle.osm_block.proofs.Complete.{no_fault}
use Rattle.osm_block.proofs.UniqueDense.{Block-unique}
use Rattle.osm_write.specs.Canon.{canon}
use Rattle.osm_write.proofs.BlockRead.{reads_back}
use Rattle.osm_rows.specs.Held.{HasFewTexts}
use Rattle.osm_rows.specs.Rows.{HasBlock}

pub canon_says : (e : Element) → HasBlock e → HasFewTexts e → Block (e ∷ []) (canon (e ∷ []))
canon_says e has few = reads_back (e ∷ []) (has.in_range, tt) (rw append-nil few) has.short

pub one_element : (e : Element) (es : List Element) → HasBlock e → HasFewTexts e → Block es (canon (e ∷ [])) → es ≡ e ∷ []
one_element e es has few says = Block-unique es (e ∷ []) (canon (e ∷ [])) says (canon_says e has few)

pub canon_faultless : (e : Element) → HasBlock e → HasFewTexts e → fault (canon (e ∷ [])) ≡ None
canon_faultless e has few = no_fault (e ∷ []) (canon (e ∷ [])) (canon_says e has few)

pub canon_once : (e d : Element) → HasBlock e → HasFewTexts e → HasBlock d → HasFewTexts d → canon (e ∷ []) ≡ canon (d ∷ []) → e ≡ d
canon_once e d has few has_too few_too same =
    let both : e ∷ [] ≡ d ∷ [] = one_element d (e ∷ []) has_too few_too (subst (Block (e ∷ [])) same (canon_says e has few)) in
    cc
