use Rattle.std.proofs.Common.{◌≡◌, ◌∷◌, [], refl}
use Rattle.osm_value.specs.declared.element.Element.TheVariants as elements
use Rattle.osm_value.specs.Value.{NodeValue}
use Rattle.osm_block.specs.Block.{NodeOf}
use Rattle.osm_block.specs.Fields.{context_of}
use Rattle.osm_block.specs.Phases.{first, node_phases}
use Rattle.osm_block.proofs.FieldLemmas.{node_read}
use Rattle.osm_block.proofs.ReadingLemmas.{Gives-along}
use Rattle.osm_block.proofs.node.NodeFieldsElementMessage.element.Goals as goal

pub returns : goal.returns
returns c = λ p read.
    let b = context_of c.args.scale.now in
    Gives-along (λ e m. (n : NodeValue) × (e ∷ [] ≡ elements.Node n ∷ []) × NodeOf b n m) (λ m. first (node_phases b m)) _ _ _ _ (node_read _ _ read) refl c.node_of.ensures
