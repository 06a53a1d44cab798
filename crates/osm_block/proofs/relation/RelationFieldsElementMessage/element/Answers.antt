use Rattle.std.proofs.Common.{◌≡◌, ◌∷◌, [], refl}
use Rattle.osm_value.specs.declared.element.Element.TheVariants as elements
use Rattle.osm_value.specs.Value.{RelationValue}
use Rattle.osm_block.specs.Block.{RelationOf}
use Rattle.osm_block.specs.Fields.{context_of}
use Rattle.osm_block.specs.Phases.{first, relation_phases}
use Rattle.osm_block.proofs.FieldLemmas.{relation_read}
use Rattle.osm_block.proofs.ReadingLemmas.{Gives-along}
use Rattle.osm_block.proofs.relation.RelationFieldsElementMessage.element.Goals as goal

pub returns : goal.returns
returns c = λ p read.
    let b = context_of c.args.scale.now in
    Gives-along (λ e m. (r : RelationValue) × (e ∷ [] ≡ elements.Relation r ∷ []) × RelationOf b r m) (λ m. first (relation_phases b m)) _ _ _ _ (relation_read _ _ read) refl c.relation_of.ensures
