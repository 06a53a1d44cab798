use Rattle.std.proofs.Common.{◌≡◌, ◌∷◌, [], refl}
use Rattle.osm_value.specs.declared.element.Element.TheVariants as elements
use Rattle.osm_value.specs.Value.{WayValue}
use Rattle.osm_block.specs.Block.{WayOf}
use Rattle.osm_block.specs.Fields.{context_of}
use Rattle.osm_block.specs.Phases.{first, way_phases}
use Rattle.osm_block.proofs.FieldLemmas.{way_read}
use Rattle.osm_block.proofs.ReadingLemmas.{Gives-along}
use Rattle.osm_block.proofs.way.WayFieldsElementMessage.element.Goals as goal

pub returns : goal.returns
returns c = λ p read.
    let b = context_of c.args.scale.now in
    Gives-along (λ e m. (w : WayValue) × (e ∷ [] ≡ elements.Way w ∷ []) × WayOf b w m) (λ m. first (way_phases b m)) _ _ _ _ (way_read _ _ read) refl c.way_of.ensures
