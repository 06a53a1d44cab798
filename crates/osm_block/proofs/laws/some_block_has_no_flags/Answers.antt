use Rattle.std.proofs.Common.{refl}
use Rattle.pbf_wire.specs.Number.{number_within, number_at}
use Rattle.pbf_wire.specs.Field.{value_at, field_at, next_at}
use Rattle.pbf_wire.specs.FieldList.{items_within, items_from}
use Rattle.pbf_wire.specs.Readings.{row_within}
use Rattle.osm_block.specs.Flagless.{HasNoFlags}
use Rattle.osm_block.specs.Vectors
use Rattle.osm_block.specs.VectorElements
use Rattle.osm_block.proofs.VectorBlocks.{two_nodes_says}
use Rattle.osm_block.proofs.laws.some_block_has_no_flags.Goals as goal

no_flags : HasNoFlags Vectors.two_nodes
unfolding number_within number_at value_at field_at next_at items_within items_from row_within
no_flags = ((refl, tt), tt)

pub returns : goal.returns
returns c = (VectorElements.two_nodes_elements, Vectors.two_nodes, (λ none. absurd (cc)), two_nodes_says, no_flags)
