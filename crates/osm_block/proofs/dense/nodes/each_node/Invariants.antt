use Rattle.std.proofs.Common.{◌≡◌, ◌++◌, map, List}
use Rattle.osm_value.specs.declared.element.Element.TheVariants as elements
use Rattle.osm_value.specs.Value.{NodeValue}
use Rattle.osm_block.specs.Fields.{context_of}
use Rattle.osm_block.proofs.DenseArrayLemmas.{NodesSoFar}
use Rattle.osm_block.proofs.dense.nodes.each_node.Given as goal

abbrev pub invariant-loop-index : goal.invariant-loop-index
invariant-loop-index l = (ns : List NodeValue) × (l.out.items ≡ l.initial.out.items ++ map elements.Node ns) × NodesSoFar (context_of l.scale) l.arrays l.index l.at ns
