use Rattle.std.proofs.Common.{◌≡◌, map, drop}
use Rattle.std.specs.List.{list_any}
use Rattle.osm_write.specs.Canon.{has_tags}
use Rattle.osm_write.proofs.dense.any_tags.Given as goal

abbrev pub invariant-loop-node : goal.invariant-loop-node
invariant-loop-node l = list_any has_tags (map (λ n. n.now) (drop l.node-index l.nodes)) ≡ list_any has_tags (map (λ n. n.now) l.nodes)
