use Rattle.std.proofs.Common.{◌≡◌, ◌++◌, ◌∷◌, [], map, drop}
use Rattle.std.specs.List.{flat_map}
use Rattle.osm_value.specs.Value.{NodeValue}
use Rattle.osm_write.specs.Canon.{number, tag_indexes}
use Rattle.osm_write.specs.Scale.{view}
use Rattle.osm_write.proofs.dense.write_all_tags.Given as goal

abbrev pub invariant-loop-node : goal.invariant-loop-node
invariant-loop-node l = l.array.items ++ flat_map number (flat_map (λ (n : NodeValue). tag_indexes (view l.scale) n.tags ++ 0 ∷ []) (map (λ n. n.now) (drop l.node-index l.nodes)))
    ≡ l.fn.array.items ++ flat_map number (flat_map (λ (n : NodeValue). tag_indexes (view l.scale) n.tags ++ 0 ∷ []) (map (λ n. n.now) l.nodes))
