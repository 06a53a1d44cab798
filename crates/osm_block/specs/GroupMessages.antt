-- The messages of a group whose payloads were read.
use Rattle.std.specs.Prelude.{List, ◌∷◌, ◌++◌, map}
use Rattle.osm_block.specs.declared.group.GroupPayloads.{GroupPayloads}
use Rattle.osm_block.specs.Message.{Message, Plain, Dense, Way, Relation}

abbrev pub messages_of : GroupPayloads → List Message
messages_of p = map Plain (map (λ x. x.now) p.nodes.items) ++ (Dense (map (λ x. x.now) p.dense.items) ∷ (map Way (map (λ x. x.now) p.ways.items) ++ map Relation (map (λ x. x.now) p.relations.items)))
