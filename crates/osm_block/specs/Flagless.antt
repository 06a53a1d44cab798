-- Blocks without flags of visibility (osmformat.proto, Info and DenseInfo, `visible`).
use Rattle.std.specs.Prelude.{◌≡◌, ℕ, List, [], None}
use Rattle.std.specs.List.{AllByRecursion, flat_map}
use Rattle.pbf_wire.specs.Readings.{fields, each}
use Rattle.osm_block.specs.declared.fields.TheConstants.{BLOCK_PRIMITIVEGROUP}
use Rattle.osm_block.specs.Message.{Message, Plain, Dense, Way, Relation, messages, node_message, dense_message, way_message, relation_message}

-- no info of the message has a flag
abbrev pub HasNoFlag : Message → Type 0
HasNoFlag (Plain p) = (node_message (fields p)).info.visible ≡ None
HasNoFlag (Dense ps) = (dense_message (flat_map fields ps)).info.visible ≡ []
HasNoFlag (Way p) = (way_message (fields p)).info.visible ≡ None
HasNoFlag (Relation p) = (relation_message (fields p)).info.visible ≡ None

-- no info of the block has a flag of visibility
abbrev pub HasNoFlags : List ℕ → Type 0
HasNoFlags w = AllByRecursion (λ g. AllByRecursion HasNoFlag (messages (fields g))) (each (fields w) BLOCK_PRIMITIVEGROUP)
