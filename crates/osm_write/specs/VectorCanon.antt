-- The canonical blocks of the vectors' elements, computed.
use Rattle.std.specs.Prelude.{◌≡◌, List, [], ◌∷◌, Some, None, true, pos, refl}
use Rattle.pbf_wire.specs.Write.{shortest_within, shortest}
use Rattle.osm_value.specs.declared.element.Element.{Element}
use Rattle.osm_value.specs.declared.element.Element.TheVariants.{Node}
use Rattle.osm_block.specs.Vectors.{two_nodes, tagged_nodes, way, widest_ids, version_in_its_group, relation, way_with_info, one_group, nodes_with_info, visible_dense_node, hidden_way}
use Rattle.osm_block.specs.VectorElements.{two_nodes_elements, tagged_nodes_elements, way_in_pieces_elements, widest_ids_elements, absent_version_elements, version_in_its_group_elements, relation_elements, way_with_info_elements, two_groups_elements, nodes_with_info_elements, visible_node_elements, hidden_way_elements}
use Rattle.osm_write.specs.Canon.{scale_of, canon}

no_elements : canon [] ≡ 0x0A ∷ 0x02 ∷ 0x0A ∷ 0x00 ∷ []
unfolding shortest_within shortest scale_of canon
no_elements = refl

two_nodes_canon_is : canon two_nodes_elements ≡ two_nodes
unfolding shortest_within shortest scale_of canon
two_nodes_canon_is = refl

tagged_nodes_canon_is : canon tagged_nodes_elements ≡ tagged_nodes
unfolding shortest_within shortest scale_of canon
tagged_nodes_canon_is = refl

way_in_pieces_canon_is : canon way_in_pieces_elements ≡ way
unfolding shortest_within shortest scale_of canon
way_in_pieces_canon_is = refl

widest_ids_canon_is : canon widest_ids_elements ≡ widest_ids
unfolding shortest_within shortest scale_of canon
widest_ids_canon_is = refl

absent_version_canon_is : canon absent_version_elements ≡ version_in_its_group
unfolding shortest_within shortest scale_of canon
absent_version_canon_is = refl

version_in_its_group_canon_is : canon version_in_its_group_elements ≡ version_in_its_group
unfolding shortest_within shortest scale_of canon
version_in_its_group_canon_is = refl

relation_canon_is : canon relation_elements ≡ relation
unfolding shortest_within shortest scale_of canon
relation_canon_is = refl

way_with_info_canon_is : canon way_with_info_elements ≡ way_with_info
unfolding shortest_within shortest scale_of canon
way_with_info_canon_is = refl

two_groups_canon_is : canon two_groups_elements ≡ one_group
unfolding shortest_within shortest scale_of canon
two_groups_canon_is = refl

nodes_with_info_canon_is : canon nodes_with_info_elements ≡ nodes_with_info
unfolding shortest_within shortest scale_of canon
nodes_with_info_canon_is = refl

visible_node_canon_is : canon visible_node_elements ≡ visible_dense_node
unfolding shortest_within shortest scale_of canon
visible_node_canon_is = refl

hidden_way_canon_is : canon hidden_way_elements ≡ hidden_way
unfolding shortest_within shortest scale_of canon
hidden_way_canon_is = refl

-- a node with a flag, and one without
abbrev one_flag : List Element
one_flag = Node (record { id = pos 1; lat = pos 0; lon = pos 0; tags = []; info = record { version = None; time = None; changeset = None; uid = None; user = None; visible = Some true } })
    ∷ Node (record { id = pos 2; lat = pos 0; lon = pos 0; tags = []; info = record { version = None; time = None; changeset = None; uid = None; user = None; visible = None } })
    ∷ []

flag_in_its_group_canon_is : canon one_flag
    ≡ 0x0A ∷ 0x02 ∷ 0x0A ∷ 0x00 ∷ 0x12 ∷ 0x10 ∷ 0x12 ∷ 0x0E ∷ 0x0A ∷ 0x01 ∷ 0x02 ∷ 0x2A ∷ 0x03 ∷ 0x32 ∷ 0x01 ∷ 0x01 ∷ 0x42 ∷ 0x01 ∷ 0x00 ∷ 0x4A ∷ 0x01 ∷ 0x00 ∷ 0x12 ∷ 0x0B ∷ 0x12 ∷ 0x09 ∷ 0x0A ∷ 0x01 ∷ 0x04 ∷ 0x42 ∷ 0x01 ∷ 0x00 ∷ 0x4A ∷ 0x01 ∷ 0x00 ∷ []
unfolding shortest_within shortest scale_of canon
flag_in_its_group_canon_is = refl
