-- What the vectors' blocks say.
use Rattle.std.specs.Prelude.{List, [], ◌∷◌, Some, None, true, false, pos, negsuc}
use Rattle.osm_value.specs.declared.element.MemberKind.TheVariants as kinds
use Rattle.osm_value.specs.declared.element.Element.{Element}
use Rattle.osm_value.specs.declared.element.Element.TheVariants.{Node, Way, Relation}

abbrev pub two_nodes_elements : List Element
two_nodes_elements = ((Node (record { id = pos 1; lat = pos 1000; lon = negsuc 99; tags = ([]); info = record { version = None; time = None; changeset = None; uid = None; user = None; visible = None } })) ∷ (Node (record { id = pos 2; lat = pos 900; lon = negsuc 99; tags = ([]); info = record { version = None; time = None; changeset = None; uid = None; user = None; visible = None } })) ∷ [])

abbrev pub tagged_nodes_elements : List Element
tagged_nodes_elements = ((Node (record { id = pos 1; lat = pos 0; lon = pos 0; tags = (((97 ∷ []), (98 ∷ [])) ∷ []); info = record { version = None; time = None; changeset = None; uid = None; user = None; visible = None } })) ∷ (Node (record { id = pos 2; lat = pos 0; lon = pos 0; tags = ([]); info = record { version = None; time = None; changeset = None; uid = None; user = None; visible = None } })) ∷ [])

abbrev pub untagged_nodes_elements : List Element
untagged_nodes_elements = ((Node (record { id = pos 1; lat = pos 0; lon = pos 0; tags = ([]); info = record { version = None; time = None; changeset = None; uid = None; user = None; visible = None } })) ∷ (Node (record { id = pos 2; lat = pos 0; lon = pos 0; tags = ([]); info = record { version = None; time = None; changeset = None; uid = None; user = None; visible = None } })) ∷ [])

abbrev pub delimiters_alone_elements : List Element
delimiters_alone_elements = ((Node (record { id = pos 1; lat = pos 0; lon = pos 0; tags = ([]); info = record { version = None; time = None; changeset = None; uid = None; user = None; visible = None } })) ∷ (Node (record { id = pos 2; lat = pos 0; lon = pos 0; tags = ([]); info = record { version = None; time = None; changeset = None; uid = None; user = None; visible = None } })) ∷ [])

abbrev pub way_in_pieces_elements : List Element
way_in_pieces_elements = ((Way (record { id = pos 7; refs = (pos 5 ∷ pos 6 ∷ pos 7 ∷ pos 6 ∷ []); tags = (((97 ∷ []), (98 ∷ [])) ∷ []); info = record { version = None; time = None; changeset = None; uid = None; user = None; visible = None } })) ∷ [])

abbrev pub way_elements : List Element
way_elements = ((Way (record { id = pos 7; refs = (pos 5 ∷ pos 6 ∷ pos 7 ∷ pos 6 ∷ []); tags = (((97 ∷ []), (98 ∷ [])) ∷ []); info = record { version = None; time = None; changeset = None; uid = None; user = None; visible = None } })) ∷ [])

abbrev pub greatest_coordinate_elements : List Element
greatest_coordinate_elements = ((Node (record { id = pos 1; lat = pos 4611686018427387903; lon = pos 0; tags = ([]); info = record { version = None; time = None; changeset = None; uid = None; user = None; visible = None } })) ∷ [])

abbrev pub widest_ids_elements : List Element
widest_ids_elements = ((Node (record { id = pos 4611686018427387903; lat = pos 0; lon = pos 0; tags = ([]); info = record { version = None; time = None; changeset = None; uid = None; user = None; visible = None } })) ∷ (Node (record { id = negsuc 4611686018427387902; lat = pos 0; lon = pos 0; tags = ([]); info = record { version = None; time = None; changeset = None; uid = None; user = None; visible = None } })) ∷ [])

abbrev pub absent_version_elements : List Element
absent_version_elements = ((Node (record { id = pos 1; lat = pos 0; lon = pos 0; tags = ([]); info = record { version = Some (pos 3); time = None; changeset = None; uid = None; user = None; visible = None } })) ∷ (Node (record { id = pos 2; lat = pos 0; lon = pos 0; tags = ([]); info = record { version = None; time = None; changeset = None; uid = None; user = None; visible = None } })) ∷ [])

abbrev pub version_in_its_group_elements : List Element
version_in_its_group_elements = ((Node (record { id = pos 1; lat = pos 0; lon = pos 0; tags = ([]); info = record { version = Some (pos 3); time = None; changeset = None; uid = None; user = None; visible = None } })) ∷ (Node (record { id = pos 2; lat = pos 0; lon = pos 0; tags = ([]); info = record { version = None; time = None; changeset = None; uid = None; user = None; visible = None } })) ∷ [])

abbrev pub relation_elements : List Element
relation_elements = ((Relation (record { id = pos 9; members = ((record { kind = kinds.Node; id = pos 1; role = (111 ∷ 117 ∷ 116 ∷ 101 ∷ 114 ∷ []) }) ∷ (record { kind = kinds.Way; id = negsuc 1; role = ([]) }) ∷ []); tags = (((110 ∷ 97 ∷ 109 ∷ 101 ∷ []), (97 ∷ 32 ∷ 98 ∷ 44 ∷ 99 ∷ [])) ∷ []); info = record { version = None; time = None; changeset = None; uid = None; user = None; visible = None } })) ∷ [])

abbrev pub way_with_info_elements : List Element
way_with_info_elements = ((Way (record { id = pos 7; refs = ([]); tags = ([]); info = record { version = Some (pos 2); time = Some (pos 3000); changeset = Some (pos 4); uid = Some (negsuc 0); user = Some (117 ∷ []); visible = None } })) ∷ [])

abbrev pub two_groups_elements : List Element
two_groups_elements = ((Node (record { id = pos 1; lat = pos 0; lon = pos 0; tags = ([]); info = record { version = None; time = None; changeset = None; uid = None; user = None; visible = None } })) ∷ (Node (record { id = pos 1; lat = pos 0; lon = pos 0; tags = ([]); info = record { version = None; time = None; changeset = None; uid = None; user = None; visible = None } })) ∷ [])

abbrev pub one_group_elements : List Element
one_group_elements = ((Node (record { id = pos 1; lat = pos 0; lon = pos 0; tags = ([]); info = record { version = None; time = None; changeset = None; uid = None; user = None; visible = None } })) ∷ (Node (record { id = pos 1; lat = pos 0; lon = pos 0; tags = ([]); info = record { version = None; time = None; changeset = None; uid = None; user = None; visible = None } })) ∷ [])

abbrev pub nodes_with_info_elements : List Element
nodes_with_info_elements = ((Node (record { id = pos 1; lat = pos 0; lon = pos 0; tags = ([]); info = record { version = Some (pos 1); time = Some (pos 1000); changeset = Some (pos 5); uid = Some (pos 7); user = Some (117 ∷ []); visible = None } })) ∷ (Node (record { id = pos 2; lat = pos 0; lon = pos 0; tags = ([]); info = record { version = Some (pos 2); time = Some (pos 2000); changeset = Some (pos 5); uid = Some (pos 7); user = Some (117 ∷ []); visible = None } })) ∷ [])

abbrev pub plain_node_elements : List Element
plain_node_elements = ((Node (record { id = pos 1; lat = pos 100; lon = pos 100; tags = ([]); info = record { version = None; time = None; changeset = None; uid = None; user = None; visible = None } })) ∷ [])

abbrev pub visible_node_elements : List Element
visible_node_elements = ((Node (record { id = pos 1; lat = pos 100; lon = pos 100; tags = ([]); info = record { version = None; time = None; changeset = None; uid = None; user = None; visible = Some true } })) ∷ [])

abbrev pub hidden_way_elements : List Element
hidden_way_elements = ((Way (record { id = pos 7; refs = ([]); tags = ([]); info = record { version = None; time = None; changeset = None; uid = None; user = None; visible = Some false } })) ∷ [])
