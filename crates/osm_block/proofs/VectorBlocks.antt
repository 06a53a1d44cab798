-- What each vector says, by the relation.
use Rattle.std.proofs.Common.{[], ◌∷◌, refl, Some, None, true, false, pos, negsuc, inl, inr, lit<, lit≤, arith}
use Rattle.std.proofs.lemmas.Int.{ints}
use Rattle.osm_value.specs.declared.element.MemberKind.TheVariants as kinds
use Rattle.osm_value.specs.declared.element.Element.TheVariants.{Node, Way, Relation}
use Rattle.osm_block.specs.Block.{Block}
use Rattle.pbf_wire.specs.Number.{number_within, number_at}
use Rattle.pbf_wire.specs.Field.{value_at, field_at, next_at}
use Rattle.pbf_wire.specs.FieldList.{items_within, items_from}
use Rattle.pbf_wire.specs.Readings.{row_within}
use lib.Utf8
use Rattle.osm_block.specs.Vectors
use Rattle.osm_block.specs.VectorElements
use Rattle.std.specs.Str.{is_utf8, chars}
use Rattle.osm_block.proofs.RangeTests.{info_from, node_from, way_from, relation_from}

pub two_nodes_says : Block VectorElements.two_nodes_elements Vectors.two_nodes
unfolding is_utf8 chars number_within number_at value_at field_at next_at items_within items_from row_within lib.Utf8.encode
two_nodes_says = record {
  is_message = refl;
  has_table = refl;
  tables_are = (refl, tt);
  texts_are = (record { utf8 = (([]), (refl, refl)); no_nul = refl }, tt);
  granularity = omega (arith, ints);
  date_granularity = omega (arith, ints);
  elements_are = (((Node (record { id = pos 1; lat = pos 1000; lon = negsuc 99; tags = ([]); info = record { version = None; time = None; changeset = None; uid = None; user = None; visible = None } })) ∷ (Node (record { id = pos 2; lat = pos 900; lon = negsuc 99; tags = ([]); info = record { version = None; time = None; changeset = None; uid = None; user = None; visible = None } })) ∷ []), ([]), refl, record { is_message = refl; one_kind = lit≤ tt; elements_are = (((Node (record { id = pos 1; lat = pos 1000; lon = negsuc 99; tags = ([]); info = record { version = None; time = None; changeset = None; uid = None; user = None; visible = None } })) ∷ (Node (record { id = pos 2; lat = pos 900; lon = negsuc 99; tags = ([]); info = record { version = None; time = None; changeset = None; uid = None; user = None; visible = None } })) ∷ []), ([]), refl, ((refl, (refl, (refl, (refl, tt)))), (((record { id = pos 1; lat = pos 1000; lon = negsuc 99; tags = ([]); info = record { version = None; time = None; changeset = None; uid = None; user = None; visible = None } }) ∷ (record { id = pos 2; lat = pos 900; lon = negsuc 99; tags = ([]); info = record { version = None; time = None; changeset = None; uid = None; user = None; visible = None } }) ∷ []), refl, record { ids_are = record { are = refl; fit = (record { sfits = lit< tt }, (record { sfits = lit< tt }, tt)) }; lats_are = ((pos 10 ∷ pos 9 ∷ []), record { are = refl; fit = (record { sfits = lit< tt }, (record { sfits = lit< tt }, tt)) }, refl); lons_are = (((negsuc 0) ∷ (negsuc 0) ∷ []), record { are = refl; fit = (record { sfits = lit< tt }, (record { sfits = lit< tt }, tt)) }, refl); tags_are = ((([]) ∷ ([]) ∷ []), inr (refl, (refl, (refl, tt))), refl); infos_are = record { versions_are = refl; times_are = (([]), record { are = refl; fit = tt }, refl); changesets_are = (([]), record { are = refl; fit = tt }, refl); uids_are = (([]), record { are = refl; fit = tt }, refl); users_are = (([]), record { are = refl; fit = tt }, refl); visibles_are = refl; in_range = (info_from _ refl, (info_from _ refl, tt)) }; in_range = (node_from _ refl, (node_from _ refl, tt)) })), refl) }, refl);
}

pub tagged_nodes_says : Block VectorElements.tagged_nodes_elements Vectors.tagged_nodes
unfolding is_utf8 chars number_within number_at value_at field_at next_at items_within items_from row_within lib.Utf8.encode
tagged_nodes_says = record {
  is_message = refl;
  has_table = refl;
  tables_are = (refl, tt);
  texts_are = (record { utf8 = (([]), (refl, refl)); no_nul = refl }, (record { utf8 = ((97 ∷ []), (refl, refl)); no_nul = refl }, (record { utf8 = ((98 ∷ []), (refl, refl)); no_nul = refl }, tt)));
  granularity = omega (arith, ints);
  date_granularity = omega (arith, ints);
  elements_are = (((Node (record { id = pos 1; lat = pos 0; lon = pos 0; tags = (((97 ∷ []), (98 ∷ [])) ∷ []); info = record { version = None; time = None; changeset = None; uid = None; user = None; visible = None } })) ∷ (Node (record { id = pos 2; lat = pos 0; lon = pos 0; tags = ([]); info = record { version = None; time = None; changeset = None; uid = None; user = None; visible = None } })) ∷ []), ([]), refl, record { is_message = refl; one_kind = lit≤ tt; elements_are = (((Node (record { id = pos 1; lat = pos 0; lon = pos 0; tags = (((97 ∷ []), (98 ∷ [])) ∷ []); info = record { version = None; time = None; changeset = None; uid = None; user = None; visible = None } })) ∷ (Node (record { id = pos 2; lat = pos 0; lon = pos 0; tags = ([]); info = record { version = None; time = None; changeset = None; uid = None; user = None; visible = None } })) ∷ []), ([]), refl, ((refl, (refl, (refl, (refl, (refl, tt))))), (((record { id = pos 1; lat = pos 0; lon = pos 0; tags = (((97 ∷ []), (98 ∷ [])) ∷ []); info = record { version = None; time = None; changeset = None; uid = None; user = None; visible = None } }) ∷ (record { id = pos 2; lat = pos 0; lon = pos 0; tags = ([]); info = record { version = None; time = None; changeset = None; uid = None; user = None; visible = None } }) ∷ []), refl, record { ids_are = record { are = refl; fit = (record { sfits = lit< tt }, (record { sfits = lit< tt }, tt)) }; lats_are = ((pos 0 ∷ pos 0 ∷ []), record { are = refl; fit = (record { sfits = lit< tt }, (record { sfits = lit< tt }, tt)) }, refl); lons_are = ((pos 0 ∷ pos 0 ∷ []), record { are = refl; fit = (record { sfits = lit< tt }, (record { sfits = lit< tt }, tt)) }, refl); tags_are = ((((pos 1, pos 2) ∷ []) ∷ ([]) ∷ []), inl (refl, (((λ e. cc), tt), (tt, tt))), refl); infos_are = record { versions_are = refl; times_are = (([]), record { are = refl; fit = tt }, refl); changesets_are = (([]), record { are = refl; fit = tt }, refl); uids_are = (([]), record { are = refl; fit = tt }, refl); users_are = (([]), record { are = refl; fit = tt }, refl); visibles_are = refl; in_range = (info_from _ refl, (info_from _ refl, tt)) }; in_range = (node_from _ refl, (node_from _ refl, tt)) })), refl) }, refl);
}

pub greatest_coordinate_says : Block VectorElements.greatest_coordinate_elements Vectors.greatest_coordinate
unfolding is_utf8 chars number_within number_at value_at field_at next_at items_within items_from row_within lib.Utf8.encode
greatest_coordinate_says = record {
  is_message = refl;
  has_table = refl;
  tables_are = (refl, tt);
  texts_are = (record { utf8 = (([]), (refl, refl)); no_nul = refl }, tt);
  granularity = omega (arith, ints);
  date_granularity = omega (arith, ints);
  elements_are = (((Node (record { id = pos 1; lat = pos 4611686018427387903; lon = pos 0; tags = ([]); info = record { version = None; time = None; changeset = None; uid = None; user = None; visible = None } })) ∷ []), ([]), refl, record { is_message = refl; one_kind = lit≤ tt; elements_are = (((Node (record { id = pos 1; lat = pos 4611686018427387903; lon = pos 0; tags = ([]); info = record { version = None; time = None; changeset = None; uid = None; user = None; visible = None } })) ∷ []), ([]), refl, ((refl, (refl, (refl, (refl, tt)))), (((record { id = pos 1; lat = pos 4611686018427387903; lon = pos 0; tags = ([]); info = record { version = None; time = None; changeset = None; uid = None; user = None; visible = None } }) ∷ []), refl, record { ids_are = record { are = refl; fit = (record { sfits = lit< tt }, tt) }; lats_are = (((negsuc 0) ∷ []), record { are = refl; fit = (record { sfits = lit< tt }, tt) }, refl); lons_are = ((pos 0 ∷ []), record { are = refl; fit = (record { sfits = lit< tt }, tt) }, refl); tags_are = ((([]) ∷ []), inr (refl, (refl, tt)), refl); infos_are = record { versions_are = refl; times_are = (([]), record { are = refl; fit = tt }, refl); changesets_are = (([]), record { are = refl; fit = tt }, refl); uids_are = (([]), record { are = refl; fit = tt }, refl); users_are = (([]), record { are = refl; fit = tt }, refl); visibles_are = refl; in_range = (info_from _ refl, tt) }; in_range = (node_from _ refl, tt) })), refl) }, refl);
}

pub absent_version_says : Block VectorElements.absent_version_elements Vectors.absent_version
unfolding is_utf8 chars number_within number_at value_at field_at next_at items_within items_from row_within lib.Utf8.encode
absent_version_says = record {
  is_message = refl;
  has_table = refl;
  tables_are = (refl, tt);
  texts_are = (record { utf8 = (([]), (refl, refl)); no_nul = refl }, tt);
  granularity = omega (arith, ints);
  date_granularity = omega (arith, ints);
  elements_are = (((Node (record { id = pos 1; lat = pos 0; lon = pos 0; tags = ([]); info = record { version = Some (pos 3); time = None; changeset = None; uid = None; user = None; visible = None } })) ∷ (Node (record { id = pos 2; lat = pos 0; lon = pos 0; tags = ([]); info = record { version = None; time = None; changeset = None; uid = None; user = None; visible = None } })) ∷ []), ([]), refl, record { is_message = refl; one_kind = lit≤ tt; elements_are = (((Node (record { id = pos 1; lat = pos 0; lon = pos 0; tags = ([]); info = record { version = Some (pos 3); time = None; changeset = None; uid = None; user = None; visible = None } })) ∷ (Node (record { id = pos 2; lat = pos 0; lon = pos 0; tags = ([]); info = record { version = None; time = None; changeset = None; uid = None; user = None; visible = None } })) ∷ []), ([]), refl, ((refl, (refl, (refl, (refl, (refl, (refl, tt)))))), (((record { id = pos 1; lat = pos 0; lon = pos 0; tags = ([]); info = record { version = Some (pos 3); time = None; changeset = None; uid = None; user = None; visible = None } }) ∷ (record { id = pos 2; lat = pos 0; lon = pos 0; tags = ([]); info = record { version = None; time = None; changeset = None; uid = None; user = None; visible = None } }) ∷ []), refl, record { ids_are = record { are = refl; fit = (record { sfits = lit< tt }, (record { sfits = lit< tt }, tt)) }; lats_are = ((pos 0 ∷ pos 0 ∷ []), record { are = refl; fit = (record { sfits = lit< tt }, (record { sfits = lit< tt }, tt)) }, refl); lons_are = ((pos 0 ∷ pos 0 ∷ []), record { are = refl; fit = (record { sfits = lit< tt }, (record { sfits = lit< tt }, tt)) }, refl); tags_are = ((([]) ∷ ([]) ∷ []), inr (refl, (refl, (refl, tt))), refl); infos_are = record { versions_are = refl; times_are = (([]), record { are = refl; fit = tt }, refl); changesets_are = (([]), record { are = refl; fit = tt }, refl); uids_are = (([]), record { are = refl; fit = tt }, refl); users_are = (([]), record { are = refl; fit = tt }, refl); visibles_are = refl; in_range = (info_from _ refl, (info_from _ refl, tt)) }; in_range = (node_from _ refl, (node_from _ refl, tt)) })), refl) }, refl);
}

pub version_in_its_group_says : Block VectorElements.version_in_its_group_elements Vectors.version_in_its_group
unfolding is_utf8 chars number_within number_at value_at field_at next_at items_within items_from row_within lib.Utf8.encode
version_in_its_group_says = record {
  is_message = refl;
  has_table = refl;
  tables_are = (refl, tt);
  texts_are = (record { utf8 = (([]), (refl, refl)); no_nul = refl }, tt);
  granularity = omega (arith, ints);
  date_granularity = omega (arith, ints);
  elements_are = (((Node (record { id = pos 1; lat = pos 0; lon = pos 0; tags = ([]); info = record { version = Some (pos 3); time = None; changeset = None; uid = None; user = None; visible = None } })) ∷ []), ((Node (record { id = pos 2; lat = pos 0; lon = pos 0; tags = ([]); info = record { version = None; time = None; changeset = None; uid = None; user = None; visible = None } })) ∷ []), refl, record { is_message = refl; one_kind = lit≤ tt; elements_are = (((Node (record { id = pos 1; lat = pos 0; lon = pos 0; tags = ([]); info = record { version = Some (pos 3); time = None; changeset = None; uid = None; user = None; visible = None } })) ∷ []), ([]), refl, ((refl, (refl, (refl, (refl, (refl, (refl, tt)))))), (((record { id = pos 1; lat = pos 0; lon = pos 0; tags = ([]); info = record { version = Some (pos 3); time = None; changeset = None; uid = None; user = None; visible = None } }) ∷ []), refl, record { ids_are = record { are = refl; fit = (record { sfits = lit< tt }, tt) }; lats_are = ((pos 0 ∷ []), record { are = refl; fit = (record { sfits = lit< tt }, tt) }, refl); lons_are = ((pos 0 ∷ []), record { are = refl; fit = (record { sfits = lit< tt }, tt) }, refl); tags_are = ((([]) ∷ []), inr (refl, (refl, tt)), refl); infos_are = record { versions_are = refl; times_are = (([]), record { are = refl; fit = tt }, refl); changesets_are = (([]), record { are = refl; fit = tt }, refl); uids_are = (([]), record { are = refl; fit = tt }, refl); users_are = (([]), record { are = refl; fit = tt }, refl); visibles_are = refl; in_range = (info_from _ refl, tt) }; in_range = (node_from _ refl, tt) })), refl) }, (((Node (record { id = pos 2; lat = pos 0; lon = pos 0; tags = ([]); info = record { version = None; time = None; changeset = None; uid = None; user = None; visible = None } })) ∷ []), ([]), refl, record { is_message = refl; one_kind = lit≤ tt; elements_are = (((Node (record { id = pos 2; lat = pos 0; lon = pos 0; tags = ([]); info = record { version = None; time = None; changeset = None; uid = None; user = None; visible = None } })) ∷ []), ([]), refl, ((refl, (refl, (refl, (refl, tt)))), (((record { id = pos 2; lat = pos 0; lon = pos 0; tags = ([]); info = record { version = None; time = None; changeset = None; uid = None; user = None; visible = None } }) ∷ []), refl, record { ids_are = record { are = refl; fit = (record { sfits = lit< tt }, tt) }; lats_are = ((pos 0 ∷ []), record { are = refl; fit = (record { sfits = lit< tt }, tt) }, refl); lons_are = ((pos 0 ∷ []), record { are = refl; fit = (record { sfits = lit< tt }, tt) }, refl); tags_are = ((([]) ∷ []), inr (refl, (refl, tt)), refl); infos_are = record { versions_are = refl; times_are = (([]), record { are = refl; fit = tt }, refl); changesets_are = (([]), record { are = refl; fit = tt }, refl); uids_are = (([]), record { are = refl; fit = tt }, refl); users_are = (([]), record { are = refl; fit = tt }, refl); visibles_are = refl; in_range = (info_from _ refl, tt) }; in_range = (node_from _ refl, tt) })), refl) }, refl));
}

pub way_in_pieces_says : Block VectorElements.way_in_pieces_elements Vectors.way_in_pieces
unfolding is_utf8 chars number_within number_at value_at field_at next_at items_within items_from row_within lib.Utf8.encode
way_in_pieces_says = record {
  is_message = refl;
  has_table = refl;
  tables_are = (refl, (refl, tt));
  texts_are = (record { utf8 = (([]), (refl, refl)); no_nul = refl }, (record { utf8 = ((97 ∷ []), (refl, refl)); no_nul = refl }, (record { utf8 = ((98 ∷ []), (refl, refl)); no_nul = refl }, tt)));
  granularity = omega (arith, ints);
  date_granularity = omega (arith, ints);
  elements_are = (((Way (record { id = pos 7; refs = (pos 5 ∷ pos 6 ∷ pos 7 ∷ pos 6 ∷ []); tags = (((97 ∷ []), (98 ∷ [])) ∷ []); info = record { version = None; time = None; changeset = None; uid = None; user = None; visible = None } })) ∷ []), ([]), refl, record { is_message = refl; one_kind = lit≤ tt; elements_are = (([]), ((Way (record { id = pos 7; refs = (pos 5 ∷ pos 6 ∷ pos 7 ∷ pos 6 ∷ []); tags = (((97 ∷ []), (98 ∷ [])) ∷ []); info = record { version = None; time = None; changeset = None; uid = None; user = None; visible = None } })) ∷ []), refl, (tt, ([], refl, record { ids_are = record { are = refl; fit = tt }; lats_are = (([]), record { are = refl; fit = tt }, refl); lons_are = (([]), record { are = refl; fit = tt }, refl); tags_are = (([]), inr (refl, tt), refl); infos_are = record { versions_are = refl; times_are = (([]), record { are = refl; fit = tt }, refl); changesets_are = (([]), record { are = refl; fit = tt }, refl); uids_are = (([]), record { are = refl; fit = tt }, refl); users_are = (([]), record { are = refl; fit = tt }, refl); visibles_are = refl; in_range = tt }; in_range = tt })), (((Way (record { id = pos 7; refs = (pos 5 ∷ pos 6 ∷ pos 7 ∷ pos 6 ∷ []); tags = (((97 ∷ []), (98 ∷ [])) ∷ []); info = record { version = None; time = None; changeset = None; uid = None; user = None; visible = None } })) ∷ []), ([]), refl, ((refl, (refl, (refl, (refl, (refl, tt))))), ((record { id = pos 7; refs = (pos 5 ∷ pos 6 ∷ pos 7 ∷ pos 6 ∷ []); tags = (((97 ∷ []), (98 ∷ [])) ∷ []); info = record { version = None; time = None; changeset = None; uid = None; user = None; visible = None } }), refl, record { id_is = refl; refs_are = record { are = refl; fit = (record { sfits = lit< tt }, (record { sfits = lit< tt }, (record { sfits = lit< tt }, (record { sfits = lit< tt }, tt)))) }; tags_are = record { keys_are = refl; vals_are = refl }; info_is = record { version_is = refl; time_is = refl; changeset_is = refl; uid_is = refl; user_is = refl; visible_is = refl; in_range = info_from _ refl }; in_range = way_from _ refl })), refl)) }, refl);
}

pub relation_says : Block VectorElements.relation_elements Vectors.relation
unfolding is_utf8 chars number_within number_at value_at field_at next_at items_within items_from row_within lib.Utf8.encode
relation_says = record {
  is_message = refl;
  has_table = refl;
  tables_are = (refl, tt);
  texts_are = (record { utf8 = (([]), (refl, refl)); no_nul = refl }, (record { utf8 = ((110 ∷ 97 ∷ 109 ∷ 101 ∷ []), (refl, refl)); no_nul = refl }, (record { utf8 = ((97 ∷ 32 ∷ 98 ∷ 44 ∷ 99 ∷ []), (refl, refl)); no_nul = refl }, (record { utf8 = ((111 ∷ 117 ∷ 116 ∷ 101 ∷ 114 ∷ []), (refl, refl)); no_nul = refl }, (record { utf8 = (([]), (refl, refl)); no_nul = refl }, tt)))));
  granularity = omega (arith, ints);
  date_granularity = omega (arith, ints);
  elements_are = (((Relation (record { id = pos 9; members = ((record { kind = kinds.Node; id = pos 1; role = (111 ∷ 117 ∷ 116 ∷ 101 ∷ 114 ∷ []) }) ∷ (record { kind = kinds.Way; id = negsuc 1; role = ([]) }) ∷ []); tags = (((110 ∷ 97 ∷ 109 ∷ 101 ∷ []), (97 ∷ 32 ∷ 98 ∷ 44 ∷ 99 ∷ [])) ∷ []); info = record { version = None; time = None; changeset = None; uid = None; user = None; visible = None } })) ∷ []), ([]), refl, record { is_message = refl; one_kind = lit≤ tt; elements_are = (([]), ((Relation (record { id = pos 9; members = ((record { kind = kinds.Node; id = pos 1; role = (111 ∷ 117 ∷ 116 ∷ 101 ∷ 114 ∷ []) }) ∷ (record { kind = kinds.Way; id = negsuc 1; role = ([]) }) ∷ []); tags = (((110 ∷ 97 ∷ 109 ∷ 101 ∷ []), (97 ∷ 32 ∷ 98 ∷ 44 ∷ 99 ∷ [])) ∷ []); info = record { version = None; time = None; changeset = None; uid = None; user = None; visible = None } })) ∷ []), refl, (tt, ([], refl, record { ids_are = record { are = refl; fit = tt }; lats_are = (([]), record { are = refl; fit = tt }, refl); lons_are = (([]), record { are = refl; fit = tt }, refl); tags_are = (([]), inr (refl, tt), refl); infos_are = record { versions_are = refl; times_are = (([]), record { are = refl; fit = tt }, refl); changesets_are = (([]), record { are = refl; fit = tt }, refl); uids_are = (([]), record { are = refl; fit = tt }, refl); users_are = (([]), record { are = refl; fit = tt }, refl); visibles_are = refl; in_range = tt }; in_range = tt })), (((Relation (record { id = pos 9; members = ((record { kind = kinds.Node; id = pos 1; role = (111 ∷ 117 ∷ 116 ∷ 101 ∷ 114 ∷ []) }) ∷ (record { kind = kinds.Way; id = negsuc 1; role = ([]) }) ∷ []); tags = (((110 ∷ 97 ∷ 109 ∷ 101 ∷ []), (97 ∷ 32 ∷ 98 ∷ 44 ∷ 99 ∷ [])) ∷ []); info = record { version = None; time = None; changeset = None; uid = None; user = None; visible = None } })) ∷ []), ([]), refl, ((refl, (refl, (refl, (refl, (refl, (refl, tt)))))), ((record { id = pos 9; members = ((record { kind = kinds.Node; id = pos 1; role = (111 ∷ 117 ∷ 116 ∷ 101 ∷ 114 ∷ []) }) ∷ (record { kind = kinds.Way; id = negsuc 1; role = ([]) }) ∷ []); tags = (((110 ∷ 97 ∷ 109 ∷ 101 ∷ []), (97 ∷ 32 ∷ 98 ∷ 44 ∷ 99 ∷ [])) ∷ []); info = record { version = None; time = None; changeset = None; uid = None; user = None; visible = None } }), refl, record { id_is = refl; memids_are = record { are = refl; fit = (record { sfits = lit< tt }, (record { sfits = lit< tt }, tt)) }; roles_are = refl; types_are = refl; tags_are = record { keys_are = refl; vals_are = refl }; info_is = record { version_is = refl; time_is = refl; changeset_is = refl; uid_is = refl; user_is = refl; visible_is = refl; in_range = info_from _ refl }; in_range = relation_from _ refl })), refl)) }, refl);
}

pub way_with_info_says : Block VectorElements.way_with_info_elements Vectors.way_with_info
unfolding is_utf8 chars number_within number_at value_at field_at next_at items_within items_from row_within lib.Utf8.encode
way_with_info_says = record {
  is_message = refl;
  has_table = refl;
  tables_are = (refl, tt);
  texts_are = (record { utf8 = (([]), (refl, refl)); no_nul = refl }, (record { utf8 = ((117 ∷ []), (refl, refl)); no_nul = refl }, tt));
  granularity = omega (arith, ints);
  date_granularity = omega (arith, ints);
  elements_are = (((Way (record { id = pos 7; refs = ([]); tags = ([]); info = record { version = Some (pos 2); time = Some (pos 3000); changeset = Some (pos 4); uid = Some (negsuc 0); user = Some (117 ∷ []); visible = None } })) ∷ []), ([]), refl, record { is_message = refl; one_kind = lit≤ tt; elements_are = (([]), ((Way (record { id = pos 7; refs = ([]); tags = ([]); info = record { version = Some (pos 2); time = Some (pos 3000); changeset = Some (pos 4); uid = Some (negsuc 0); user = Some (117 ∷ []); visible = None } })) ∷ []), refl, (tt, ([], refl, record { ids_are = record { are = refl; fit = tt }; lats_are = (([]), record { are = refl; fit = tt }, refl); lons_are = (([]), record { are = refl; fit = tt }, refl); tags_are = (([]), inr (refl, tt), refl); infos_are = record { versions_are = refl; times_are = (([]), record { are = refl; fit = tt }, refl); changesets_are = (([]), record { are = refl; fit = tt }, refl); uids_are = (([]), record { are = refl; fit = tt }, refl); users_are = (([]), record { are = refl; fit = tt }, refl); visibles_are = refl; in_range = tt }; in_range = tt })), (((Way (record { id = pos 7; refs = ([]); tags = ([]); info = record { version = Some (pos 2); time = Some (pos 3000); changeset = Some (pos 4); uid = Some (negsuc 0); user = Some (117 ∷ []); visible = None } })) ∷ []), ([]), refl, ((refl, (refl, tt)), ((record { id = pos 7; refs = ([]); tags = ([]); info = record { version = Some (pos 2); time = Some (pos 3000); changeset = Some (pos 4); uid = Some (negsuc 0); user = Some (117 ∷ []); visible = None } }), refl, record { id_is = refl; refs_are = record { are = refl; fit = tt }; tags_are = record { keys_are = refl; vals_are = refl }; info_is = record { version_is = refl; time_is = refl; changeset_is = refl; uid_is = refl; user_is = refl; visible_is = refl; in_range = info_from _ refl }; in_range = way_from _ refl })), refl)) }, refl);
}

pub nodes_with_info_says : Block VectorElements.nodes_with_info_elements Vectors.nodes_with_info
unfolding is_utf8 chars number_within number_at value_at field_at next_at items_within items_from row_within lib.Utf8.encode
nodes_with_info_says = record {
  is_message = refl;
  has_table = refl;
  tables_are = (refl, tt);
  texts_are = (record { utf8 = (([]), (refl, refl)); no_nul = refl }, (record { utf8 = ((117 ∷ []), (refl, refl)); no_nul = refl }, tt));
  granularity = omega (arith, ints);
  date_granularity = omega (arith, ints);
  elements_are = (((Node (record { id = pos 1; lat = pos 0; lon = pos 0; tags = ([]); info = record { version = Some (pos 1); time = Some (pos 1000); changeset = Some (pos 5); uid = Some (pos 7); user = Some (117 ∷ []); visible = None } })) ∷ (Node (record { id = pos 2; lat = pos 0; lon = pos 0; tags = ([]); info = record { version = Some (pos 2); time = Some (pos 2000); changeset = Some (pos 5); uid = Some (pos 7); user = Some (117 ∷ []); visible = None } })) ∷ []), ([]), refl, record { is_message = refl; one_kind = lit≤ tt; elements_are = (((Node (record { id = pos 1; lat = pos 0; lon = pos 0; tags = ([]); info = record { version = Some (pos 1); time = Some (pos 1000); changeset = Some (pos 5); uid = Some (pos 7); user = Some (117 ∷ []); visible = None } })) ∷ (Node (record { id = pos 2; lat = pos 0; lon = pos 0; tags = ([]); info = record { version = Some (pos 2); time = Some (pos 2000); changeset = Some (pos 5); uid = Some (pos 7); user = Some (117 ∷ []); visible = None } })) ∷ []), ([]), refl, ((refl, (refl, (refl, (refl, (refl, (refl, (refl, (refl, (refl, (refl, tt)))))))))), (((record { id = pos 1; lat = pos 0; lon = pos 0; tags = ([]); info = record { version = Some (pos 1); time = Some (pos 1000); changeset = Some (pos 5); uid = Some (pos 7); user = Some (117 ∷ []); visible = None } }) ∷ (record { id = pos 2; lat = pos 0; lon = pos 0; tags = ([]); info = record { version = Some (pos 2); time = Some (pos 2000); changeset = Some (pos 5); uid = Some (pos 7); user = Some (117 ∷ []); visible = None } }) ∷ []), refl, record { ids_are = record { are = refl; fit = (record { sfits = lit< tt }, (record { sfits = lit< tt }, tt)) }; lats_are = ((pos 0 ∷ pos 0 ∷ []), record { are = refl; fit = (record { sfits = lit< tt }, (record { sfits = lit< tt }, tt)) }, refl); lons_are = ((pos 0 ∷ pos 0 ∷ []), record { are = refl; fit = (record { sfits = lit< tt }, (record { sfits = lit< tt }, tt)) }, refl); tags_are = ((([]) ∷ ([]) ∷ []), inr (refl, (refl, (refl, tt))), refl); infos_are = record { versions_are = refl; times_are = ((pos 1 ∷ pos 2 ∷ []), record { are = refl; fit = (record { sfits = lit< tt }, (record { sfits = lit< tt }, tt)) }, refl); changesets_are = ((pos 5 ∷ pos 5 ∷ []), record { are = refl; fit = (record { sfits = lit< tt }, (record { sfits = lit< tt }, tt)) }, refl); uids_are = ((pos 7 ∷ pos 7 ∷ []), record { are = refl; fit = (record { sfits = lit< tt }, (record { sfits = lit< tt }, tt)) }, refl); users_are = ((pos 1 ∷ pos 1 ∷ []), record { are = refl; fit = (record { sfits = lit< tt }, (record { sfits = lit< tt }, tt)) }, refl); visibles_are = refl; in_range = (info_from _ refl, (info_from _ refl, tt)) }; in_range = (node_from _ refl, (node_from _ refl, tt)) })), refl) }, refl);
}

pub visible_node_says : Block VectorElements.visible_node_elements Vectors.visible_node
unfolding is_utf8 chars number_within number_at value_at field_at next_at items_within items_from row_within lib.Utf8.encode
visible_node_says = record {
  is_message = refl;
  has_table = refl;
  tables_are = (refl, tt);
  texts_are = (record { utf8 = (([]), (refl, refl)); no_nul = refl }, tt);
  granularity = omega (arith, ints);
  date_granularity = omega (arith, ints);
  elements_are = (((Node (record { id = pos 1; lat = pos 100; lon = pos 100; tags = ([]); info = record { version = None; time = None; changeset = None; uid = None; user = None; visible = Some true } })) ∷ []), ([]), refl, record { is_message = refl; one_kind = lit≤ tt; elements_are = (((Node (record { id = pos 1; lat = pos 100; lon = pos 100; tags = ([]); info = record { version = None; time = None; changeset = None; uid = None; user = None; visible = Some true } })) ∷ []), ([]), refl, ((refl, (refl, tt)), ((record { id = pos 1; lat = pos 100; lon = pos 100; tags = ([]); info = record { version = None; time = None; changeset = None; uid = None; user = None; visible = Some true } }), refl, record { id_is = refl; lat_is = refl; lon_is = refl; tags_are = record { keys_are = refl; vals_are = refl }; info_is = record { version_is = refl; time_is = refl; changeset_is = refl; uid_is = refl; user_is = refl; visible_is = refl; in_range = info_from _ refl }; in_range = node_from _ refl })), (([]), ([]), refl, (tt, ([], refl, record { ids_are = record { are = refl; fit = tt }; lats_are = (([]), record { are = refl; fit = tt }, refl); lons_are = (([]), record { are = refl; fit = tt }, refl); tags_are = (([]), inr (refl, tt), refl); infos_are = record { versions_are = refl; times_are = (([]), record { are = refl; fit = tt }, refl); changesets_are = (([]), record { are = refl; fit = tt }, refl); uids_are = (([]), record { are = refl; fit = tt }, refl); users_are = (([]), record { are = refl; fit = tt }, refl); visibles_are = refl; in_range = tt }; in_range = tt })), refl)) }, refl);
}

pub visible_dense_node_says : Block VectorElements.visible_node_elements Vectors.visible_dense_node
unfolding is_utf8 chars number_within number_at value_at field_at next_at items_within items_from row_within lib.Utf8.encode
visible_dense_node_says = record {
  is_message = refl;
  has_table = refl;
  tables_are = (refl, tt);
  texts_are = (record { utf8 = (([]), (refl, refl)); no_nul = refl }, tt);
  granularity = omega (arith, ints);
  date_granularity = omega (arith, ints);
  elements_are = (((Node (record { id = pos 1; lat = pos 100; lon = pos 100; tags = ([]); info = record { version = None; time = None; changeset = None; uid = None; user = None; visible = Some true } })) ∷ []), ([]), refl, record { is_message = refl; one_kind = lit≤ tt; elements_are = (((Node (record { id = pos 1; lat = pos 100; lon = pos 100; tags = ([]); info = record { version = None; time = None; changeset = None; uid = None; user = None; visible = Some true } })) ∷ []), ([]), refl, (((refl, (refl, (refl, (refl, (refl, (refl, tt))))))), (((record { id = pos 1; lat = pos 100; lon = pos 100; tags = ([]); info = record { version = None; time = None; changeset = None; uid = None; user = None; visible = Some true } }) ∷ []), refl, record { ids_are = record { are = refl; fit = (record { sfits = lit< tt }, tt) }; lats_are = ((pos 1 ∷ []), record { are = refl; fit = (record { sfits = lit< tt }, tt) }, refl); lons_are = ((pos 1 ∷ []), record { are = refl; fit = (record { sfits = lit< tt }, tt) }, refl); tags_are = ((([]) ∷ []), inr (refl, (refl, tt)), refl); infos_are = record { versions_are = refl; times_are = (([]), record { are = refl; fit = tt }, refl); changesets_are = (([]), record { are = refl; fit = tt }, refl); uids_are = (([]), record { are = refl; fit = tt }, refl); users_are = (([]), record { are = refl; fit = tt }, refl); visibles_are = refl; in_range = (info_from _ refl, tt) }; in_range = (node_from _ refl, tt) })), refl) }, refl);
}

pub hidden_way_says : Block VectorElements.hidden_way_elements Vectors.hidden_way
unfolding is_utf8 chars number_within number_at value_at field_at next_at items_within items_from row_within lib.Utf8.encode
hidden_way_says = record {
  is_message = refl;
  has_table = refl;
  tables_are = (refl, tt);
  texts_are = (record { utf8 = (([]), (refl, refl)); no_nul = refl }, tt);
  granularity = omega (arith, ints);
  date_granularity = omega (arith, ints);
  elements_are = (((Way (record { id = pos 7; refs = ([]); tags = ([]); info = record { version = None; time = None; changeset = None; uid = None; user = None; visible = Some false } })) ∷ []), ([]), refl, record { is_message = refl; one_kind = lit≤ tt; elements_are = (([]), ((Way (record { id = pos 7; refs = ([]); tags = ([]); info = record { version = None; time = None; changeset = None; uid = None; user = None; visible = Some false } })) ∷ []), refl, (tt, ([], refl, record { ids_are = record { are = refl; fit = tt }; lats_are = (([]), record { are = refl; fit = tt }, refl); lons_are = (([]), record { are = refl; fit = tt }, refl); tags_are = (([]), inr (refl, tt), refl); infos_are = record { versions_are = refl; times_are = (([]), record { are = refl; fit = tt }, refl); changesets_are = (([]), record { are = refl; fit = tt }, refl); uids_are = (([]), record { are = refl; fit = tt }, refl); users_are = (([]), record { are = refl; fit = tt }, refl); visibles_are = refl; in_range = tt }; in_range = tt })), (((Way (record { id = pos 7; refs = ([]); tags = ([]); info = record { version = None; time = None; changeset = None; uid = None; user = None; visible = Some false } })) ∷ []), ([]), refl, ((refl, (refl, tt)), ((record { id = pos 7; refs = ([]); tags = ([]); info = record { version = None; time = None; changeset = None; uid = None; user = None; visible = Some false } }), refl, record { id_is = refl; refs_are = record { are = refl; fit = tt }; tags_are = record { keys_are = refl; vals_are = refl }; info_is = record { version_is = refl; time_is = refl; changeset_is = refl; uid_is = refl; user_is = refl; visible_is = refl; in_range = info_from _ refl }; in_range = way_from _ refl })), refl)) }, refl);
}
