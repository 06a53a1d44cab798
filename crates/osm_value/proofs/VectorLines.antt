-- The lines of elements, computed.
use Rattle.std.specs.Prelude.{◌≡◌, [], ◌∷◌, ◌++◌, refl, Some, None, true, false, pos, negsuc, codes, map}
use Rattle.std.specs.Fmt.{digits}
use Rattle.osm_value.specs.declared.element.MemberKind.TheVariants as kinds
use Rattle.osm_value.specs.declared.element.Element.TheVariants.{Node, Way, Relation}
use Rattle.osm_value.specs.Line.{line}

two_nodes : map line ((Node (record { id = pos 1; lat = pos 1000; lon = negsuc 99; tags = ([]); info = record { version = None; time = None; changeset = None; uid = None; user = None; visible = None } })) ∷ (Node (record { id = pos 2; lat = pos 900; lon = negsuc 99; tags = ([]); info = record { version = None; time = None; changeset = None; uid = None; user = None; visible = None } })) ∷ []) ≡ codes "n 1 1000 -100 [] {}\n" ∷ codes "n 2 900 -100 [] {}\n" ∷ []
unfolding digits
two_nodes = refl

one_tag : map line ((Node (record { id = pos 1; lat = pos 0; lon = pos 0; tags = (((97 ∷ []), (98 ∷ [])) ∷ []); info = record { version = None; time = None; changeset = None; uid = None; user = None; visible = None } })) ∷ (Node (record { id = pos 2; lat = pos 0; lon = pos 0; tags = ([]); info = record { version = None; time = None; changeset = None; uid = None; user = None; visible = None } })) ∷ []) ≡ codes "n 1 0 0 [] {a=b}\n" ∷ codes "n 2 0 0 [] {}\n" ∷ []
unfolding digits
one_tag = refl

way : map line ((Way (record { id = pos 7; refs = (pos 5 ∷ pos 6 ∷ pos 7 ∷ pos 6 ∷ []); tags = (((97 ∷ []), (98 ∷ [])) ∷ []); info = record { version = None; time = None; changeset = None; uid = None; user = None; visible = None } })) ∷ []) ≡ codes "w 7 (5,6,7,6) [] {a=b}\n" ∷ []
unfolding digits
way = refl

widest_place : map line ((Node (record { id = pos 1; lat = pos 4611686018427387903; lon = pos 0; tags = ([]); info = record { version = None; time = None; changeset = None; uid = None; user = None; visible = None } })) ∷ []) ≡ codes "n 1 4611686018427387903 0 [] {}\n" ∷ []
unfolding digits
widest_place = refl

relation : map line ((Relation (record { id = pos 9; members = ((record { kind = kinds.Node; id = pos 1; role = (111 ∷ 117 ∷ 116 ∷ 101 ∷ 114 ∷ []) }) ∷ (record { kind = kinds.Way; id = negsuc 1; role = ([]) }) ∷ []); tags = (((110 ∷ 97 ∷ 109 ∷ 101 ∷ []), (97 ∷ 32 ∷ 98 ∷ 44 ∷ 99 ∷ [])) ∷ []); info = record { version = None; time = None; changeset = None; uid = None; user = None; visible = None } })) ∷ []) ≡ codes "r 9 (n1@outer,w-2@) [] {name=a%20b%2Cc}\n" ∷ []
unfolding digits
relation = refl

info_of_a_way : map line ((Way (record { id = pos 7; refs = ([]); tags = ([]); info = record { version = Some (pos 2); time = Some (pos 3000); changeset = Some (pos 4); uid = Some (negsuc 0); user = Some (117 ∷ []); visible = None } })) ∷ []) ≡ codes "w 7 () [v=2,t=3000,c=4,i=-1,u=u] {}\n" ∷ []
unfolding digits
info_of_a_way = refl

info_of_nodes : map line ((Node (record { id = pos 1; lat = pos 0; lon = pos 0; tags = ([]); info = record { version = Some (pos 1); time = Some (pos 1000); changeset = Some (pos 5); uid = Some (pos 7); user = Some (117 ∷ []); visible = None } })) ∷ (Node (record { id = pos 2; lat = pos 0; lon = pos 0; tags = ([]); info = record { version = Some (pos 2); time = Some (pos 2000); changeset = Some (pos 5); uid = Some (pos 7); user = Some (117 ∷ []); visible = None } })) ∷ []) ≡ codes "n 1 0 0 [v=1,t=1000,c=5,i=7,u=u] {}\n" ∷ codes "n 2 0 0 [v=2,t=2000,c=5,i=7,u=u] {}\n" ∷ []
unfolding digits
info_of_nodes = refl

escapes : line (Node (record { id = negsuc 2; lat = pos 5; lon = pos 0; tags = (((107 ∷ []), (195 ∷ 169 ∷ 37 ∷ [])) ∷ []); info = record { version = None; time = None; changeset = None; uid = None; user = Some (120 ∷ 32 ∷ 121 ∷ []); visible = None } })) ≡ codes "n -3 5 0 [u=x%20y] {k=" ++ 195 ∷ 169 ∷ codes "%25}\n"
unfolding digits
escapes = refl

visible_node : line (Node (record { id = pos 1; lat = pos 100; lon = pos 100; tags = ([]); info = record { version = None; time = None; changeset = None; uid = None; user = None; visible = Some true } })) ≡ codes "n 1 100 100 [x=1] {}\n"
unfolding digits
visible_node = refl

hidden_way : line (Way (record { id = pos 7; refs = ([]); tags = ([]); info = record { version = None; time = None; changeset = None; uid = None; user = None; visible = Some false } })) ≡ codes "w 7 () [x=0] {}\n"
unfolding digits
hidden_way = refl

flag_behind_the_user : line (Way (record { id = pos 7; refs = ([]); tags = ([]); info = record { version = Some (pos 2); time = None; changeset = None; uid = None; user = Some (117 ∷ []); visible = Some false } })) ≡ codes "w 7 () [v=2,u=u,x=0] {}\n"
unfolding digits
flag_behind_the_user = refl
