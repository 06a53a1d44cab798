-- An element of any kind.
use Rattle.std.specs.Prelude.{ℤ, List}
use Rattle.osm_value.specs.declared.element.Element.{Element}
use Rattle.osm_value.specs.declared.element.Element.TheVariants.{Node, Way, Relation}
use Rattle.osm_value.specs.declared.element.MemberKind.{MemberKind}
use Rattle.osm_value.specs.declared.element.MemberKind.TheVariants as kinds
use Rattle.osm_value.specs.Value.{Text, InfoValue}
use Rattle.osm_value.specs.Ranges.{IsNode, IsWay, IsRelation}

-- an element inside its ranges
abbrev pub IsElement : Element → Type 0
IsElement (Node n) = IsNode n
IsElement (Way w) = IsWay w
IsElement (Relation r) = IsRelation r

-- whether it is a node, a way or a relation
abbrev pub kind_of_element : Element → MemberKind
kind_of_element (Node n) = kinds.Node
kind_of_element (Way w) = kinds.Way
kind_of_element (Relation r) = kinds.Relation

-- its id
abbrev pub id_of_element : Element → ℤ
id_of_element (Node n) = n.id
id_of_element (Way w) = w.id
id_of_element (Relation r) = r.id

-- its tags, in order
abbrev pub tags_of_element : Element → List (Text × Text)
tags_of_element (Node n) = n.tags
tags_of_element (Way w) = w.tags
tags_of_element (Relation r) = r.tags

-- what is known of its last change
abbrev pub info_of_element : Element → InfoValue
info_of_element (Node n) = n.info
info_of_element (Way w) = w.info
info_of_element (Relation r) = r.info
