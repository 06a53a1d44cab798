-- An element as a line of text.
use Rattle.std.specs.Prelude.{ℕ, zero, suc, List, [], ◌∷◌, ◌++◌, map, ℤ, Bool, if◌then◌else◌, option_map, option_to_list, codes}
use Rattle.std.specs.List.{join_with_byte}
use Rattle.std.specs.Fmt.{signed_decimal}
use Rattle.osm_value.specs.declared.element.MemberKind.{MemberKind}
use Rattle.osm_value.specs.declared.element.MemberKind.TheVariants as kinds
use Rattle.osm_value.specs.declared.element.Element.{Element}
use Rattle.osm_value.specs.declared.element.Element.TheVariants.{Node, Way, Relation}
use Rattle.osm_value.specs.Value.{Text, InfoValue, MemberValue}
use Rattle.osm_value.specs.Escape.{escaped}

-- joined by commas
abbrev pub commas : List (List ℕ) → List ℕ
commas pieces = join_with_byte 44 pieces

-- what stands before the piece at that index
abbrev pub comma_before : ℕ → List ℕ
comma_before zero = []
comma_before (suc n) = 44 ∷ []

abbrev pub tag_text : Text × Text → List ℕ
tag_text t = escaped t.0 ++ 61 ∷ escaped t.1

abbrev pub number_info : ℕ → ℤ → List ℕ
number_info letter z = letter ∷ 61 ∷ signed_decimal z

abbrev pub user_info : Text → List ℕ
user_info t = 117 ∷ 61 ∷ escaped t

-- 1 is visible, 0 is not
abbrev pub visible_digit : Bool → ℕ
visible_digit b = if b then 49 else 48

abbrev pub visible_info : Bool → List ℕ
visible_info b = 120 ∷ 61 ∷ visible_digit b ∷ []

-- what is there: v= t= c= i= u= x=
abbrev pub info_texts : InfoValue → List (List ℕ)
info_texts i = option_to_list (option_map (number_info 118) i.version)
    ++ option_to_list (option_map (number_info 116) i.time)
    ++ option_to_list (option_map (number_info 99) i.changeset)
    ++ option_to_list (option_map (number_info 105) i.uid)
    ++ option_to_list (option_map user_info i.user)
    ++ option_to_list (option_map visible_info i.visible)

abbrev pub tail_text : InfoValue → List (Text × Text) → List ℕ
tail_text i tags = codes " [" ++ commas (info_texts i) ++ codes "] {" ++ commas (map tag_text tags) ++ codes "}\n"

abbrev pub letter_of : MemberKind → ℕ
letter_of kinds.Node = 110
letter_of kinds.Way = 119
letter_of kinds.Relation = 114

abbrev pub member_text : MemberValue → List ℕ
member_text m = letter_of m.kind ∷ signed_decimal m.id ++ 64 ∷ escaped m.role

-- an element's line: kind and id, what it has of its own, what is known of its last change in `[ ]`, its tags in `{ }`, a line feed
abbrev pub line : Element → List ℕ
line (Node n) = codes "n " ++ signed_decimal n.id ++ codes " " ++ signed_decimal n.lat ++ codes " " ++ signed_decimal n.lon ++ tail_text n.info n.tags
line (Way w) = codes "w " ++ signed_decimal w.id ++ codes " (" ++ commas (map signed_decimal w.refs) ++ codes ")" ++ tail_text w.info w.tags
line (Relation r) = codes "r " ++ signed_decimal r.id ++ codes " (" ++ commas (map member_text r.members) ++ codes ")" ++ tail_text r.info r.tags
