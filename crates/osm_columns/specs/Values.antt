-- What a column has of one element.
use Rattle.std.specs.Prelude.{ℕ, ◌^◌, ◌-◌, List, [], ℤ, pos, negsuc, Option, Some, None, Bool, true, false, unwrap_or}
use Rattle.osm_value.specs.declared.element.Element.{Element}
use Rattle.osm_value.specs.declared.element.Element.TheVariants.{Node, Way, Relation}
use Rattle.osm_value.specs.declared.element.MemberKind.{MemberKind}
use Rattle.osm_value.specs.declared.element.MemberKind.TheVariants as kinds
use Rattle.osm_value.specs.Value.{Text, InfoValue, MemberValue}
use Rattle.osm_value.specs.Elements.{info_of_element, kind_of_element}

-- 0 for a node, 1 for a way, 2 for a relation
abbrev pub number_of_kind : MemberKind → ℕ
number_of_kind kinds.Node = 0
number_of_kind kinds.Way = 1
number_of_kind kinds.Relation = 2

abbrev pub kind_number : Element → ℕ
kind_number e = number_of_kind (kind_of_element e)

-- in nanodegrees; 0 where the element has no place
abbrev pub lat_of_element : Element → ℤ
lat_of_element (Node n) = n.lat
lat_of_element (Way w) = pos 0
lat_of_element (Relation r) = pos 0

abbrev pub lon_of_element : Element → ℤ
lon_of_element (Node n) = n.lon
lon_of_element (Way w) = pos 0
lon_of_element (Relation r) = pos 0

-- What stands for a number that is not there: the least of 32 bits, the least of 64 bits, and -1 for a version. No such number
-- that is there is one of these.
abbrev pub no_int : ℤ
no_int = negsuc (2 ^ 31 - 1)

abbrev pub no_long : ℤ
no_long = negsuc (2 ^ 63 - 1)

abbrev pub version_in : InfoValue → ℤ
version_in i = unwrap_or i.version (negsuc 0)

abbrev pub time_in : InfoValue → ℤ
time_in i = unwrap_or i.time no_long

abbrev pub changeset_in : InfoValue → ℤ
changeset_in i = unwrap_or i.changeset no_long

abbrev pub uid_in : InfoValue → ℤ
uid_in i = unwrap_or i.uid no_int

-- 1 for visible, 0 for deleted, 2 where that is not said
abbrev pub number_of_flag : Option Bool → ℕ
number_of_flag (Some false) = 0
number_of_flag (Some true) = 1
number_of_flag None = 2

abbrev pub flag_in : InfoValue → ℕ
flag_in i = number_of_flag i.visible

abbrev pub version_of_element : Element → ℤ
version_of_element e = version_in (info_of_element e)

abbrev pub time_of_element : Element → ℤ
time_of_element e = time_in (info_of_element e)

abbrev pub changeset_of_element : Element → ℤ
changeset_of_element e = changeset_in (info_of_element e)

abbrev pub uid_of_element : Element → ℤ
uid_of_element e = uid_in (info_of_element e)

abbrev pub flag_of_element : Element → ℕ
flag_of_element e = flag_in (info_of_element e)

abbrev pub user_of_element : Element → Option Text
user_of_element e = (info_of_element e).user

abbrev pub refs_of_element : Element → List ℤ
refs_of_element (Way w) = w.refs
refs_of_element (Node n) = []
refs_of_element (Relation r) = []

abbrev pub members_of_element : Element → List MemberValue
members_of_element (Relation r) = r.members
members_of_element (Node n) = []
members_of_element (Way w) = []
