-- Elements as values: absolute numbers, and the bytes of texts.
-- OpenStreetMap Wiki, "Elements"; osmformat.proto, Node, Way, Relation and Info.
use Rattle.std.specs.Prelude.{ℕ, ℤ, List, Option, Bool}
use Rattle.osm_value.specs.declared.element.MemberKind.{MemberKind}

abbrev pub Text : Type 0
Text = List ℕ

-- coordinates are nanodegrees, times are milliseconds; what is absent is None
pub record InfoValue : Type 0 where
  pub version : Option ℤ
  pub time : Option ℤ
  pub changeset : Option ℤ
  pub uid : Option ℤ
  pub user : Option Text
  pub visible : Option Bool

pub record MemberValue : Type 0 where
  pub kind : MemberKind
  pub id : ℤ
  pub role : Text

pub record NodeValue : Type 0 where
  pub id : ℤ
  pub lat : ℤ
  pub lon : ℤ
  pub tags : List (Text × Text)
  pub info : InfoValue

pub record WayValue : Type 0 where
  pub id : ℤ
  pub refs : List ℤ
  pub tags : List (Text × Text)
  pub info : InfoValue

pub record RelationValue : Type 0 where
  pub id : ℤ
  pub members : List MemberValue
  pub tags : List (Text × Text)
  pub info : InfoValue
