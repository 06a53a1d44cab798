-- The ranges of an element's numbers and texts.
use Rattle.std.specs.Prelude.{ℤ, pos, negsuc, ◌^◌, ◌-◌, ◌==◌, List, Option, Some, None, Bool, true, ◌&&◌, not, int_le, IsTrue}
use Rattle.std.specs.List.{AllByRecursion, list_all}
use Rattle.std.specs.Str.{IsUtf8}
use Rattle.osm_value.specs.Value.{Text, InfoValue, MemberValue, NodeValue, WayValue, RelationValue}

-- an id, a reference, nanodegrees, milliseconds or a changeset: from -(2^62 - 1) to 2^62 - 1
abbrev pub is_wide : ℤ → Bool
is_wide z = int_le (negsuc (2 ^ 62 - 2)) z && int_le z (pos (2 ^ 62 - 1))

-- from 0 to 2,147,483,647
abbrev pub is_version : ℤ → Bool
is_version z = int_le (pos 0) z && int_le z (pos (2 ^ 31 - 1))

-- from -1 to 2,147,483,646
abbrev pub is_uid : ℤ → Bool
is_uid z = int_le (negsuc 0) z && int_le z (pos (2 ^ 31 - 2))

-- a text without U+0000
abbrev pub has_no_nul : Text → Bool
has_no_nul t = list_all (λ b. not (b == 0)) t

-- absent, or it passes the test
abbrev pub passes : {A : Type 0} → (A → Bool) → Option A → Bool
passes test None = true
passes test (Some x) = test x

abbrev pub IsWide : ℤ → Type 0
IsWide z = IsTrue (is_wide z)

-- UTF-8 without U+0000
pub record IsText (t : Text) : Type 0 where
  pub utf8 : IsUtf8 t
  pub no_nul : IsTrue (has_no_nul t)

abbrev pub IsTextOrNone : Option Text → Type 0
IsTextOrNone None = Unit {0}
IsTextOrNone (Some t) = IsText t

abbrev pub AreTags : List (Text × Text) → Type 0
AreTags tags = AllByRecursion (λ (t : Text × Text). IsText t.0 × IsText t.1) tags

-- an info inside its ranges, whatever its flag of visibility
pub record IsInfo (i : InfoValue) : Type 0 where
  pub version : IsTrue (passes is_version i.version)
  pub time : IsTrue (passes is_wide i.time)
  pub changeset : IsTrue (passes is_wide i.changeset)
  pub uid : IsTrue (passes is_uid i.uid)
  pub user : IsTextOrNone i.user

-- a member of a relation inside its ranges
pub record IsMember (m : MemberValue) : Type 0 where
  pub id : IsWide m.id
  pub role : IsText m.role

-- a node inside its ranges
pub record IsNode (n : NodeValue) : Type 0 where
  pub id : IsWide n.id
  pub lat : IsWide n.lat
  pub lon : IsWide n.lon
  pub tags : AreTags n.tags
  pub info : IsInfo n.info

-- a way inside its ranges
pub record IsWay (w : WayValue) : Type 0 where
  pub id : IsWide w.id
  pub refs : AllByRecursion IsWide w.refs
  pub tags : AreTags w.tags
  pub info : IsInfo w.info

-- a relation inside its ranges
pub record IsRelation (r : RelationValue) : Type 0 where
  pub id : IsWide r.id
  pub members : AllByRecursion IsMember r.members
  pub tags : AreTags r.tags
  pub info : IsInfo r.info
