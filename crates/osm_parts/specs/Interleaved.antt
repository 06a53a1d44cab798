-- Parts that don't follow one another.
use Rattle.std.specs.Prelude.{◌≡◌, ◌≢◌, ℕ, ◌<◌, ◌≤◌, List, Some, slice_get, IsPermutation}
use Rattle.std.specs.FinMap.{get}
use Rattle.osm_rows.specs.Held.{Blob, HeldMap}
use Rattle.osm_parts.specs.Parts.{FollowFrom, AreParts}

-- it has a blob that begins at the offset or before, and one that ends behind it
pub record Spans (held : HeldMap) (off : ℕ) : Type 0 where
  pub before : (at : ℕ) × (blob : Blob) × (get held at ≡ Some blob) × (at ≤ off)
  pub behind : (at : ℕ) × (blob : Blob) × (get held at ≡ Some blob) × (off < blob.fin)

-- one of the parts has a blob at this offset, and another spans it
pub record AreInterleaved (parts : List HeldMap) (off : ℕ) : Type 0 where
  pub one : ℕ
  pub other : ℕ
  pub apart : one ≢ other
  pub part : HeldMap
  pub spanning : HeldMap
  pub part_at : slice_get parts one ≡ Some part
  pub spanning_at : slice_get parts other ≡ Some spanning
  pub begins : (blob : Blob) × (get part off ≡ Some blob)
  pub spans : Spans spanning off

-- ---- the laws

-- parts that follow one another are those of a map
abbrev pub WholeExists : Type 0
WholeExists = (parts : List HeldMap) (from : ℕ) → FollowFrom from parts → (whole : HeldMap) × AreParts parts whole

-- parts that follow one another are those of one map alone
abbrev pub WholeIsOne : Type 0
WholeIsOne = (parts : List HeldMap) (whole other : HeldMap) → AreParts parts whole → AreParts parts other → whole ≡ other

-- parts that are interleaved follow one another in no order
abbrev pub NoneFollows : Type 0
NoneFollows = (parts ordered : List HeldMap) (from off : ℕ) → IsPermutation parts ordered → FollowFrom from ordered → ¬ (AreInterleaved parts off)
