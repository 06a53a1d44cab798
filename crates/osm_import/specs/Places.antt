-- What the place of a blob is to a map.
use Rattle.std.specs.Prelude.{◌≡◌, ◌≢◌, ℕ, ◌<◌, List, Some, None}
use Rattle.std.specs.FinMap.{get}
use Rattle.osm_rows.specs.Held.{Blob, HeldMap, IsFree}
use Rattle.osm_import.specs.declared.answer.Conflict.TheVariants.{Differs, Overlap}
use Rattle.osm_import.specs.declared.place.Place.{Place}
use Rattle.osm_import.specs.declared.place.Place.TheVariants.{Free, Held, Taken}

-- something that is held shares a byte with off..fin
pub record IsMet (held : HeldMap) (off fin : ℕ) : Type 0 where
  pub at : ℕ
  pub blob : Blob
  pub found : get held at ≡ Some blob
  pub starts : at < fin
  pub ends : off < blob.fin

-- Nothing that is held shares a byte with off..fin; or the offset is held, with this digest or with another; or it isn't, and something is met.
abbrev pub IsPlaceOf : HeldMap → ℕ → ℕ → List ℕ → Place → Type 0
IsPlaceOf held off fin digest Free = IsFree held off fin
IsPlaceOf held off fin digest Held = (blob : Blob) × (get held off ≡ Some blob) × (blob.digest ≡ digest)
IsPlaceOf held off fin digest (Taken Differs) = (blob : Blob) × (get held off ≡ Some blob) × (blob.digest ≢ digest)
IsPlaceOf held off fin digest (Taken Overlap) = (get held off ≡ None) × IsMet held off fin
