-- What was read of the arrays of dense nodes.
use Rattle.std.specs.Prelude.{◌≡◌, ℕ, ◌%◌, ◌^◌, List, map}
use Rattle.pbf_wire.specs.Field.{Entry}
use Rattle.pbf_wire.specs.Readings.{packed, each, nums}
use Rattle.osm_block.specs.declared.fields.TheConstants.{DENSEINFO_CHANGESET, DENSEINFO_TIMESTAMP, DENSEINFO_UID, DENSEINFO_USER_SID, DENSEINFO_VERSION, DENSEINFO_VISIBLE}
use Rattle.osm_block.specs.declared.number_array.NumberArray.{NumberArray}
use Rattle.osm_block.specs.declared.dense.fields.DenseInfoFields.{DenseInfoFields}
use Rattle.osm_block.specs.FieldsLeft.{first_there}

-- the array has the numbers of the fields k, and the first fault of their packed payloads
pub record ArrayRead (array : NumberArray) (k : ℕ) (fs : List Entry) : Type 0 where
  pub numbers : array.numbers.items ≡ nums fs k
  pub fault : array.fault ≡ first_there (map packed (each fs k))

-- the same, the numbers cut to 32 bits
pub record ArrayRead32 (array : NumberArray) (k : ℕ) (fs : List Entry) : Type 0 where
  pub numbers : array.numbers.items ≡ map (λ n. n % 2 ^ 32) (nums fs k)
  pub fault : array.fault ≡ first_there (map packed (each fs k))

pub record DenseInfoRead (info : DenseInfoFields) (fs : List Entry) : Type 0 where
  pub versions : ArrayRead info.versions DENSEINFO_VERSION fs
  pub timestamps : ArrayRead info.timestamps DENSEINFO_TIMESTAMP fs
  pub changesets : ArrayRead info.changesets DENSEINFO_CHANGESET fs
  pub uids : ArrayRead32 info.uids DENSEINFO_UID fs
  pub users : ArrayRead32 info.users DENSEINFO_USER_SID fs
  pub visible : ArrayRead info.visible DENSEINFO_VISIBLE fs
