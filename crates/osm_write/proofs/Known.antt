-- What a scale has to hold for the elements that are written with it.
use Rattle.std.proofs.Common.{◌≡◌, ◌-◌, ◌^◌, ◌<◌, List, [], ◌∷◌, map, refl, ap, ◌∙◌, arith, pos, Some}
use Rattle.std.specs.List.{AllByRecursion}
use Rattle.pbf_wire.specs.Readings.{uint32, int32}
use Rattle.osm_value.specs.Value.{Text}
use Rattle.osm_block.specs.Message.{Context}
use Rattle.osm_block.specs.Block.{text_at}
use Rattle.osm_write.specs.Canon.{Scale, index_of, tag_texts}
use Rattle.osm_write.proofs.Values.{uint32_read, int32_read}

-- what the block of the scale says for all its elements
abbrev pub context_of : Scale → Context
context_of s = record { table = [] ∷ s.texts; granularity = pos s.granularity; date_granularity = pos s.date_granularity; lat_offset = pos 0; lon_offset = pos 0 }

-- the text stands in the table at its index, which is small enough for each of its fields
pub record IsKnown (s : Scale) (t : Text) : Type 0 where
  pub small : index_of s t < 2 ^ 31 - 1
  pub text_is : text_at ([] ∷ s.texts) (pos (index_of s t)) ≡ Some t

pub record IsScale (s : Scale) : Type 0 where
  pub some : 0 < s.granularity
  pub small : s.granularity < 2 ^ 31
  pub date_some : 0 < s.date_granularity
  pub date_small : s.date_granularity < 2 ^ 31

pub known_uint32 : (s : Scale) (t : Text) → IsKnown s t → text_at ([] ∷ s.texts) (uint32 (index_of s t)) ≡ Some t
known_uint32 s t h = let lt = h.small in ap (text_at ([] ∷ s.texts)) (uint32_read (index_of s t) (omega arith)) ∙ h.text_is

pub known_int32 : (s : Scale) (t : Text) → IsKnown s t → text_at ([] ∷ s.texts) (int32 (index_of s t)) ≡ Some t
known_int32 s t h = let lt = h.small in ap (text_at ([] ∷ s.texts)) (int32_read (index_of s t) (omega arith)) ∙ h.text_is

pub indexes_fit : {A : Type 0} (s : Scale) (pick : A → Text) (xs : List A) → AllByRecursion (λ x. IsKnown s (pick x)) xs
    → AllByRecursion (λ n. n < 2 ^ 64) (map (λ x. index_of s (pick x)) xs)
indexes_fit s pick [] all = tt
indexes_fit s pick (x ∷ xs) all = (let lt = all.0.small in omega arith, indexes_fit s pick xs all.1)

pub texts_uint32 : {A : Type 0} (s : Scale) (pick : A → Text) (xs : List A) → AllByRecursion (λ x. IsKnown s (pick x)) xs
    → map (λ x. Some (pick x)) xs ≡ map (text_at ([] ∷ s.texts)) (map uint32 (map (λ x. index_of s (pick x)) xs))
texts_uint32 s pick [] all = refl
texts_uint32 s pick (x ∷ xs) all = let e = known_uint32 s (pick x) all.0 in let again = texts_uint32 s pick xs all.1 in cc

pub texts_int32 : {A : Type 0} (s : Scale) (pick : A → Text) (xs : List A) → AllByRecursion (λ x. IsKnown s (pick x)) xs
    → map (λ x. Some (pick x)) xs ≡ map (text_at ([] ∷ s.texts)) (map int32 (map (λ x. index_of s (pick x)) xs))
texts_int32 s pick [] all = refl
texts_int32 s pick (x ∷ xs) all = let e = known_int32 s (pick x) all.0 in let again = texts_int32 s pick xs all.1 in cc

-- the texts of tags
pub keys_known : (s : Scale) (tags : List (Text × Text)) → AllByRecursion (IsKnown s) (tag_texts tags) → AllByRecursion (λ (t : Text × Text). IsKnown s t.0) tags
keys_known s [] all = tt
keys_known s (t ∷ tags) all = (all.0, keys_known s tags all.1.1)

pub values_known : (s : Scale) (tags : List (Text × Text)) → AllByRecursion (IsKnown s) (tag_texts tags) → AllByRecursion (λ (t : Text × Text). IsKnown s t.1) tags
values_known s [] all = tt
values_known s (t ∷ tags) all = (all.1.0, values_known s tags all.1.1)
