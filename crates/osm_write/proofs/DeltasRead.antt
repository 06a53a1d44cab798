-- Arrays of differences are read back.
use Rattle.std.proofs.Common.{◌≡◌, ◌^◌, ◌<◌, List, [], ◌∷◌, map, refl, sym, ℤ, pos, ◌-ℤ◌, FitsSigned, w64, w32, IsTrue, arith}
use Rattle.std.proofs.lemmas.Int.{ints}
use Rattle.std.specs.List.{AllByRecursion}
use Rattle.pbf_wire.specs.Readings.{sint64, sint32}
use Rattle.pbf_wire.specs.Write.{zigzag}
use Rattle.osm_value.specs.Ranges.{IsWide, is_uid}
use Rattle.osm_value.proofs.Ranges.{wide_fits, difference_fits, all_weaker, uid_bounds, wide_within}
use Rattle.osm_block.specs.Differences.{differences, differences_from, Diff}
use Rattle.osm_write.proofs.Values.{sint64_read, sint32_read, zigzag_small}

differences_fit_from : (before : ℤ) (vs : List ℤ) → IsWide before → AllByRecursion IsWide vs → AllByRecursion (FitsSigned w64) (differences_from before vs)
differences_fit_from before [] wide all = tt
differences_fit_from before (v ∷ vs) wide all = (difference_fits v before all.0 wide, differences_fit_from v vs all.0 all.1)

pub differences_fit : (vs : List ℤ) → AllByRecursion IsWide vs → AllByRecursion (FitsSigned w64) (differences vs)
differences_fit vs all = differences_fit_from (pos 0) vs refl all

zigzags_small : (ds : List ℤ) → AllByRecursion (FitsSigned w64) ds → AllByRecursion (λ n. n < 2 ^ 64) (map zigzag ds)
zigzags_small [] all = tt
zigzags_small (d ∷ ds) all = (zigzag_small d all.0, zigzags_small ds all.1)

pub deltas_fit : (vs : List ℤ) → AllByRecursion IsWide vs → AllByRecursion (λ n. n < 2 ^ 64) (map zigzag (differences vs))
deltas_fit vs all = zigzags_small (differences vs) (differences_fit vs all)

sint64s_read : (ds : List ℤ) → map sint64 (map zigzag ds) ≡ ds
sint64s_read [] = refl
sint64s_read (d ∷ ds) = let a = sint64_read d in let b = sint64s_read ds in cc

sint32s_read : (ds : List ℤ) → AllByRecursion (FitsSigned w32) ds → map sint32 (map zigzag ds) ≡ ds
sint32s_read [] all = refl
sint32s_read (d ∷ ds) all = let a = sint32_read d all.0 in let b = sint32s_read ds all.1 in cc

-- the numbers of an array of differences
pub diff_read : (vs : List ℤ) → AllByRecursion IsWide vs → Diff vs (map sint64 (map zigzag (differences vs)))
diff_read vs all = record { are = sym (sint64s_read (differences vs)); fit = all_weaker IsWide (FitsSigned w64) vs wide_fits all }

-- the same of 32 bits
small_gap : (x y : ℤ) → IsTrue (is_uid x) → IsTrue (is_uid y) → FitsSigned w32 (x -ℤ y)
small_gap x y h k = let a = uid_bounds x h in let b = uid_bounds y k in search (arith, ints)

small_differences : (before : ℤ) (vs : List ℤ) → IsTrue (is_uid before) → AllByRecursion (λ v. IsTrue (is_uid v)) vs → AllByRecursion (FitsSigned w32) (differences_from before vs)
small_differences before [] first all = tt
small_differences before (v ∷ vs) first all = (small_gap v before all.0 first, small_differences v vs all.0 all.1)

pub small_is_wide : (z : ℤ) → IsTrue (is_uid z) → IsWide z
small_is_wide z h = let b = uid_bounds z h in wide_within z (search (arith, ints)) (search (arith, ints))

pub diff_read_32 : (vs : List ℤ) → AllByRecursion (λ v. IsTrue (is_uid v)) vs → Diff vs (map sint32 (map zigzag (differences vs)))
diff_read_32 vs all = record {
  are = sym (sint32s_read (differences vs) (small_differences (pos 0) vs refl all));
  fit = all_weaker (λ v. IsTrue (is_uid v)) (FitsSigned w64) vs (λ v h. wide_fits v (small_is_wide v h)) all;
}
