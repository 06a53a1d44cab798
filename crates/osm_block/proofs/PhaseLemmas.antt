-- The first phase that stands, where the ones before it don't.
use Rattle.std.proofs.Common.{◌≡◌, List, [], ◌∷◌, Bool, true, false, not, ◌&&◌, sym, ap, ◌∙◌, ℤ, Some, None, ◌++◌, is_none, ℕ, length, map, eq-eqb}
use Rattle.std.proofs.lemmas.List.{length-map}
use Rattle.osm_block.specs.Differences.{Diff}
use Rattle.osm_block.proofs.DifferencesLemmas.{Diff-are_sums}
use Rattle.std.specs.List.{list_all}
use Rattle.pbf_wire.specs.Readings.{uint32}
use Rattle.osm_block.specs.declared.fault.BlockFault.{BlockFault}
use Rattle.osm_block.specs.declared.fault.BlockFault.TheVariants as faults
use Rattle.osm_block.specs.Message.{Context, WayMessage}
use Rattle.osm_value.specs.Ranges.{is_wide, passes}
use Rattle.osm_block.specs.Differences.{front_sums, fits_i64}
use Rattle.osm_block.specs.Phases.{Phase, first, when, way_phases, same_length, info_in_range, all_in, user_indexes, is_index}

-- a phase that doesn't stand
pub skip : (p : Phase) (ps : List Phase) → p ≡ None → first (p ∷ ps) ≡ first ps
skip p ps e = ap (λ q. first (q ∷ ps)) e

pub pass : (b : Bool) (f : BlockFault) (ps : List Phase) → b ≡ true → first (when (not b) f ∷ ps) ≡ first ps
pass b f ps e = ap (λ c. first (when (not c) f ∷ ps)) e

-- one that does
pub stop : (b : Bool) (f : BlockFault) (ps : List Phase) → b ≡ false → first (when (not b) f ∷ ps) ≡ Some f
stop b f ps e = ap (λ c. first (when (not c) f ∷ ps)) e

-- the phases of a way from the ranges on
abbrev pub late_way_phases : Context → WayMessage → List Phase
late_way_phases b m =
    when (not (passes is_wide m.id && list_all is_wide (front_sums m.refs) && info_in_range b m.info)) faults.OutOfRange
    ∷ when (not (all_in b.table (m.keys ++ m.vals ++ user_indexes m.info))) faults.BadIndex ∷ []

pub late_way : (b : Context) (m : WayMessage) (id : ℤ) → m.id ≡ Some id → same_length m.keys m.vals ≡ true →
    when (not (list_all fits_i64 (front_sums m.refs))) faults.SumTooLarge ≡ None → first (way_phases b m) ≡ first (late_way_phases b m)
late_way b m id there even sums =
    skip (when (is_none m.id) faults.Missing) _ (ap (λ o. when (is_none o) faults.Missing) there)
    ∙ pass (same_length m.keys m.vals) faults.LengthsDiffer _ even
    ∙ skip (when (not (list_all fits_i64 (front_sums m.refs))) faults.SumTooLarge) _ sums

-- what is known of a way once its references are taken
pub record WayRead (b : Context) (m : WayMessage) (id : ℤ) (refs : List ℤ) : Type 0 where
  pub there : m.id ≡ Some id
  pub even : same_length m.keys m.vals ≡ true
  pub sums : when (not (list_all fits_i64 (front_sums m.refs))) faults.SumTooLarge ≡ None
  pub diff : Diff refs m.refs

abbrev pub ways_range : Context → WayMessage → Bool
ways_range b m = passes is_wide m.id && list_all is_wide (front_sums m.refs) && info_in_range b m.info

pub range_is : (b : Context) (m : WayMessage) (id : ℤ) (refs : List ℤ) (i : ℤ) (rs : List ℤ) (t : Bool) → WayRead b m id refs → i ≡ id → rs ≡ refs →
    t ≡ (is_wide i && list_all is_wide rs && info_in_range b m.info) → t ≡ ways_range b m
range_is b m id refs i rs t r same same_refs is =
    let wide : is_wide i ≡ passes is_wide m.id = ap is_wide same ∙ ap (passes is_wide) (sym r.there) in
    let all : list_all is_wide rs ≡ list_all is_wide (front_sums m.refs) = ap (list_all is_wide) (same_refs ∙ Diff-are_sums refs m.refs r.diff) in
    is ∙ ap (λ w. w && list_all is_wide rs && info_in_range b m.info) wide ∙ ap (λ w. passes is_wide m.id && w && info_in_range b m.info) all

late : (b : Context) (m : WayMessage) (id : ℤ) (refs : List ℤ) → WayRead b m id refs → first (way_phases b m) ≡ first (late_way_phases b m)
late b m id refs r = late_way b m id r.there r.even r.sums

pub fails_range : (b : Context) (m : WayMessage) (id : ℤ) (refs : List ℤ) (t : Bool) → WayRead b m id refs → t ≡ ways_range b m → t ≡ false → first (way_phases b m) ≡ Some faults.OutOfRange
fails_range b m id refs t r is fails = late b m id refs r ∙ stop (ways_range b m) faults.OutOfRange _ (sym is ∙ fails)

index_is : (b : Context) (m : WayMessage) (n : ℕ) (u : Bool) → n ≡ length b.table → u ≡ list_all (is_index n) (m.keys ++ m.vals ++ user_indexes m.info) → u ≡ all_in b.table (m.keys ++ m.vals ++ user_indexes m.info)
index_is b m n u len is = is ∙ ap (λ k. list_all (is_index k) (m.keys ++ m.vals ++ user_indexes m.info)) len

pub fails_index : (b : Context) (m : WayMessage) (id : ℤ) (refs : List ℤ) (t : Bool) (n : ℕ) (u : Bool) → WayRead b m id refs → t ≡ ways_range b m → t ≡ true →
    n ≡ length b.table → u ≡ list_all (is_index n) (m.keys ++ m.vals ++ user_indexes m.info) → u ≡ false → first (way_phases b m) ≡ Some faults.BadIndex
fails_index b m id refs t n u r is passed len fits fails =
    late b m id refs r ∙ pass (ways_range b m) faults.OutOfRange _ (sym is ∙ passed) ∙ stop (all_in b.table (m.keys ++ m.vals ++ user_indexes m.info)) faults.BadIndex [] (sym (index_is b m n u len fits) ∙ fails)

pub no_phase : (b : Context) (m : WayMessage) (id : ℤ) (refs : List ℤ) (t : Bool) (n : ℕ) (u : Bool) → WayRead b m id refs → t ≡ ways_range b m → t ≡ true →
    n ≡ length b.table → u ≡ list_all (is_index n) (m.keys ++ m.vals ++ user_indexes m.info) → u ≡ true → first (way_phases b m) ≡ None
no_phase b m id refs t n u r is passed len fits fine =
    late b m id refs r ∙ pass (ways_range b m) faults.OutOfRange _ (sym is ∙ passed) ∙ pass (all_in b.table (m.keys ++ m.vals ++ user_indexes m.info)) faults.BadIndex [] (sym (index_is b m n u len fits) ∙ fine)

pub even_from : (ks vs : List ℕ) → length ks ≡ length vs → same_length (map uint32 ks) (map uint32 vs) ≡ true
even_from ks vs e =
    let same : length (map uint32 ks) ≡ length (map uint32 vs) = length-map ks uint32 ∙ e ∙ sym (length-map vs uint32) in
    eq-eqb _ _ same
