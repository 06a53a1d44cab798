-- The first phase of a node that stands, where the ones before it don't.
use Rattle.std.proofs.Common.{◌≡◌, Bool, true, false, not, ◌&&◌, ◌||◌, sym, ap, ◌∙◌, ℤ, ℕ, [], ◌∷◌, ◌++◌, length, Option, Some, None, is_none}
use Rattle.std.specs.List.{list_all}
use Rattle.osm_block.specs.declared.fault.BlockFault.TheVariants as faults
use Rattle.osm_value.specs.Ranges.{is_wide, passes}
use Rattle.osm_block.specs.Message.{Context, NodeMessage}
use Rattle.osm_block.specs.Phases.{first, when, node_phases, same_length, info_in_range, coordinate_in_range, all_in, user_indexes, is_index}
use Rattle.osm_block.proofs.IndexesLemmas.{and_left, and_right}
use Rattle.osm_block.proofs.PhaseLemmas.{skip, pass, stop}

abbrev pub nodes_range : Context → NodeMessage → Bool
nodes_range b m = passes is_wide m.id && passes (coordinate_in_range b.lat_offset b.granularity) m.lat && passes (coordinate_in_range b.lon_offset b.granularity) m.lon && info_in_range b m.info

abbrev pub nodes_index : Context → NodeMessage → Bool
nodes_index b m = all_in b.table (m.keys ++ m.vals ++ user_indexes m.info)

-- what is known of a node before its ranges are tested
pub record NodeRead (b : Context) (m : NodeMessage) (id lat lon : ℤ) : Type 0 where
  pub there : m.id ≡ Some id
  pub lat_there : m.lat ≡ Some lat
  pub lon_there : m.lon ≡ Some lon
  pub even : same_length m.keys m.vals ≡ true

pub four : (w a o i : Bool) → (w && a && o && i) ≡ true → (w ≡ true) × (a ≡ true) × (o ≡ true) × (i ≡ true)
four w a o i h =
    let three = and_left (w && a && o) i h in
    let two = and_left (w && a) o three in
    (and_left w a two, and_right w a two, and_right (w && a) o three, and_right (w && a && o) i h)

missing : (id lat lon : Option ℤ) (i a o : ℤ) → id ≡ Some i → lat ≡ Some a → lon ≡ Some o → (is_none id || is_none lat || is_none lon) ≡ false
missing id lat lon i a o e f g = ap (λ x. is_none x || is_none lat || is_none lon) e ∙ ap (λ x. is_none (Some i) || is_none x || is_none lon) f ∙ ap (λ x. is_none (Some i) || is_none (Some a) || is_none x) g

late : (b : Context) (m : NodeMessage) (id lat lon : ℤ) → NodeRead b m id lat lon →
    first (node_phases b m) ≡ first (when (not (nodes_range b m)) faults.OutOfRange ∷ when (not (nodes_index b m)) faults.BadIndex ∷ [])
late b m id lat lon r =
    skip (when (is_none m.id || is_none m.lat || is_none m.lon) faults.Missing) _ (ap (λ v. when v faults.Missing) (missing m.id m.lat m.lon id lat lon r.there r.lat_there r.lon_there))
    ∙ pass (same_length m.keys m.vals) faults.LengthsDiffer _ r.even

pub range_is : (b : Context) (m : NodeMessage) (id lat lon i a o : ℤ) (t : Bool) → NodeRead b m id lat lon → i ≡ id → a ≡ lat → o ≡ lon →
    t ≡ (is_wide i && coordinate_in_range b.lat_offset b.granularity a && coordinate_in_range b.lon_offset b.granularity o && info_in_range b m.info) → t ≡ nodes_range b m
range_is b m id lat lon i a o t r e f g is =
    let inside : ℤ → ℤ → Bool = λ offset v. coordinate_in_range offset b.granularity v in
    is ∙ ap (λ x. x && inside b.lat_offset a && inside b.lon_offset o && info_in_range b m.info) (ap is_wide e ∙ ap (passes is_wide) (sym r.there))
    ∙ ap (λ x. passes is_wide m.id && x && inside b.lon_offset o && info_in_range b m.info) (ap (inside b.lat_offset) f ∙ ap (passes (inside b.lat_offset)) (sym r.lat_there))
    ∙ ap (λ x. passes is_wide m.id && passes (inside b.lat_offset) m.lat && x && info_in_range b m.info) (ap (inside b.lon_offset) g ∙ ap (passes (inside b.lon_offset)) (sym r.lon_there))

pub fails_range : (b : Context) (m : NodeMessage) (id lat lon : ℤ) (t : Bool) → NodeRead b m id lat lon → t ≡ nodes_range b m → t ≡ false → first (node_phases b m) ≡ Some faults.OutOfRange
fails_range b m id lat lon t r is fails = late b m id lat lon r ∙ stop (nodes_range b m) faults.OutOfRange _ (sym is ∙ fails)

index_is : (b : Context) (m : NodeMessage) (n : ℕ) (u : Bool) → n ≡ length b.table → u ≡ list_all (is_index n) (m.keys ++ m.vals ++ user_indexes m.info) → u ≡ nodes_index b m
index_is b m n u len is = is ∙ ap (λ k. list_all (is_index k) (m.keys ++ m.vals ++ user_indexes m.info)) len

pub fails_index : (b : Context) (m : NodeMessage) (id lat lon : ℤ) (t : Bool) (n : ℕ) (u : Bool) → NodeRead b m id lat lon → t ≡ nodes_range b m → t ≡ true →
    n ≡ length b.table → u ≡ list_all (is_index n) (m.keys ++ m.vals ++ user_indexes m.info) → u ≡ false → first (node_phases b m) ≡ Some faults.BadIndex
fails_index b m id lat lon t n u r is passed len fits fails =
    late b m id lat lon r ∙ pass (nodes_range b m) faults.OutOfRange _ (sym is ∙ passed) ∙ stop (nodes_index b m) faults.BadIndex [] (sym (index_is b m n u len fits) ∙ fails)

pub no_phase : (b : Context) (m : NodeMessage) (id lat lon : ℤ) (t : Bool) (n : ℕ) (u : Bool) → NodeRead b m id lat lon → t ≡ nodes_range b m → t ≡ true →
    n ≡ length b.table → u ≡ list_all (is_index n) (m.keys ++ m.vals ++ user_indexes m.info) → u ≡ true → first (node_phases b m) ≡ None
no_phase b m id lat lon t n u r is passed len fits fine =
    late b m id lat lon r ∙ pass (nodes_range b m) faults.OutOfRange _ (sym is ∙ passed) ∙ pass (nodes_index b m) faults.BadIndex [] (sym (index_is b m n u len fits) ∙ fine)
