-- The parts of the header block, one after the other.
use Rattle.std.proofs.Common.{◌≡◌, ℕ, List, [], ◌++◌, codes, refl, Bool, true, false, None, append_assoc, append-nil}
use Rattle.std.specs.List.{flat_map}
use Rattle.pbf_wire.specs.Readings.{fields}
use Rattle.osm_block.specs.declared.fields.TheConstants.{HEADER_REQUIRED_FEATURES, HEADER_WRITINGPROGRAM}
use Rattle.osm_block.specs.HeaderBlock.{header_fault, header_value}
use Rattle.osm_write.specs.Canon.{bytes_field}
use Rattle.osm_write.specs.Header.{features, header_block, written_value, plain_header_is, plain_header_fault, plain_header_value, historic_header_is, historic_header_fault, historic_header_value}

pub features_with_history : (history : Bool) (o o1 o2 : List ℕ) → history ≡ true → o1 ≡ o ++ bytes_field HEADER_REQUIRED_FEATURES (codes "OsmSchema-V0.6") → o2 ≡ o1 ++ bytes_field HEADER_REQUIRED_FEATURES (codes "DenseNodes")
    → o2 ++ bytes_field HEADER_REQUIRED_FEATURES (codes "HistoricalInformation") ≡ o ++ flat_map (bytes_field HEADER_REQUIRED_FEATURES) (features history)
features_with_history history o o1 o2 is e1 e2 = rw (is, e2, e1) (simp (append_assoc, append-nil))

pub features_alone : (history : Bool) (o o1 o2 : List ℕ) → history ≡ false → o1 ≡ o ++ bytes_field HEADER_REQUIRED_FEATURES (codes "OsmSchema-V0.6") → o2 ≡ o1 ++ bytes_field HEADER_REQUIRED_FEATURES (codes "DenseNodes")
    → o2 ≡ o ++ flat_map (bytes_field HEADER_REQUIRED_FEATURES) (features history)
features_alone history o o1 o2 is e1 e2 = rw (is, e2, e1) (simp (append_assoc, append-nil))

pub header_joined : (history : Bool) (o0 o1 o2 : List ℕ) → o0 ≡ [] → o1 ≡ o0 ++ flat_map (bytes_field HEADER_REQUIRED_FEATURES) (features history)
    → o2 ≡ o1 ++ bytes_field HEADER_WRITINGPROGRAM (codes "pbfrow") → o2 ≡ header_block history
unfolding header_block
header_joined history o0 o1 o2 e0 e1 e2 = rw (e2, e1, e0) refl

pub header_reads : (history : Bool) (w : List ℕ) → w ≡ header_block history → header_fault w ≡ None
header_reads true w is = rw (is, historic_header_is) historic_header_fault
header_reads false w is = rw (is, plain_header_is) plain_header_fault

pub header_says : (history : Bool) (w : List ℕ) → w ≡ header_block history → header_value (fields w) ≡ written_value history
header_says true w is = rw (is, historic_header_is) historic_header_value
header_says false w is = rw (is, plain_header_is) plain_header_value
