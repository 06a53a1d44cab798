-- Which fault a primitive block is answered with: the first phase that stands, in this order.
use Rattle.std.specs.Prelude.{◌≡◌, ℕ, List, [], ◌∷◌, ◌++◌, map, length, ℤ, pos, negsuc, Option, Some, None, Result, Ok, Err, option_map, option_to_list, Bool, true, false, not, ◌&&◌, ◌||◌, int_le, nat_le, nat_lt, unwrap_or, ◌==◌, is_none, is_some}
use Rattle.std.specs.List.{flat_map, list_all}
use Rattle.std.specs.Str.{is_utf8}
use Rattle.pbf_wire.specs.declared.fault.WireFault.{WireFault}
use Rattle.osm_block.specs.declared.fault.BlockFault.{BlockFault}
use Rattle.osm_block.specs.declared.fault.BlockFault.TheVariants as faults
use Rattle.osm_block.specs.declared.fault.BlockError.{BlockError}
use Rattle.osm_block.specs.declared.fault.BlockError.TheVariants as errors
use Rattle.osm_block.specs.declared.fields.TheConstants.{BLOCK_PRIMITIVEGROUP, BLOCK_STRINGTABLE}
use Rattle.osm_value.specs.Value.{Text}
use Rattle.pbf_wire.specs.Readings.{fields, wire, each, is_there}
use Rattle.osm_block.specs.Message.{InfoMessage, DenseInfoMessage, NodeMessage, DenseMessage, WayMessage, RelationMessage, Context, Message, Plain, Dense, Way, Relation, messages, wires, context, node_message, dense_message, way_message, relation_message}
use Rattle.osm_block.specs.Differences.{front_sums, fits_i64}
use Rattle.osm_block.specs.DenseTags.{pairs_for, indexes_of}
use Rattle.osm_value.specs.Ranges.{is_wide, is_version, is_uid, has_no_nul, passes}
use Rattle.osm_block.specs.Block.{coordinate, time, version, kind, kinds_in}

-- a phase: the fault, where it stands
abbrev pub Phase : Type 0
Phase = Option BlockFault

abbrev pub when : Bool → BlockFault → Phase
when true fault = Some fault
when false fault = None

-- the first of a list of phases that applies
abbrev pub first : List Phase → Phase
first [] = None
first (None ∷ phases) = first phases
first (Some fault ∷ phases) = Some fault

-- what a call answers for such a phase
abbrev pub Answers : {A : Type 0} → Phase → Result A BlockFault → Type 0
Answers phase (Ok x) = phase ≡ None
Answers phase (Err fault) = phase ≡ Some fault

abbrev pub wire_phases : List (Option WireFault) → List Phase
wire_phases fs = map (option_map faults.BlockWire) fs

-- ---- what the phases of a message test

-- a text of a table of n texts has that index
abbrev pub is_index : ℕ → ℤ → Bool
is_index n (pos i) = nat_lt i n
is_index n (negsuc i) = false

abbrev pub all_in : List Text → List ℤ → Bool
all_in table indexes = list_all (is_index (length table)) indexes

abbrev pub same_length : List ℤ → List ℤ → Bool
same_length xs ys = length xs == length ys

-- the numbers of an Info: a version other than -1, a time, a changeset, a uid
abbrev pub info_in_range : Context → InfoMessage → Bool
info_in_range b m = passes (λ v. passes is_version (version v)) m.version
    && passes (λ t. is_wide (time b.date_granularity t)) m.timestamp
    && passes is_wide m.changeset && passes is_uid m.uid

abbrev pub user_indexes : InfoMessage → List ℤ
user_indexes m = option_to_list m.user_sid

abbrev pub coordinate_in_range : ℤ → ℤ → ℤ → Bool
coordinate_in_range offset granularity v = is_wide (coordinate offset granularity v)

-- ---- the phases of a message, after those of its wire

abbrev pub node_phases : Context → NodeMessage → List Phase
node_phases b m =
    when (is_none m.id || is_none m.lat || is_none m.lon) faults.Missing
    ∷ when (not (same_length m.keys m.vals)) faults.LengthsDiffer
    ∷ when (not (passes is_wide m.id && passes (coordinate_in_range b.lat_offset b.granularity) m.lat
    && passes (coordinate_in_range b.lon_offset b.granularity) m.lon && info_in_range b m.info)) faults.OutOfRange
    ∷ when (not (all_in b.table (m.keys ++ m.vals ++ user_indexes m.info))) faults.BadIndex
    ∷ []

abbrev pub way_phases : Context → WayMessage → List Phase
way_phases b m =
    when (is_none m.id) faults.Missing
    ∷ when (not (same_length m.keys m.vals)) faults.LengthsDiffer
    ∷ when (not (list_all fits_i64 (front_sums m.refs))) faults.SumTooLarge
    ∷ when (not (passes is_wide m.id && list_all is_wide (front_sums m.refs) && info_in_range b m.info)) faults.OutOfRange
    ∷ when (not (all_in b.table (m.keys ++ m.vals ++ user_indexes m.info))) faults.BadIndex
    ∷ []

abbrev pub relation_phases : Context → RelationMessage → List Phase
relation_phases b m =
    when (is_none m.id) faults.Missing
    ∷ when (not (same_length m.keys m.vals && same_length m.roles_sid m.memids && same_length m.types m.memids)) faults.LengthsDiffer
    ∷ when (not (list_all fits_i64 (front_sums m.memids))) faults.SumTooLarge
    ∷ when (not (passes is_wide m.id && list_all is_wide (front_sums m.memids) && info_in_range b m.info)) faults.OutOfRange
    ∷ when (not (all_in b.table (m.keys ++ m.vals ++ m.roles_sid ++ user_indexes m.info))) faults.BadIndex
    ∷ when (not (list_all (λ t. is_some (kind t)) m.types)) faults.BadMemberType
    ∷ []

-- an array of DenseInfo is empty or as long as the ids
abbrev pub fits_ids : {A : Type 0} → List ℤ → List A → Bool
fits_ids ids xs = not (is_there xs) || length xs == length ids

abbrev pub dense_info_fits : List ℤ → DenseInfoMessage → Bool
dense_info_fits ids m = fits_ids ids m.version && fits_ids ids m.timestamp && fits_ids ids m.changeset && fits_ids ids m.uid && fits_ids ids m.user_sid && fits_ids ids m.visible

-- the delta coded arrays
abbrev pub deltas_of : DenseMessage → List (List ℤ)
deltas_of m = m.id ∷ m.lat ∷ m.lon ∷ m.info.timestamp ∷ m.info.changeset ∷ m.info.uid ∷ m.info.user_sid ∷ []

abbrev pub dense_info_in_range : Context → DenseInfoMessage → Bool
dense_info_in_range b m = list_all (λ v. passes is_version (version v)) m.version
    && list_all (λ t. is_wide (time b.date_granularity t)) (front_sums m.timestamp)
    && list_all is_wide (front_sums m.changeset) && list_all is_uid (front_sums m.uid)

-- the phases of the tags of n dense nodes over a table of so many texts: 51 where the array has no pairs for them, then 48
abbrev pub tags_phases : ℕ → ℕ → List ℤ → List Phase
tags_phases n texts kv =
    when (is_none (pairs_for n kv)) faults.TagsUneven
    ∷ when (not (list_all (is_index texts) (indexes_of (unwrap_or (pairs_for n kv) [])))) faults.BadIndex
    ∷ []

abbrev pub dense_phases : Context → DenseMessage → List Phase
dense_phases b m =
    when (not (same_length m.lat m.id && same_length m.lon m.id && dense_info_fits m.id m.info)) faults.LengthsDiffer
    ∷ when (not (list_all (λ ds. list_all fits_i64 (front_sums ds)) (deltas_of m))) faults.SumTooLarge
    ∷ when (not (list_all is_wide (front_sums m.id)
    && list_all (coordinate_in_range b.lat_offset b.granularity) (front_sums m.lat)
    && list_all (coordinate_in_range b.lon_offset b.granularity) (front_sums m.lon)
    && dense_info_in_range b m.info)) faults.OutOfRange
    ∷ tags_phases (length m.id) (length b.table) m.keys_vals
    ++ when (not (all_in b.table (front_sums m.info.user_sid))) faults.BadIndex
    ∷ []

abbrev pub phases_after_wire : Context → Message → List Phase
phases_after_wire b (Plain p) = node_phases b (node_message (fields p))
phases_after_wire b (Dense ps) = dense_phases b (dense_message (flat_map fields ps))
phases_after_wire b (Way p) = way_phases b (way_message (fields p))
phases_after_wire b (Relation p) = relation_phases b (relation_message (fields p))

abbrev pub message_phases : Context → Message → List Phase
message_phases b m = wire_phases (wires m) ++ phases_after_wire b m

-- ---- a group, and a block

abbrev pub group_phases : Context → List ℕ → List Phase
group_phases b g =
    wire_phases (wire g ∷ [])
    ++ when (not (nat_le (kinds_in (fields g)) 1)) faults.MixedGroup
    ∷ flat_map (message_phases b) (messages (fields g))

abbrev pub text_phases : Text → List Phase
text_phases t = when (not (is_utf8 t)) faults.TextNotUtf8 ∷ when (not (has_no_nul t)) faults.TextHasNul ∷ []

-- what tests a block before its groups
abbrev pub head_phases : List ℕ → List Phase
head_phases w = let fs = fields w in let b = context fs in
    wire_phases (wire w ∷ [])
    ++ when (not (is_there (each fs BLOCK_STRINGTABLE))) faults.NoStringTable
    ∷ wire_phases (map wire (each fs BLOCK_STRINGTABLE))
    ++ flat_map text_phases b.table
    ++ when (not (int_le (pos 1) b.granularity && int_le (pos 1) b.date_granularity)) faults.BadGranularity
    ∷ []

abbrev pub phases : List ℕ → List Phase
phases w = head_phases w ++ flat_map (group_phases (context (fields w))) (each (fields w) BLOCK_PRIMITIVEGROUP)

-- the fault that a block is answered with: the first of the phases that applies
unfoldable pub fault : List ℕ → Option BlockFault
fault w = first (phases w)

-- what a call gives for such a phase, unless memory ran out
abbrev pub Gives : {A : Type 0} → (A → Type 0) → Phase → Result A BlockError → Type 0
Gives P phase (Ok x) = (phase ≡ None) × P x
Gives P phase (Err errors.Memory) = Unit {0}
Gives P phase (Err (errors.Fault fault)) = phase ≡ Some fault
