-- Reading the arrays of dense nodes: one field, one payload, all of them.
use Rattle.std.proofs.Common.{◌≡◌, ℕ, ◌+◌, ◌<◌, List, [], ◌∷◌, ◌++◌, map, length, drop, get_or, refl, sym, ap, ◌∙◌, Option, ◌%◌, ◌^◌}
use Rattle.std.specs.Prelude.{option_map}
use Rattle.std.specs.List.{flat_map}
use Rattle.std.specs.Option.{option_or}
use Rattle.std.proofs.lemmas.List.{map-append, drop_more}
use Rattle.pbf_wire.specs.declared.fault.WireFault.{WireFault}
use Rattle.pbf_wire.specs.Field.{Entry}
use Rattle.pbf_wire.specs.Readings.{fields, wire, packed, each, nums, sub, sint64, sint32, int32}
use Rattle.osm_block.specs.declared.fields.TheConstants.{DENSEINFO_CHANGESET, DENSEINFO_TIMESTAMP, DENSEINFO_UID, DENSEINFO_USER_SID, DENSEINFO_VERSION, DENSEINFO_VISIBLE, DENSE_DENSEINFO, DENSE_ID, DENSE_KEYS_VALS, DENSE_LAT, DENSE_LON}
use Rattle.osm_block.specs.declared.fault.BlockFault.TheVariants as faults
use Rattle.osm_block.specs.declared.dense.fields.DenseFields.{DenseFields}
use Rattle.osm_block.specs.Message.{boolean, Dense, wires, arrays, dense_message}
use Rattle.osm_block.specs.FieldsLeft.{first_there}
use Rattle.osm_block.specs.Dense.{dense_message_of}
use Rattle.osm_block.specs.DenseFieldsRead.{ArrayRead, DenseInfoRead}
use Rattle.osm_block.specs.Phases.{first, wire_phases}
use Rattle.osm_block.proofs.FieldLemmas.{option_or-assoc, first_there-append, first_of_wire, array_then, last_array}
use Rattle.osm_block.proofs.ReadingLemmas.{each-append}

-- ---- one field

-- ---- one payload

pub faults_more : {B : Type 0} (now : B → List ℕ) (ps : List B) (i : ℕ) (d : B) (k : ℕ) (old new total : Option WireFault) → i < length ps →
    new ≡ option_or old (first_there (map packed (each (fields (now (get_or ps i d))) k))) →
    option_or old (first_there (map packed (each (flat_map fields (map now (drop i ps))) k))) ≡ total →
    option_or new (first_there (map packed (each (flat_map fields (map now (drop (i + 1) ps))) k))) ≡ total
faults_more now ps i d k old new total h is so_far =
    let p : List Entry = fields (now (get_or ps i d)) in
    let rest : List Entry = flat_map fields (map now (drop (i + 1) ps)) in
    ap (λ f. option_or f (first_there (map packed (each rest k)))) is ∙ option_or-assoc old (first_there (map packed (each p k))) (first_there (map packed (each rest k)))
    ∙ sym (ap (option_or old) (ap (λ l. first_there (map packed l)) (each-append k p rest) ∙ ap first_there (map-append packed (each p k) (each rest k)) ∙ first_there-append (map packed (each p k)) (map packed (each rest k))))
    ∙ ap (λ l. option_or old (first_there (map packed (each (flat_map fields (map now l)) k)))) (sym (drop_more ps i d h)) ∙ so_far

-- ---- the message

low_are : (ns : List ℕ) → map sint64 (map (λ n. n % 2 ^ 32) ns) ≡ map sint32 ns
low_are [] = refl
low_are (n ∷ ns) = ap (λ l. sint32 n ∷ l) (low_are ns)

-- what was read of a message
pub record DenseRead (d : DenseFields) (fs : List Entry) : Type 0 where
  pub ids : ArrayRead d.ids DENSE_ID fs
  pub lats : ArrayRead d.lats DENSE_LAT fs
  pub lons : ArrayRead d.lons DENSE_LON fs
  pub keys_vals : ArrayRead d.keys_vals DENSE_KEYS_VALS fs
  pub info : DenseInfoRead d.info (sub fs DENSE_DENSEINFO)

pub message_is : (d : DenseFields) (fs : List Entry) → DenseRead d fs → dense_message_of d ≡ dense_message fs
message_is d fs r =
    let i = r.info in
    let a = ap (map sint64) r.ids.numbers in
    let b = ap (map sint64) r.lats.numbers in
    let c = ap (map sint64) r.lons.numbers in
    let e = ap (map int32) r.keys_vals.numbers in
    let v = ap (map int32) i.versions.numbers in
    let t = ap (map sint64) i.timestamps.numbers in
    let s = ap (map sint64) i.changesets.numbers in
    let u = ap (map sint64) i.uids.numbers ∙ low_are (nums (sub fs DENSE_DENSEINFO) DENSEINFO_UID) in
    let w = ap (map sint64) i.users.numbers ∙ low_are (nums (sub fs DENSE_DENSEINFO) DENSEINFO_USER_SID) in
    let x = ap (map boolean) i.visible.numbers in
    cc (a, b, c, e, v, t, s, u, w, x)

-- the faults, as they were read
pub faults_are : (d : DenseFields) (ps infos : List (List ℕ)) (w i a n : Option WireFault) → DenseRead d (flat_map fields ps) → infos ≡ each (flat_map fields ps) DENSE_DENSEINFO →
    w ≡ first_there (map wire ps) → i ≡ first_there (map wire infos) →
    a ≡ option_or d.ids.fault (option_or d.lats.fault (option_or d.lons.fault d.keys_vals.fault)) →
    n ≡ option_or d.info.versions.fault (option_or d.info.timestamps.fault (option_or d.info.changesets.fault (option_or d.info.uids.fault (option_or d.info.users.fault d.info.visible.fault)))) →
    first (wire_phases (wires (Dense ps))) ≡ option_map faults.BlockWire (option_or (option_or (option_or w i) a) n)
faults_are d ps infos w i a n r are ew ei ea en =
    let fs : List Entry = flat_map fields ps in
    let j = r.info in
    let gs : List Entry = sub fs DENSE_DENSEINFO in
    let plain : a ≡ first_there (arrays (DENSE_ID ∷ DENSE_LAT ∷ DENSE_LON ∷ DENSE_KEYS_VALS ∷ []) fs) =
    ea ∙ array_then DENSE_ID (DENSE_LAT ∷ DENSE_LON ∷ DENSE_KEYS_VALS ∷ []) fs _ _ r.ids.fault (array_then DENSE_LAT (DENSE_LON ∷ DENSE_KEYS_VALS ∷ []) fs _ _ r.lats.fault
    (array_then DENSE_LON (DENSE_KEYS_VALS ∷ []) fs _ _ r.lons.fault (last_array DENSE_KEYS_VALS fs _ r.keys_vals.fault))) in
    let users = array_then DENSEINFO_USER_SID (DENSEINFO_VISIBLE ∷ []) gs _ _ j.users.fault (last_array DENSEINFO_VISIBLE gs _ j.visible.fault) in
    let uids = array_then DENSEINFO_UID (DENSEINFO_USER_SID ∷ DENSEINFO_VISIBLE ∷ []) gs _ _ j.uids.fault users in
    let changes = array_then DENSEINFO_CHANGESET (DENSEINFO_UID ∷ DENSEINFO_USER_SID ∷ DENSEINFO_VISIBLE ∷ []) gs _ _ j.changesets.fault uids in
    let times = array_then DENSEINFO_TIMESTAMP (DENSEINFO_CHANGESET ∷ DENSEINFO_UID ∷ DENSEINFO_USER_SID ∷ DENSEINFO_VISIBLE ∷ []) gs _ _ j.timestamps.fault changes in
    let info : n ≡ first_there (arrays (DENSEINFO_VERSION ∷ DENSEINFO_TIMESTAMP ∷ DENSEINFO_CHANGESET ∷ DENSEINFO_UID ∷ DENSEINFO_USER_SID ∷ DENSEINFO_VISIBLE ∷ []) gs) =
    en ∙ array_then DENSEINFO_VERSION (DENSEINFO_TIMESTAMP ∷ DENSEINFO_CHANGESET ∷ DENSEINFO_UID ∷ DENSEINFO_USER_SID ∷ DENSEINFO_VISIBLE ∷ []) gs _ _ j.versions.fault times in
    let first_two : option_or w i ≡ first_there (map wire ps ++ map wire (each fs DENSE_DENSEINFO)) =
    ap (λ x. option_or x i) ew ∙ ap (option_or (first_there (map wire ps))) (ei ∙ ap (λ l. first_there (map wire l)) are) ∙ sym (first_there-append (map wire ps) (map wire (each fs DENSE_DENSEINFO))) in
    let three : option_or (option_or w i) a ≡ first_there (map wire ps ++ map wire (each fs DENSE_DENSEINFO) ++ arrays (DENSE_ID ∷ DENSE_LAT ∷ DENSE_LON ∷ DENSE_KEYS_VALS ∷ []) fs) =
    ap (λ x. option_or x a) first_two ∙ ap (option_or (first_there (map wire ps ++ map wire (each fs DENSE_DENSEINFO)))) plain ∙ sym (first_there-append (map wire ps ++ map wire (each fs DENSE_DENSEINFO)) (arrays (DENSE_ID ∷ DENSE_LAT ∷ DENSE_LON ∷ DENSE_KEYS_VALS ∷ []) fs)) in
    let all : option_or (option_or (option_or w i) a) n ≡ first_there (wires (Dense ps)) =
    ap (λ x. option_or x n) three ∙ ap (option_or (first_there (map wire ps ++ map wire (each fs DENSE_DENSEINFO) ++ arrays (DENSE_ID ∷ DENSE_LAT ∷ DENSE_LON ∷ DENSE_KEYS_VALS ∷ []) fs))) info
    ∙ sym (first_there-append (map wire ps ++ map wire (each fs DENSE_DENSEINFO) ++ arrays (DENSE_ID ∷ DENSE_LAT ∷ DENSE_LON ∷ DENSE_KEYS_VALS ∷ []) fs) (arrays (DENSEINFO_VERSION ∷ DENSEINFO_TIMESTAMP ∷ DENSEINFO_CHANGESET ∷ DENSEINFO_UID ∷ DENSEINFO_USER_SID ∷ DENSEINFO_VISIBLE ∷ []) gs)) in
    first_of_wire (wires (Dense ps)) ∙ sym (ap (option_map faults.BlockWire) all)
