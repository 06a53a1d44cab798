-- One more field of a message: what it adds, and what the rest of the fields still add.
use Rattle.std.proofs.Common.{◌≡◌, ◌==◌, ℕ, false, List, [], ◌∷◌, ◌++◌, map, refl, sym, ap, ◌∙◌, Option, Some, None, Result, Ok, append-nil}
use Rattle.std.specs.Prelude.{option_map}
use Rattle.std.specs.List.{flat_map}
use Rattle.std.specs.Option.{option_or}
use Rattle.std.proofs.lemmas.List.Elements.{filter_map-append}
use Rattle.pbf_wire.specs.declared.fault.WireFault.{WireFault}
use Rattle.pbf_wire.specs.declared.field.Field.{Field}
use Rattle.pbf_wire.specs.Field.{Bytes, Entry, view}
use Rattle.pbf_wire.specs.FieldList.{last_or, view_item}
use Rattle.pbf_wire.specs.Readings.{front, fields, wire, packed, fitting, number_of, last, each, nums, sub}
use Rattle.osm_block.specs.declared.fields.TheConstants.{ELEMENT_ID, ELEMENT_INFO, ELEMENT_KEYS, ELEMENT_VALS, INFO_CHANGESET, INFO_TIMESTAMP, INFO_UID, INFO_USER_SID, INFO_VERSION, INFO_VISIBLE, NODE_LAT, NODE_LON, RELATION_MEMIDS, RELATION_ROLES_SID, RELATION_TYPES, WAY_REFS}
use Rattle.osm_block.specs.declared.fault.BlockFault.{BlockFault}
use Rattle.osm_block.specs.declared.fault.BlockFault.TheVariants as faults
use Rattle.osm_block.specs.declared.number_array.NumberArray.{NumberArray}
use Rattle.osm_block.specs.declared.info.InfoNumbers.{InfoNumbers}
use Rattle.osm_block.specs.declared.info.InfoFields.{InfoFields}
use Rattle.osm_block.specs.declared.element_fields.ElementFields.{ElementFields}
use Rattle.osm_block.specs.declared.node.NodeFields.{NodeFields}
use Rattle.osm_block.specs.declared.way.WayFields.{WayFields}
use Rattle.osm_block.specs.declared.relation.RelationFields.{RelationFields}
use Rattle.osm_block.specs.Message.{info_message, node_message, way_message, relation_message, arrays, wires_with}
use Rattle.osm_block.specs.Fields.{info_message_of, node_message_of, way_message_of, relation_message_of}
use Rattle.osm_block.specs.Phases.{first, wire_phases}
use Rattle.osm_block.specs.FieldsLeft.{info_after, first_there, ArrayLeft, InfoLeft, ElementLeft, NodeLeft, WayLeft, RelationLeft}

pub last_or-append : (b : Option ℕ) (xs ys : List ℕ) → last_or b (xs ++ ys) ≡ last_or (last_or b xs) ys
last_or-append b [] ys = refl
last_or-append b (x ∷ xs) ys = last_or-append (Some x) xs ys

last_after : (b : Option ℕ) (k : ℕ) (xs ys : List Entry) → last_or (last_or b (fitting number_of k xs)) (fitting number_of k ys) ≡ last_or b (fitting number_of k (xs ++ ys))
last_after b k xs ys = sym (last_or-append b (fitting number_of k xs) (fitting number_of k ys)) ∙ sym (ap (last_or b) (filter_map-append _ xs ys))

pub info_after-append : (i : InfoNumbers) (xs ys : List Entry) → info_after (info_after i xs) ys ≡ info_after i (xs ++ ys)
info_after-append i xs ys =
    let a = last_after i.version INFO_VERSION xs ys in
    let b = last_after i.timestamp INFO_TIMESTAMP xs ys in
    let c = last_after i.changeset INFO_CHANGESET xs ys in
    let d = last_after i.uid INFO_UID xs ys in
    let e = last_after i.user_sid INFO_USER_SID xs ys in
    let f = last_after i.visible INFO_VISIBLE xs ys in
    cc

pub option_or-assoc : {A : Type 0} (x y z : Option A) → option_or (option_or x y) z ≡ option_or x (option_or y z)
option_or-assoc None y z = refl
option_or-assoc (Some a) y z = refl

-- the field that was read stands in front of the rest
pub field_first : (items rest : List (Result Entry WireFault)) (read : Result Field WireFault) (field : Field) → items ≡ view_item read ∷ rest → read ≡ Ok field → front items ≡ view field ∷ front rest
field_first items rest read field e is = ap front e ∙ ap (λ r. front (view_item r ∷ rest)) is

-- one more payload of the Info
pub info_taken : (old new : InfoFields) (p : List ℕ) (rest whole : List Entry) → new.numbers ≡ info_after old.numbers (fields p) → new.fault ≡ option_or old.fault (wire p) →
    InfoLeft old ELEMENT_INFO (record { number = ELEMENT_INFO; content = Bytes p } ∷ rest) whole → InfoLeft new ELEMENT_INFO rest whole
info_taken old new p rest whole numbers fault h = record {
  numbers = ap (λ i. info_after i (flat_map fields (each rest ELEMENT_INFO))) numbers ∙ info_after-append old.numbers (fields p) (flat_map fields (each rest ELEMENT_INFO)) ∙ h.numbers;
  fault = ap (λ f. option_or f (first_there (map wire (each rest ELEMENT_INFO)))) fault ∙ option_or-assoc old.fault (wire p) (first_there (map wire (each rest ELEMENT_INFO))) ∙ h.fault;
}

-- a field of another number adds nothing to an array
pub array_past : (array : NumberArray) (k : ℕ) (f : Entry) (rest whole : List Entry) → (f.number == k) ≡ false → ArrayLeft array k (f ∷ rest) whole → ArrayLeft array k rest whole
array_past array k f rest whole other h = record { numbers = rw other at h.numbers; fault = rw other at h.fault }

-- ---- nothing is left

pub option_or-none : {A : Type 0} (x : Option A) → option_or x None ≡ x
option_or-none None = refl
option_or-none (Some a) = refl

pub array_numbers : (array : NumberArray) (k : ℕ) (whole : List Entry) → ArrayLeft array k [] whole → array.numbers.items ≡ nums whole k
array_numbers array k whole h = sym (append-nil array.numbers.items) ∙ h.numbers

pub array_fault : (array : NumberArray) (k : ℕ) (whole : List Entry) → ArrayLeft array k [] whole → array.fault ≡ first_there (map packed (each whole k))
array_fault array k whole h = sym (option_or-none array.fault) ∙ h.fault

pub info_fault : (info : InfoFields) (whole : List Entry) → InfoLeft info ELEMENT_INFO [] whole → info.fault ≡ first_there (map wire (each whole ELEMENT_INFO))
info_fault info whole h = sym (option_or-none info.fault) ∙ h.fault

record ElementRead (element : ElementFields) (whole : List Entry) : Type 0 where
  id : element.id ≡ last whole ELEMENT_ID
  keys : element.keys.numbers.items ≡ nums whole ELEMENT_KEYS
  vals : element.vals.numbers.items ≡ nums whole ELEMENT_VALS
  info : info_message_of element.info.numbers ≡ info_message (sub whole ELEMENT_INFO)

element_read : (element : ElementFields) (whole : List Entry) → ElementLeft element [] whole → ElementRead element whole
element_read element whole h = record {
  id = h.id.number;
  keys = array_numbers element.keys ELEMENT_KEYS whole h.keys;
  vals = array_numbers element.vals ELEMENT_VALS whole h.vals;
  info = ap info_message_of h.info.numbers;
}

pub node_read : (node : NodeFields) (whole : List Entry) → NodeLeft node [] whole → node_message_of node ≡ node_message whole
node_read node whole h =
    let element = element_read node.element whole h.element in
    let lat : node.lat ≡ last whole NODE_LAT = h.lat.number in
    let lon : node.lon ≡ last whole NODE_LON = h.lon.number in
    cc

pub way_read : (way : WayFields) (whole : List Entry) → WayLeft way [] whole → way_message_of way ≡ way_message whole
way_read way whole h =
    let element = element_read way.element whole h.element in
    let refs : way.refs.numbers.items ≡ nums whole WAY_REFS = array_numbers way.refs WAY_REFS whole h.refs in
    cc

pub relation_read : (relation : RelationFields) (whole : List Entry) → RelationLeft relation [] whole → relation_message_of relation ≡ relation_message whole
relation_read relation whole h =
    let element = element_read relation.element whole h.element in
    let roles : relation.roles.numbers.items ≡ nums whole RELATION_ROLES_SID = array_numbers relation.roles RELATION_ROLES_SID whole h.roles in
    let memids : relation.memids.numbers.items ≡ nums whole RELATION_MEMIDS = array_numbers relation.memids RELATION_MEMIDS whole h.memids in
    let types : relation.types.numbers.items ≡ nums whole RELATION_TYPES = array_numbers relation.types RELATION_TYPES whole h.types in
    cc

-- ---- the first fault of the payloads

pub first_there-append : {A : Type 0} (xs ys : List (Option A)) → first_there (xs ++ ys) ≡ option_or (first_there xs) (first_there ys)
first_there-append [] ys = refl
first_there-append (None ∷ xs) ys = first_there-append xs ys
first_there-append (Some x ∷ xs) ys = refl

pub first_of_wire : (fs : List (Option WireFault)) → first (wire_phases fs) ≡ option_map faults.BlockWire (first_there fs)
first_of_wire [] = refl
first_of_wire (None ∷ fs) = first_of_wire fs
first_of_wire (Some f ∷ fs) = refl

-- the first fault of an array and of those behind it
pub array_then : (k : ℕ) (ks : List ℕ) (fs : List Entry) (fault others : Option WireFault) → fault ≡ first_there (map packed (each fs k)) → others ≡ first_there (arrays ks fs) →
    option_or fault others ≡ first_there (arrays (k ∷ ks) fs)
array_then k ks fs fault others is rest =
    ap (option_or fault) rest ∙ ap (λ f. option_or f (first_there (arrays ks fs))) is ∙ sym (first_there-append (map packed (each fs k)) (arrays ks fs))

pub last_array : (k : ℕ) (fs : List Entry) (fault : Option WireFault) → fault ≡ first_there (map packed (each fs k)) → fault ≡ first_there (arrays (k ∷ []) fs)
last_array k fs fault is = sym (option_or-none fault) ∙ array_then k [] fs fault None is refl

-- that of a message, where others is that of the arrays that it has besides its tags
pub element_fault : (element : ElementFields) (ks : List ℕ) (whole : List Entry) (others : Option WireFault) → ElementLeft element [] whole → others ≡ first_there (arrays ks whole) →
    option_or element.info.fault (option_or element.keys.fault (option_or element.vals.fault others)) ≡
    first_there (map wire (each whole ELEMENT_INFO) ++ arrays (ELEMENT_KEYS ∷ ELEMENT_VALS ∷ ks) whole)
element_fault element ks whole others h rest =
    let tags = array_then ELEMENT_VALS ks whole element.vals.fault others (array_fault element.vals ELEMENT_VALS whole h.vals) rest in
    ap (option_or element.info.fault) (array_then ELEMENT_KEYS (ELEMENT_VALS ∷ ks) whole element.keys.fault _ (array_fault element.keys ELEMENT_KEYS whole h.keys) tags)
    ∙ ap (λ f. option_or f (first_there (arrays (ELEMENT_KEYS ∷ ELEMENT_VALS ∷ ks) whole))) (info_fault element.info whole h.info)
    ∙ sym (first_there-append (map wire (each whole ELEMENT_INFO)) (arrays (ELEMENT_KEYS ∷ ELEMENT_VALS ∷ ks) whole))

-- what a message is answered with where its fields are read, and where they aren't
pub message_fault : (ks : List ℕ) (p : List ℕ) (fault : Option WireFault) → wire p ≡ None →
    fault ≡ first_there (map wire (each (fields p) ELEMENT_INFO) ++ arrays ks (fields p)) → first (wire_phases (wires_with ks p)) ≡ option_map faults.BlockWire fault
message_fault ks p fault none is =
    first_of_wire (wires_with ks p)
    ∙ ap (λ o. option_map faults.BlockWire (option_or o (first_there (map wire (each (fields p) ELEMENT_INFO) ++ arrays ks (fields p))))) none
    ∙ ap (option_map faults.BlockWire) (sym is)

pub no_message : (ks : List ℕ) (p : List ℕ) (f : BlockFault) → option_map faults.BlockWire (wire p) ≡ Some f → first (wire_phases (wires_with ks p)) ≡ Some f
no_message ks p f e = ap (λ o. first (o ∷ wire_phases (map wire (each (fields p) ELEMENT_INFO) ++ arrays ks (fields p)))) e
