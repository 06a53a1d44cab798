-- What is read of a header block.
use Rattle.std.proofs.Common.{◌≡◌, ℕ, zero, suc, ◌-◌, ◌≤◌, Bool, true, false, ◌&&◌, not, List, [], ◌∷◌, ◌++◌, map, length, Option, Some, None, Result, Ok, Err, refl, sym, ap, ◌∙◌, arith}
use Rattle.std.specs.Prelude.{IsUtf8, IsTrue, ◌↔◌, is_some, is_none, option_map, cond, ◌==◌}
use Rattle.std.specs.List.{list_all, flat_map, cons_option}
use Rattle.std.specs.Str.{is_utf8}
use Rattle.std.proofs.lemmas.Str.{IsUtf8-from_is_utf8, is_utf8-from_IsUtf8}
use Rattle.std.proofs.lemmas.List.Elements.{filter_map-append}
use Rattle.pbf_wire.specs.declared.fault.WireFault.{WireFault}
use Rattle.pbf_wire.specs.declared.field.Field.{Field}
use Rattle.pbf_wire.specs.declared.fields.Fields.{Fields}
use Rattle.pbf_wire.specs.Field.{Content, Entry, next_at}
use Rattle.pbf_wire.specs.FieldList.{item_and, items_from, items_within, view_item, last_or}
use Rattle.pbf_wire.specs.Readings.{front, fields, wire, each, sub, is_there, fitting, number_of, bytes_of}
use Rattle.pbf_wire.specs.Walk.{items_left}
use Rattle.pbf_wire.proofs.FieldListLaws.{items_step}
use Rattle.osm_block.specs.declared.fields.TheConstants.{HEADER_BBOX, HEADER_REQUIRED_FEATURES}
use Rattle.osm_block.specs.declared.header.fault.HeaderFault.TheVariants as faults
use Rattle.osm_block.specs.declared.header.BBox.{BBox}
use Rattle.osm_block.specs.HeaderBlock.{box_of, Phase, when, first, wire_phase, is_incomplete, are_texts, unknown_feature, header_fault}
use Rattle.osm_block.proofs.FieldLemmas.{last_or-append}

nothing_behind : (r : Result (Option (Entry × ℕ)) WireFault) (behind : ℕ → List (Result Entry WireFault)) (f : WireFault) (rest : List (Result Entry WireFault)) →
    item_and r behind ≡ Err f ∷ rest → rest ≡ []
nothing_behind (Ok None) behind f rest e = cc
nothing_behind (Ok (Some x)) behind f rest e = cc
nothing_behind (Err g) behind f rest e = cc

-- nothing comes behind a fault
pub end_at_fault : (s : Fields) (f : WireFault) (rest : List (Result Entry WireFault)) → items_left s ≡ Err f ∷ rest → rest ≡ []
end_at_fault s f rest e = nothing_behind (next_at s.at s.bytes.now) (λ next. items_from next s.bytes.now) f rest (sym (items_step s.at s.bytes.now) ∙ e)

-- a walk that meets a fault has nothing left, before and after it
pub ends_at_fault : (old : List (List ℕ)) (s t : Fields) (item : Result Field WireFault) (f : WireFault) (k : ℕ) →
    old ≡ each (front (items_left s)) k → items_left s ≡ view_item item ∷ items_left t → item ≡ Err f → (old ≡ []) × (each (front (items_left t)) k ≡ [])
ends_at_fault old s t item f k so_far steps is =
    let here : items_left s ≡ Err f ∷ items_left t = steps ∙ ap (λ (i : Result Field WireFault). view_item i ∷ items_left t) is in
    (so_far ∙ ap (λ (l : List (Result Entry WireFault)). each (front l) k) here, ap (λ (l : List (Result Entry WireFault)). each (front l) k) (end_at_fault s f (items_left t) here))

both : (a b : Bool) → (a && b) ≡ true → (a ≡ true) × (b ≡ true)
both true b e = (refl, e)
both false b e = absurd cc

-- where all are UTF-8, the first is
pub first_is_text : (all : List (List ℕ)) (t : List ℕ) (rest : List (List ℕ)) → list_all is_utf8 all ≡ true → all ≡ t ∷ rest → ¬ (IsUtf8 t) → ⊥
first_is_text all t rest e steps h = h (IsUtf8-from_is_utf8 t (both (is_utf8 t) (list_all is_utf8 rest) (sym (ap (list_all is_utf8) steps) ∙ e)).0)

pub bool_false : (b : Bool) → (b ≡ true → ⊥) → b ≡ false
bool_false true h = absurd (h refl)
bool_false false h = refl

-- a test that holds exactly where bytes are UTF-8
pub utf8_test : (b : Bool) (w : List ℕ) → IsTrue b ↔ IsUtf8 w → b ≡ is_utf8 w
utf8_test true w h = sym (is_utf8-from_IsUtf8 w (h.0 refl))
utf8_test false w h = sym (bool_false (is_utf8 w) (λ e. let k : false ≡ true = h.1 (IsUtf8-from_is_utf8 w e) in cc))

-- ---- how many payloads there are: each takes a byte

item_few : (r : Result (Option (Entry × ℕ)) WireFault) (behind : ℕ → List (Result Entry WireFault)) (n : ℕ) → ((next : ℕ) → length (behind next) ≤ n) → length (item_and r behind) ≤ suc n
item_few (Ok None) behind n h = omega arith
item_few (Ok (Some x)) behind n h = omega (arith, h x.1)
item_few (Err f) behind n h = omega arith

items_within_few : (left at : ℕ) (w : List ℕ) → length (items_within left at w) ≤ left
unfolding items_within
items_within_few zero at w = omega arith
items_within_few (suc left) at w = item_few (next_at at w) (λ next. items_within left next w) left (λ next. items_within_few left next w)

front_few : (items : List (Result Entry WireFault)) → length (front items) ≤ length items
front_few [] = omega arith
front_few (Ok f ∷ items) = omega (arith, front_few items)
front_few (Err f ∷ items) = omega arith

option_few : {A : Type 0} (o : Option A) (xs : List A) (n : ℕ) → length xs ≤ n → length (cons_option o xs) ≤ suc n
option_few None xs n h = omega arith
option_few (Some x) xs n h = omega arith

fitting_few : {A : Type 0} (read : Content → Option A) (k : ℕ) (fs : List Entry) → length (fitting read k fs) ≤ length fs
fitting_few read k [] = omega arith
fitting_few read k (f ∷ fs) = option_few (cond (f.number == k) (read f.content) None) (fitting read k fs) (length fs) (fitting_few read k fs)

pub few_payloads : (w : List ℕ) (k : ℕ) → length (each (fields w) k) ≤ length w
unfolding items_from
few_payloads w k = omega (arith, fitting_few bytes_of k (fields w), front_few (items_from 0 w), items_within_few (length w - 0) 0 w)

-- ---- one side of a box that several payloads make together

pub next_side : (k : ℕ) (old new whole : Option ℕ) (all : List (List ℕ)) (p : List ℕ) (rest : List (List ℕ)) → all ≡ p ∷ rest → new ≡ last_or old (fitting number_of k (fields p)) →
    last_or old (fitting number_of k (flat_map fields all)) ≡ whole → last_or new (fitting number_of k (flat_map fields rest)) ≡ whole
next_side k old new whole all p rest steps is so_far =
    ap (λ b. last_or b (fitting number_of k (flat_map fields rest))) is
    ∙ sym (last_or-append old (fitting number_of k (fields p)) (fitting number_of k (flat_map fields rest)))
    ∙ sym (ap (last_or old) (filter_map-append _ (fields p) (flat_map fields rest)))
    ∙ ap (λ ps. last_or old (fitting number_of k (flat_map fields ps))) (sym steps)
    ∙ so_far

-- ---- the phases

first-append : (ps qs : List Phase) → first (ps ++ qs) ≡ first (first ps ∷ qs)
first-append [] qs = refl
first-append (None ∷ ps) qs = first-append ps qs
first-append (Some f ∷ ps) qs = refl

abbrev pub judged : Option WireFault → Phase → Bool → Bool → Option ℕ → Phase
judged w boxes incomplete texts unknown =
    first (option_map faults.HeaderBlockWire w ∷ boxes ∷ when incomplete faults.BBoxIncomplete ∷ when (not texts) faults.HeaderTextNotUtf8 ∷ option_map faults.UnknownFeature unknown ∷ [])

-- the fault by its parts, as they were read
pub header_fault_is : (w : List ℕ) (v : Option WireFault) (boxes : Phase) (incomplete texts : Bool) (unknown : Option ℕ) →
    v ≡ wire w → boxes ≡ first (map wire_phase (each (fields w) HEADER_BBOX)) → incomplete ≡ is_incomplete (fields w) → texts ≡ are_texts (fields w) → unknown ≡ unknown_feature (each (fields w) HEADER_REQUIRED_FEATURES) →
    header_fault w ≡ judged v boxes incomplete texts unknown
unfolding header_fault
header_fault_is w v boxes incomplete texts unknown ev eb ei et eu =
    let bs : List Phase = map wire_phase (each (fields w) HEADER_BBOX) in
    let rest : List Phase = when (is_incomplete (fields w)) faults.BBoxIncomplete ∷ when (not (are_texts (fields w))) faults.HeaderTextNotUtf8 ∷ option_map faults.UnknownFeature (unknown_feature (each (fields w) HEADER_REQUIRED_FEATURES)) ∷ [] in
    after (wire_phase w) bs rest
    ∙ ap (λ x. judged x (first bs) (is_incomplete (fields w)) (are_texts (fields w)) (unknown_feature (each (fields w) HEADER_REQUIRED_FEATURES))) (sym ev)
    ∙ ap (λ x. judged v x (is_incomplete (fields w)) (are_texts (fields w)) (unknown_feature (each (fields w) HEADER_REQUIRED_FEATURES))) (sym eb)
    ∙ ap (λ x. judged v boxes x (are_texts (fields w)) (unknown_feature (each (fields w) HEADER_REQUIRED_FEATURES))) (sym ei)
    ∙ ap (λ x. judged v boxes incomplete x (unknown_feature (each (fields w) HEADER_REQUIRED_FEATURES))) (sym et)
    ∙ ap (λ x. judged v boxes incomplete texts x) (sym eu)
  where
    after : (p : Phase) (ps qs : List Phase) → first ((p ∷ ps) ++ qs) ≡ first (p ∷ first ps ∷ qs)
    after None ps qs = first-append ps qs
    after (Some f) ps qs = refl

none_is : (n : Bool) (b : Option BBox) → is_some b ≡ not n → n ≡ is_none b
none_is true None e = refl
none_is true (Some b) e = absurd cc
none_is false None e = absurd cc
none_is false (Some b) e = refl

-- whether the box is incomplete, as it was tested
pub incomplete_is : (fs : List Entry) (there none test : Bool) (b : Option BBox) → there ≡ is_there (each fs HEADER_BBOX) → b ≡ box_of (sub fs HEADER_BBOX) → is_some b ≡ not none → (there && none) ≡ test → test ≡ is_incomplete fs
incomplete_is fs there none test b et eb en e =
    sym e ∙ ap (λ x. x && none) et ∙ ap (λ x. is_there (each fs HEADER_BBOX) && x) (none_is none b en ∙ ap is_none eb)
