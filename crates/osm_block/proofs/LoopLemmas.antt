-- Messages read one after the other.
use Rattle.std.proofs.Common.{◌≡◌, ℕ, ◌+◌, ◌<◌, List, [], ◌∷◌, ◌++◌, map, length, drop, take, get_or, refl, sym, ap, subst, ◌∙◌, Option, Some, None, append_assoc, append-nil, arith}
use Rattle.std.specs.Prelude.{IsNone, OnOk, Result, Ok, Err, Bool, false, not, nat_le, ◌≤◌}
use Rattle.std.proofs.lemmas.Bool.Decides.{nat_tests}
use Rattle.pbf_wire.specs.Field.{Entry}
use Rattle.osm_block.specs.declared.fields.TheConstants.{GROUP_DENSE, GROUP_NODES, GROUP_RELATIONS, GROUP_WAYS}
use Rattle.std.specs.List.{flat_map, AllByRecursion}
use Rattle.std.proofs.lemmas.List.{map-append, drop_more, take_more}
use Rattle.std.proofs.lemmas.Grind.{flat_map-append}
use Rattle.pbf_wire.specs.declared.fault.WireFault.{WireFault}
use Rattle.osm_block.specs.declared.fault.BlockFault.{BlockFault}
use Rattle.osm_value.specs.declared.element.Element.{Element}
use Rattle.osm_block.specs.Message.{Context, Message, Plain, Dense, Way, Relation, wires, messages}
use Rattle.pbf_wire.specs.Readings.{each}
use Rattle.osm_block.specs.Block.{Joins, AllAreWire}
use Rattle.osm_block.specs.Phases.{Phase, first, wire_phases, message_phases, phases_after_wire}
use Rattle.osm_block.specs.Reads.{Says, Appended}
use Rattle.osm_block.proofs.ReadingLemmas.{first-append_none, first-append_some}

pub first-front_none : (ps qs : List Phase) → first (ps ++ qs) ≡ None → first ps ≡ None
first-front_none [] qs e = refl
first-front_none (None ∷ ps) qs e = first-front_none ps qs e
first-front_none (Some f ∷ ps) qs e = cc

pub all_wire : (ws : List (Option WireFault)) → first (wire_phases ws) ≡ None → AllByRecursion IsNone ws
all_wire [] e = tt
all_wire (None ∷ ws) e = (refl, all_wire ws e)
all_wire (Some f ∷ ws) e = cc

pub message_wire : (b : Context) (m : Message) → first (message_phases b m) ≡ None → AllAreWire m
message_wire b m e = all_wire (wires m) (first-front_none (wire_phases (wires m)) (phases_after_wire b m) e)

-- ---- lists joined of parts

pub Joins-more : {A B : Type 0} (R : List A → B → Type 0) (es xs : List A) (zs : List B) (z : B) → Joins R es zs → R xs z → Joins R (es ++ xs) (zs ++ z ∷ [])
Joins-more R es xs [] z h r = (xs, [], ap (λ l. l ++ xs) h ∙ sym (append-nil xs), r, refl)
Joins-more R es xs (y ∷ zs) z h r =
    (h.0, h.1 ++ xs, ap (λ l. l ++ xs) h.2 ∙ append_assoc h.0 h.1 xs, h.3, Joins-more R h.1 xs zs z h.4 r)

pub Joins-append : {A B : Type 0} (R : List A → B → Type 0) (es fs : List A) (ys zs : List B) → Joins R es ys → Joins R fs zs → Joins R (es ++ fs) (ys ++ zs)
Joins-append R es fs [] zs g h = let P : List _ → Type 0 = λ l. Joins R (l ++ fs) zs in subst P (sym g) h
Joins-append R es fs (y ∷ ys) zs g h =
    (g.0, g.1 ++ fs, ap (λ l. l ++ fs) g.2 ∙ append_assoc g.0 g.1 fs, g.3, Joins-append R g.1 fs ys zs g.4 h)

-- ---- a loop over payloads, each made a message

next-phases : {B M : Type 0} (phases : M → List Phase) (make : List ℕ → M) (now : B → List ℕ) (ps : List B) (i : ℕ) (d : B) → i < length ps →
    flat_map phases (map make (map now (drop i ps))) ≡ phases (make (now (get_or ps i d))) ++ flat_map phases (map make (map now (drop (i + 1) ps)))
next-phases phases make now ps i d h = ap (λ l. flat_map phases (map make (map now l))) (drop_more ps i d h)

pub phase-step : {B M : Type 0} (phases : M → List Phase) (make : List ℕ → M) (now : B → List ℕ) (ps : List B) (i : ℕ) (d : B) (whole : Phase) → i < length ps →
    first (phases (make (now (get_or ps i d)))) ≡ None → first (flat_map phases (map make (map now (drop i ps)))) ≡ whole →
    first (flat_map phases (map make (map now (drop (i + 1) ps)))) ≡ whole
phase-step phases make now ps i d whole h none so_far =
    sym (first-append_none (phases (make (now (get_or ps i d)))) _ none) ∙ sym (ap first (next-phases phases make now ps i d h)) ∙ so_far

pub phase-stop : {B M : Type 0} (phases : M → List Phase) (make : List ℕ → M) (now : B → List ℕ) (ps : List B) (i : ℕ) (d : B) (whole : Phase) → i < length ps →
    first (flat_map phases (map make (map now (drop i ps)))) ≡ whole → (f : BlockFault) → first (phases (make (now (get_or ps i d)))) ≡ Some f → whole ≡ Some f
phase-stop phases make now ps i d whole h so_far f some =
    sym so_far ∙ ap first (next-phases phases make now ps i d h) ∙ first-append_some (phases (make (now (get_or ps i d)))) _ f some

-- what was appended so far stands to the first messages
abbrev pub SoFar : {A B M : Type 0} → (List A → M → Type 0) → (List ℕ → M) → (B → List ℕ) → List A → List A → List B → Type 0
SoFar {A} R make now start out ps = (es : List A) × (out ≡ start ++ es) × Joins R es (map make (map now ps))

pub joins-step : {A B M : Type 0} (R : List A → M → Type 0) (make : List ℕ → M) (now : B → List ℕ) (ps : List B) (i : ℕ) (d : B) (start old new xs : List A) → i < length ps →
    new ≡ old ++ xs → R xs (make (now (get_or ps i d))) → SoFar R make now start old (take i ps) → SoFar R make now start new (take (i + 1) ps)
joins-step {A} {B} R make now ps i d start old new xs h grown r s =
    let more : map make (map now (take (i + 1) ps)) ≡ map make (map now (take i ps)) ++ make (now (get_or ps i d)) ∷ [] =
    ap (λ l. map make (map now l)) (take_more ps i d h) ∙ ap (map make) (map-append now (take i ps) (get_or ps i d ∷ [])) ∙ map-append make (map now (take i ps)) (now (get_or ps i d) ∷ []) in
    let P : List _ → Type 0 = λ l. Joins R (s.0 ++ xs) l in
    (s.0 ++ xs, grown ∙ ap (λ l. l ++ xs) s.1 ∙ append_assoc start s.0 xs, subst P (sym more) (Joins-more R s.0 xs _ _ s.2 r))

pub on_ok : {A E P Q : Type 0} (r : Result A E) → (P → Q) → OnOk r P → OnOk r Q
on_ok (Ok x) f p = f p
on_ok (Err e) f p = tt

-- ---- messages and groups, one part after the other

pub stop_front : {M : Type 0} (phases : M → List Phase) (xs ys : List M) (whole : Phase) → whole ≡ first (flat_map phases (xs ++ ys)) → (f : BlockFault) → first (flat_map phases xs) ≡ Some f → whole ≡ Some f
stop_front phases xs ys whole e f s = e ∙ ap first (flat_map-append phases xs ys) ∙ first-append_some (flat_map phases xs) (flat_map phases ys) f s

pub past_front : {M : Type 0} (phases : M → List Phase) (xs ys : List M) (whole : Phase) → whole ≡ first (flat_map phases (xs ++ ys)) → first (flat_map phases xs) ≡ None → whole ≡ first (flat_map phases ys)
past_front phases xs ys whole e n = e ∙ ap first (flat_map-append phases xs ys) ∙ first-append_none (flat_map phases xs) (flat_map phases ys) n

pub single : {M : Type 0} (phases : M → List Phase) (x : M) → first (phases x) ≡ first (flat_map phases (x ∷ []))
single phases x = sym (ap first (append-nil (phases x)))

pub Appended-append : (b : Context) (old mid new : List Element) (ms ns : List Message) → Appended b old mid ms → Appended b mid new ns → Appended b old new (ms ++ ns)
Appended-append b old mid new ms ns g h =
    (g.0 ++ h.0, h.1 ∙ ap (λ l. l ++ h.0) g.1 ∙ append_assoc old g.0 h.0, Joins-append (Says b) g.0 h.0 ms ns g.2 h.2)

pub Appended-along : (b : Context) (old new : List Element) (ms ns : List Message) → ms ≡ ns → Appended b old new ms → Appended b old new ns
Appended-along b old new ms ns e g = let P : List Message → Type 0 = λ l. Appended b old new l in subst P e g

-- the kinds of a group are those of its parts
-- the messages of a group are those of its parts
pub messages_are : (gs : List Entry) (p q r s : List (List ℕ)) → p ≡ each gs GROUP_NODES → q ≡ each gs GROUP_DENSE → r ≡ each gs GROUP_WAYS → s ≡ each gs GROUP_RELATIONS →
    map Plain p ++ (Dense q ∷ (map Way r ++ map Relation s)) ≡ messages gs
messages_are gs p q r s ep eq er es =
    ap (λ x. map Plain x ++ (Dense q ∷ (map Way r ++ map Relation s))) ep
    ∙ ap (λ x. map Plain (each gs GROUP_NODES) ++ (Dense x ∷ (map Way r ++ map Relation s))) eq
    ∙ ap (λ x. map Plain (each gs GROUP_NODES) ++ (Dense (each gs GROUP_DENSE) ∷ (map Way x ++ map Relation s))) er
    ∙ ap (λ x. map Plain (each gs GROUP_NODES) ++ (Dense (each gs GROUP_DENSE) ∷ (map Way (each gs GROUP_WAYS) ++ map Relation x))) es

pub few : (n : ℕ) (m : Bool) → m ≡ not (nat_le n 1) → m ≡ false → n ≤ 1
few n m is fine = grind (arith, nat_tests)
