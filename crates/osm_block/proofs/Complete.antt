-- A block that stands to some elements has no phase that stands, where this holds of each message.
use Rattle.std.proofs.Common.{◌≡◌, ℕ, List, [], ◌∷◌, map, refl, ap, ◌∙◌, Option, Some, None, Bool, true, false, not, ◌≤◌, arith, ℤ, pos, ◌&&◌, T}
use Rattle.std.specs.Prelude.{option_map, nat_le, IsNone, int_le, ◌≤ℤ◌}
use Rattle.std.specs.List.{flat_map, AllByRecursion}
use Rattle.std.proofs.lemmas.Bool.Decides.{nat_tests}
use Rattle.pbf_wire.specs.declared.fault.WireFault.{WireFault}
use Rattle.osm_value.specs.declared.element.Element.{Element}
use Rattle.osm_block.specs.declared.fields.TheConstants.{BLOCK_PRIMITIVEGROUP, BLOCK_STRINGTABLE}
use Rattle.osm_block.specs.declared.fault.BlockFault.TheVariants as faults
use Rattle.pbf_wire.specs.Readings.{fields, wire}
use Rattle.osm_block.specs.Message.{Context, Message, Plain, Dense, Way, Relation, wires, messages, node_message, way_message, relation_message, context}
use Rattle.pbf_wire.specs.Readings.{each}
use Rattle.osm_block.specs.Block.{Block, Joins, GroupOf, kinds_in}
use Rattle.osm_value.specs.Ranges.{IsText}
use Rattle.osm_block.specs.Reads.{Says}
use Rattle.osm_block.specs.Phases.{Phase, first, when, wire_phases, message_phases, group_phases, node_phases, way_phases, relation_phases, text_phases, fault, head_phases}
use Rattle.osm_block.proofs.ReadingLemmas.{first-append_none}
use Rattle.osm_block.proofs.HeadLemmas.{tables, texts, scales, past_table, past_texts, good_scales, text_of_utf8}
use Rattle.osm_block.proofs.BlockLemmas.{groups_phases}
use Rattle.osm_block.proofs.NodeComplete.{NodeOf-no_phase}
use Rattle.osm_block.proofs.WayComplete.{WayOf-no_phase}
use Rattle.osm_block.proofs.RelationComplete.{RelationOf-no_phase}
use Rattle.osm_block.proofs.DenseComplete.{dense_none}

pub wires_none : (ws : List (Option WireFault)) → AllByRecursion IsNone ws → first (wire_phases ws) ≡ None
wires_none [] h = refl
wires_none (None ∷ ws) h = wires_none ws h.1
wires_none (Some f ∷ ws) h = absurd cc

pub way_none : (b : Context) (es : List Element) (p : List ℕ) → Says b es (Way p) → first (message_phases b (Way p)) ≡ None
way_none b es p h =
    first-append_none (wire_phases (wires (Way p))) (way_phases b (way_message (fields p))) (wires_none (wires (Way p)) h.0)
    ∙ WayOf-no_phase b h.1.0 (way_message (fields p)) h.1.2

pub node_none : (b : Context) (es : List Element) (p : List ℕ) → Says b es (Plain p) → first (message_phases b (Plain p)) ≡ None
node_none b es p h =
    first-append_none (wire_phases (wires (Plain p))) (node_phases b (node_message (fields p))) (wires_none (wires (Plain p)) h.0)
    ∙ NodeOf-no_phase b h.1.0 (node_message (fields p)) h.1.2

pub relation_none : (b : Context) (es : List Element) (p : List ℕ) → Says b es (Relation p) → first (message_phases b (Relation p)) ≡ None
relation_none b es p h =
    first-append_none (wire_phases (wires (Relation p))) (relation_phases b (relation_message (fields p))) (wires_none (wires (Relation p)) h.0)
    ∙ RelationOf-no_phase b h.1.0 (relation_message (fields p)) h.1.2

-- lists joined of parts for which nothing stands
pub joins_none : {A B : Type 0} (R : List A → B → Type 0) (phases : B → List Phase) → ((es : List A) (x : B) → R es x → first (phases x) ≡ None) →
    (es : List A) (xs : List B) → Joins R es xs → first (flat_map phases xs) ≡ None
joins_none R phases none es [] h = refl
joins_none R phases none es (x ∷ xs) h =
    first-append_none (phases x) (flat_map phases xs) (none h.0 x h.3) ∙ joins_none R phases none h.1 xs h.4

at_most : (n : ℕ) → n ≤ 1 → nat_le n 1 ≡ true
at_most n h = grind (arith, nat_tests)

pub group_none : (b : Context) → ((es : List Element) (m : Message) → Says b es m → first (message_phases b m) ≡ None) →
    (es : List Element) (g : List ℕ) → GroupOf b es g → first (group_phases b g) ≡ None
group_none b none es g h =
    ap (λ o. first (option_map faults.BlockWire o ∷ when (not (nat_le (kinds_in (fields g)) 1)) faults.MixedGroup ∷ flat_map (message_phases b) (messages (fields g)))) h.is_message
    ∙ ap (λ v. first (when (not v) faults.MixedGroup ∷ flat_map (message_phases b) (messages (fields g)))) (at_most (kinds_in (fields g)) h.one_kind)
    ∙ joins_none (Says b) (message_phases b) none es (messages (fields g)) h.elements_are

-- ---- what stands before the groups

tables_none : (ps : List (List ℕ)) → AllByRecursion (λ p. wire p ≡ None) ps → first (wire_phases (map wire ps)) ≡ None
tables_none [] h = refl
tables_none (p ∷ ps) h = ap (λ o. first (option_map faults.BlockWire o ∷ wire_phases (map wire ps))) h.0 ∙ tables_none ps h.1

texts_none : (ts : List (List ℕ)) → AllByRecursion IsText ts → first (flat_map text_phases ts) ≡ None
texts_none [] h = refl
texts_none (t ∷ ts) h =
    first-append_none (text_phases t) (flat_map text_phases ts) (text_of_utf8 t true h.0.utf8 h.0.no_nul) ∙ texts_none ts h.1

truth : (b : Bool) → T b → b ≡ true
truth true t = refl
truth false t = absurd t

at_least_one : (g : ℤ) → pos 1 ≤ℤ g → int_le (pos 1) g ≡ true
at_least_one g h = truth (int_le (pos 1) g) h.le

scales_hold : (w : List ℕ) → pos 1 ≤ℤ (context (fields w)).granularity → pos 1 ≤ℤ (context (fields w)).date_granularity → scales w ≡ true
scales_hold w g d =
    ap (λ b. b && int_le (pos 1) (context (fields w)).date_granularity) (at_least_one (context (fields w)).granularity g) ∙ at_least_one (context (fields w)).date_granularity d

pub head_none : (w : List ℕ) (es : List Element) → Block es w → first (head_phases w) ≡ None
head_none w es h =
    let no_tables : first (tables w) ≡ None = tables_none (each (fields w) BLOCK_STRINGTABLE) h.tables_are in
    let no_texts : first (texts w) ≡ None = texts_none (context (fields w)).table h.texts_are in
    good_scales w _ (scales w) (past_texts w _ (past_table w h.is_message h.has_table) no_tables no_texts) refl (scales_hold w h.granularity h.date_granularity)

pub block_none : (w : List ℕ) (es : List Element) → ((xs : List Element) (m : Message) → Says (context (fields w)) xs m → first (message_phases (context (fields w)) m) ≡ None) → Block es w → fault w ≡ None
unfolding fault
block_none w es none h =
    first-append_none (head_phases w) (groups_phases w) (head_none w es h)
    ∙ joins_none (GroupOf (context (fields w))) (group_phases (context (fields w))) (group_none (context (fields w)) none) es (each (fields w) BLOCK_PRIMITIVEGROUP) h.elements_are

-- ---- every message, and so the block

pub message_none : (b : Context) (es : List Element) (m : Message) → Says b es m → first (message_phases b m) ≡ None
message_none b es (Plain p) h = node_none b es p h
message_none b es (Dense ps) h = dense_none b es ps h (wires_none (wires (Dense ps)) h.0)
message_none b es (Way p) h = way_none b es p h
message_none b es (Relation p) h = relation_none b es p h

-- a block that says elements has no fault
pub no_fault : (es : List Element) (w : List ℕ) → Block es w → fault w ≡ None
no_fault es w says = block_none w es (message_none (context (fields w))) says
