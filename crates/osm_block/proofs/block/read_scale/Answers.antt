use Rattle.std.proofs.Common.{rules, ◌≡◌, ◌∙◌, ◌++◌, ap, sym, subst, map, List, Err, None, true, ℕ, ℤ, pos, FitsSigned, w32, w64}
use Rattle.std.proofs.lemmas.Int.{to_z-of_z}
use Rattle.std.specs.Prelude.{⊤, ◌≤ℤ◌}
use Rattle.std.specs.List.{flat_map, AllByRecursion}
use Rattle.osm_block.specs.declared.fields.TheConstants.{BLOCK_STRINGTABLE, STRINGTABLE_S}
use Rattle.osm_block.specs.declared.scale.Scale.{Scale}
use Rattle.pbf_wire.specs.Readings.{fields, wire}
use Rattle.pbf_wire.specs.Readings.{each, is_there}
use Rattle.osm_value.specs.Ranges.{IsText}
use Rattle.osm_block.specs.Phases.{Gives, first, wire_phases, text_phases, head_phases}
use Rattle.osm_block.proofs.ReadingLemmas.{Gives-err}
use Rattle.osm_block.proofs.HeadLemmas.{past_table, stop_tables, stop_texts, past_texts, all_none, bad_scales, good_scales, scales_are, context_parts}
use Rattle.std.specs.List.{list_all}
use Rattle.osm_block.specs.Texts.{is_text}
use Rattle.osm_block.proofs.RangeLemmas.{table_passes}
use Rattle.osm_block.proofs.block.read_scale.Goals as goal

pub returns-in_err-check_all-clause-phase : goal.returns-in_err-check_all-clause-phase
returns-in_err-check_all-clause-phase c =
    let w = c.args.bytes.now in
    let none : wire w ≡ None = search rules in
    let read = c.in_ok-each.ensures ∙ ap (λ l. map (λ x. x.now) l ++ each (fields w) BLOCK_STRINGTABLE) c.new-tables.ensures.items in
    let found = ap (map (λ x. x.now)) c.deref.ensures.value ∙ read in
    let there : is_there (each (fields w) BLOCK_STRINGTABLE) ≡ true = sym (ap is_there found) ∙ sym c.some_there.ensures ∙ c.if-not-some_there.false in
    let past = past_table w none there in
    let tables = ap (λ l. first (wire_phases (map wire l))) (ap (map (λ x. x.now)) c.deref-2.ensures.value ∙ read) in
    let refused : Gives {A = Scale} (λ _. ⊤) (first (head_phases w)) (Err c.in_err-check_all.field-0.0) =
    Gives-err {A = Unit {0}} (λ _. ⊤) (λ (s : Scale). ⊤) _ _ _ (λ f s. stop_tables w _ past f (sym tables ∙ s)) c.in_err-check_all.ensures in
    search rules

pub returns-in_err-table-clause-phase : goal.returns-in_err-table-clause-phase
returns-in_err-table-clause-phase c =
    let w = c.args.bytes.now in
    let none : wire w ≡ None = search rules in
    let read = c.in_ok-each.ensures ∙ ap (λ l. map (λ x. x.now) l ++ each (fields w) BLOCK_STRINGTABLE) c.new-tables.ensures.items in
    let found = ap (map (λ x. x.now)) c.deref.ensures.value ∙ read in
    let there : is_there (each (fields w) BLOCK_STRINGTABLE) ≡ true = sym (ap is_there found) ∙ sym c.some_there.ensures ∙ c.if-not-some_there.false in
    let past = past_table w none there in
    let tables = ap (λ l. first (wire_phases (map wire l))) (ap (map (λ x. x.now)) c.deref-2.ensures.value ∙ read) in
    let raw = ap (map (λ x. x.now)) c.deref-4.ensures.value ∙ c.in_ok-each_of_all.ensures ∙ ap (λ l. map (λ x. x.now) l ++ each (flat_map fields (map (λ x. x.now) c.deref-3.result.now)) STRINGTABLE_S) c.new-raw.ensures.items ∙ ap (λ l. each (flat_map fields l) STRINGTABLE_S) (ap (map (λ x. x.now)) c.deref-3.ensures.value ∙ read) in
    let texts = ap (λ l. first (flat_map text_phases l)) raw in
    let no_tables = sym tables ∙ c.in_ok-check_all.ensures.0 in
    let refused : Gives {A = Scale} (λ _. ⊤) (first (head_phases w)) (Err c.in_err-table.field-0.0) =
    Gives-err {A = Unit {0}} (λ _. ⊤) (λ (s : Scale). ⊤) _ _ _ (λ f s. stop_texts w _ past no_tables f (sym texts ∙ s)) c.in_err-table.ensures.phase in
    search rules

pub returns-then-not-are_scales-clause-phase : goal.returns-then-not-are_scales-clause-phase
returns-then-not-are_scales-clause-phase c =
    let w = c.args.bytes.now in
    let none : wire w ≡ None = search rules in
    let read = c.in_ok-each.ensures ∙ ap (λ l. map (λ x. x.now) l ++ each (fields w) BLOCK_STRINGTABLE) c.new-tables.ensures.items in
    let found = ap (map (λ x. x.now)) c.deref.ensures.value ∙ read in
    let there : is_there (each (fields w) BLOCK_STRINGTABLE) ≡ true = sym (ap is_there found) ∙ sym c.some_there.ensures ∙ c.if-not-some_there.false in
    let past = past_table w none there in
    let tables = ap (λ l. first (wire_phases (map wire l))) (ap (map (λ x. x.now)) c.deref-2.ensures.value ∙ read) in
    let raw = ap (map (λ x. x.now)) c.deref-4.ensures.value ∙ c.in_ok-each_of_all.ensures ∙ ap (λ l. map (λ x. x.now) l ++ each (flat_map fields (map (λ x. x.now) c.deref-3.result.now)) STRINGTABLE_S) c.new-raw.ensures.items ∙ ap (λ l. each (flat_map fields l) STRINGTABLE_S) (ap (map (λ x. x.now)) c.deref-3.ensures.value ∙ read) in
    let texts = ap (λ l. first (flat_map text_phases l)) raw in
    let no_tables = sym tables ∙ c.in_ok-check_all.ensures.0 in
    let rest = past_texts w _ past no_tables (sym texts ∙ c.in_ok-table.ensures.phase.0) in
    let fg : FitsSigned w32 c.granularity_of-granularity.result = search rules in
    let fd : FitsSigned w32 c.date_granularity_of-date_granularity.result = search rules in
    let granularity = to_z-of_z w32 _ fg ∙ c.granularity_of-granularity.ensures in
    let date_granularity = to_z-of_z w32 _ fd ∙ c.date_granularity_of-date_granularity.ensures in
    let same = scales_are w _ _ _ c.are_scales.ensures.is granularity date_granularity in
    bad_scales w _ _ rest same c.if-not-are_scales.true

pub returns-clause-phase : goal.returns-clause-phase
returns-clause-phase c =
    let w = c.args.bytes.now in
    let none : wire w ≡ None = search rules in
    let read = c.in_ok-each.ensures ∙ ap (λ l. map (λ x. x.now) l ++ each (fields w) BLOCK_STRINGTABLE) c.new-tables.ensures.items in
    let found = ap (map (λ x. x.now)) c.deref.ensures.value ∙ read in
    let there : is_there (each (fields w) BLOCK_STRINGTABLE) ≡ true = sym (ap is_there found) ∙ sym c.some_there.ensures ∙ c.if-not-some_there.false in
    let past = past_table w none there in
    let tables = ap (λ l. first (wire_phases (map wire l))) (ap (map (λ x. x.now)) c.deref-2.ensures.value ∙ read) in
    let raw = ap (map (λ x. x.now)) c.deref-4.ensures.value ∙ c.in_ok-each_of_all.ensures ∙ ap (λ l. map (λ x. x.now) l ++ each (flat_map fields (map (λ x. x.now) c.deref-3.result.now)) STRINGTABLE_S) c.new-raw.ensures.items ∙ ap (λ l. each (flat_map fields l) STRINGTABLE_S) (ap (map (λ x. x.now)) c.deref-3.ensures.value ∙ read) in
    let texts = ap (λ l. first (flat_map text_phases l)) raw in
    let no_tables = sym tables ∙ c.in_ok-check_all.ensures.0 in
    let rest = past_texts w _ past no_tables (sym texts ∙ c.in_ok-table.ensures.phase.0) in
    let fg : FitsSigned w32 c.granularity_of-granularity.result = search rules in
    let fd : FitsSigned w32 c.date_granularity_of-date_granularity.result = search rules in
    let granularity = to_z-of_z w32 _ fg ∙ c.granularity_of-granularity.ensures in
    let date_granularity = to_z-of_z w32 _ fd ∙ c.date_granularity_of-date_granularity.ensures in
    let same = scales_are w _ _ _ c.are_scales.ensures.is granularity date_granularity in
    (good_scales w _ _ rest same c.if-not-are_scales.false, tt)

pub returns-clause-read : goal.returns-clause-read
returns-clause-read c =
    let w = c.args.bytes.now in
    let none : wire w ≡ None = search rules in
    let read = c.in_ok-each.ensures ∙ ap (λ l. map (λ x. x.now) l ++ each (fields w) BLOCK_STRINGTABLE) c.new-tables.ensures.items in
    let found = ap (map (λ x. x.now)) c.deref.ensures.value ∙ read in
    let there : is_there (each (fields w) BLOCK_STRINGTABLE) ≡ true = sym (ap is_there found) ∙ sym c.some_there.ensures ∙ c.if-not-some_there.false in
    let past = past_table w none there in
    let tables = ap (λ l. first (wire_phases (map wire l))) (ap (map (λ x. x.now)) c.deref-2.ensures.value ∙ read) in
    let raw = ap (map (λ x. x.now)) c.deref-4.ensures.value ∙ c.in_ok-each_of_all.ensures ∙ ap (λ l. map (λ x. x.now) l ++ each (flat_map fields (map (λ x. x.now) c.deref-3.result.now)) STRINGTABLE_S) c.new-raw.ensures.items ∙ ap (λ l. each (flat_map fields l) STRINGTABLE_S) (ap (map (λ x. x.now)) c.deref-3.ensures.value ∙ read) in
    let texts = ap (λ l. first (flat_map text_phases l)) raw in
    let no_tables = sym tables ∙ c.in_ok-check_all.ensures.0 in
    let fg : FitsSigned w32 c.granularity_of-granularity.result = search rules in
    let fd : FitsSigned w32 c.date_granularity_of-date_granularity.result = search rules in
    let granularity = to_z-of_z w32 _ fg ∙ c.granularity_of-granularity.ensures in
    let date_granularity = to_z-of_z w32 _ fd ∙ c.date_granularity_of-date_granularity.ensures in
    let fa : FitsSigned w64 c.offset_of.result = search rules in
    let fo : FitsSigned w64 c.offset_of-2.result = search rules in
    let low : ℤ → Type 0 = λ z. pos 1 ≤ℤ z in
    record {
      context_is = context_parts w _ _ _ _ _ (c.in_ok-table.ensures.same ∙ raw) granularity date_granularity (to_z-of_z w64 _ fa ∙ c.offset_of.ensures) (to_z-of_z w64 _ fo ∙ c.offset_of-2.ensures);
      is_message = none;
      has_table = there;
      tables_are = all_none (each (fields w) BLOCK_STRINGTABLE) no_tables;
      texts_are = subst (λ l. AllByRecursion IsText l) raw c.in_ok-table.ensures.text;
      granularity = subst low granularity (c.are_scales.ensures.granularity c.if-not-are_scales.false);
      date_granularity = subst low date_granularity (c.are_scales.ensures.date_granularity c.if-not-are_scales.false);
    }

pub invariant_of-result : goal.invariant_of-result
invariant_of-result c =
    let P : List (List ℕ) → Type 0 = λ l. list_all is_text l ≡ true in
    record { texts = subst P (sym c.in_ok-table.ensures.same) (table_passes _ c.in_ok-table.ensures.text) }
