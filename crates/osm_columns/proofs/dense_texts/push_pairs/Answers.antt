use Rattle.std.proofs.Common.{rules, ◌≡◌, ◌∙◌, ◌+◌, length, get_or, ap, pos, FitsSigned, to_z, of_z, w32, w64, arith}
use Rattle.std.proofs.lemmas.Int.{to_z-of_z}
use Rattle.osm_block.specs.Phases.{is_index}
use Rattle.osm_block.proofs.TagsLemmas.{zero_from_bits, not_zero_from_bits}
use Rattle.osm_block.proofs.NodeTagsLemmas.{front_at_zero, front_at_end, nothing_behind}
use Rattle.osm_columns.specs.Indexes.{index_in}
use Rattle.osm_columns.proofs.PairLemmas.{NextInTable, next-pair, pair-pushed, all-pushed}
use Rattle.osm_columns.proofs.dense_texts.push_pairs.Goals as goal

pub returns-then-key-eq0-clause-rest : goal.returns-then-key-eq0-clause-rest
returns-then-key-eq0-clause-rest c =
    let fits : FitsSigned w32 (get_or c.args.keys_vals.now c.loop-index.index (pos 0)) = search rules in
    (all-pushed _ _ _ _ _ _ _ _ _ c.loop-index.invariant (front_at_zero c.args.keys_vals.now c.loop-index.index (omega arith) (zero_from_bits _ fits c.if-key-eq0.true))).rest

pub returns-then-key-eq0-clause-keys : goal.returns-then-key-eq0-clause-keys
returns-then-key-eq0-clause-keys c =
    let fits : FitsSigned w32 (get_or c.args.keys_vals.now c.loop-index.index (pos 0)) = search rules in
    (all-pushed _ _ _ _ _ _ _ _ _ c.loop-index.invariant (front_at_zero c.args.keys_vals.now c.loop-index.index (omega arith) (zero_from_bits _ fits c.if-key-eq0.true))).keys_are

pub returns-then-key-eq0-clause-values : goal.returns-then-key-eq0-clause-values
returns-then-key-eq0-clause-values c =
    let fits : FitsSigned w32 (get_or c.args.keys_vals.now c.loop-index.index (pos 0)) = search rules in
    (all-pushed _ _ _ _ _ _ _ _ _ c.loop-index.invariant (front_at_zero c.args.keys_vals.now c.loop-index.index (omega arith) (zero_from_bits _ fits c.if-key-eq0.true))).values_are

pub index_at-requires-in-loop-index : goal.index_at-requires-in-loop-index
index_at-requires-in-loop-index c =
    let fits : FitsSigned w32 (get_or c.args.keys_vals.now (c.loop-index.index + 1) (pos 0)) = search rules in
    let wide : FitsSigned w64 c.from-in-loop-index.result = search rules in
    let is : to_z w64 (of_z w64 c.from-in-loop-index.result) ≡ get_or c.args.keys_vals.now (c.loop-index.index + 1) (pos 0) = to_z-of_z w64 _ wide ∙ c.from-in-loop-index.ensures ∙ to_z-of_z w32 _ fits in
    let next : NextInTable c.args.table.now c.args.keys_vals.now c.loop-index.index = next-pair _ _ _ c.loop-index.invariant.in_table (omega arith) (not_zero_from_bits _ c.if-key-eq0.false) in
    ap (is_index (length c.args.table.now)) is ∙ next.value

pub loop-index-preserved : goal.loop-index-preserved
loop-index-preserved c =
    let key_fits : FitsSigned w32 (get_or c.args.keys_vals.now c.loop-index.index (pos 0)) = search rules in
    let key_wide : FitsSigned w64 c.from.result = search rules in
    let key_is : to_z w64 (of_z w64 c.from.result) ≡ get_or c.args.keys_vals.now c.loop-index.index (pos 0) = to_z-of_z w64 _ key_wide ∙ c.from.ensures ∙ to_z-of_z w32 _ key_fits in
    let value_fits : FitsSigned w32 (get_or c.args.keys_vals.now (c.loop-index.index + 1) (pos 0)) = search rules in
    let value_wide : FitsSigned w64 c.from-in-loop-index.result = search rules in
    let value_is : to_z w64 (of_z w64 c.from-in-loop-index.result) ≡ get_or c.args.keys_vals.now (c.loop-index.index + 1) (pos 0) = to_z-of_z w64 _ value_wide ∙ c.from-in-loop-index.ensures ∙ to_z-of_z w32 _ value_fits in
    let key_out : FitsSigned w32 c.index_at.result = search rules in
    let value_out : FitsSigned w32 c.index_at-in-loop-index.result = search rules in
    pair-pushed _ _ _ _ _ _ _ _ _ _ _ _ c.loop-index.invariant (omega arith) (not_zero_from_bits _ c.if-key-eq0.false)
    c.in_ok-push.ensures.items (to_z-of_z w32 _ key_out ∙ c.index_at.ensures ∙ ap (index_in c.args.table.now) key_is)
    c.in_ok-push-2.ensures.items (to_z-of_z w32 _ value_out ∙ c.index_at-in-loop-index.ensures ∙ ap (index_in c.args.table.now) value_is)

pub returns-clause-rest : goal.returns-clause-rest
returns-clause-rest c = nothing_behind c.args.keys_vals.now ∙ (all-pushed _ _ _ _ _ _ _ _ _ c.loop-index.invariant (front_at_end c.args.keys_vals.now c.loop-index.index (omega arith))).rest

pub returns-clause-keys : goal.returns-clause-keys
returns-clause-keys c = (all-pushed _ _ _ _ _ _ _ _ _ c.loop-index.invariant (front_at_end c.args.keys_vals.now c.loop-index.index (omega arith))).keys_are

pub returns-clause-values : goal.returns-clause-values
returns-clause-values c = (all-pushed _ _ _ _ _ _ _ _ _ c.loop-index.invariant (front_at_end c.args.keys_vals.now c.loop-index.index (omega arith))).values_are
