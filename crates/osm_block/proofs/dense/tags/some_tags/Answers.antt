use Rattle.std.proofs.Common.{rules, ◌≡◌, ◌+◌, ◌∙◌, ap, map, length, get_or, pos, FitsSigned, to_z, of_z, w32, w64, arith}
use Rattle.std.proofs.lemmas.Int.{to_z-of_z}
use Rattle.std.proofs.lemmas.List.{map-append}
use Rattle.osm_block.specs.Phases.{is_index}
use Rattle.osm_block.proofs.TagsLemmas.{zero_from_bits, not_zero_from_bits}
use Rattle.osm_block.proofs.NodeTagsLemmas.{front_at_zero, front_at_end, nothing_behind, next_in_table, pair_more, pairs_end, text_of_index, along_length}
use Rattle.osm_block.proofs.dense.tags.some_tags.Goals as goal

pub returns-then-key-eq0-clause-texts : goal.returns-then-key-eq0-clause-texts
returns-then-key-eq0-clause-texts c =
    let fits : FitsSigned w32 (get_or c.args.keys_vals.now c.loop-index.index (pos 0)) = search rules in
    (pairs_end _ _ _ _ _ _ c.loop-index.invariant (front_at_zero c.args.keys_vals.now c.loop-index.index (omega arith) (zero_from_bits _ fits c.if-key-eq0.true))).0

pub returns-then-key-eq0-clause-rest : goal.returns-then-key-eq0-clause-rest
returns-then-key-eq0-clause-rest c =
    let fits : FitsSigned w32 (get_or c.args.keys_vals.now c.loop-index.index (pos 0)) = search rules in
    (pairs_end _ _ _ _ _ _ c.loop-index.invariant (front_at_zero c.args.keys_vals.now c.loop-index.index (omega arith) (zero_from_bits _ fits c.if-key-eq0.true))).1

pub index_of-key-requires : goal.index_of-key-requires
index_of-key-requires c =
    let fits : FitsSigned w32 (get_or c.args.keys_vals.now c.loop-index.index (pos 0)) = search rules in
    let wide : FitsSigned w64 c.from.result = search rules in
    let is : to_z w64 (of_z w64 c.from.result) ≡ get_or c.args.keys_vals.now c.loop-index.index (pos 0) = to_z-of_z w64 _ wide ∙ c.from.ensures ∙ to_z-of_z w32 _ fits in
    ap (is_index (length c.args.table.now)) is
    ∙ along_length (λ t. t.now) c.args.table.now _ (next_in_table _ _ _ _ _ c.loop-index.invariant (omega arith) (not_zero_from_bits _ c.if-key-eq0.false)).0

pub index_of-value-requires : goal.index_of-value-requires
index_of-value-requires c =
    let fits : FitsSigned w32 (get_or c.args.keys_vals.now (c.loop-index.index + 1) (pos 0)) = search rules in
    let wide : FitsSigned w64 c.from-in-loop-index.result = search rules in
    let is : to_z w64 (of_z w64 c.from-in-loop-index.result) ≡ get_or c.args.keys_vals.now (c.loop-index.index + 1) (pos 0) = to_z-of_z w64 _ wide ∙ c.from-in-loop-index.ensures ∙ to_z-of_z w32 _ fits in
    ap (is_index (length c.args.table.now)) is
    ∙ along_length (λ t. t.now) c.args.table.now _ (next_in_table _ _ _ _ _ c.loop-index.invariant (omega arith) (not_zero_from_bits _ c.if-key-eq0.false)).1

pub loop-index-preserved : goal.loop-index-preserved
loop-index-preserved c =
    let key_fits : FitsSigned w32 (get_or c.args.keys_vals.now c.loop-index.index (pos 0)) = search rules in
    let key_wide : FitsSigned w64 c.from.result = search rules in
    let key_is : to_z w64 (of_z w64 c.from.result) ≡ get_or c.args.keys_vals.now c.loop-index.index (pos 0) = to_z-of_z w64 _ key_wide ∙ c.from.ensures ∙ to_z-of_z w32 _ key_fits in
    let value_fits : FitsSigned w32 (get_or c.args.keys_vals.now (c.loop-index.index + 1) (pos 0)) = search rules in
    let value_wide : FitsSigned w64 c.from-in-loop-index.result = search rules in
    let value_is : to_z w64 (of_z w64 c.from-in-loop-index.result) ≡ get_or c.args.keys_vals.now (c.loop-index.index + 1) (pos 0) = to_z-of_z w64 _ value_wide ∙ c.from-in-loop-index.ensures ∙ to_z-of_z w32 _ value_fits in
    pair_more _ _ _ _ _ _ _ _ c.loop-index.invariant (omega arith) (not_zero_from_bits _ c.if-key-eq0.false)
    (ap (map (λ t. (t.0.now, t.1.now))) c.in_ok-push.ensures.items ∙ map-append (λ t. (t.0.now, t.1.now)) c.loop-index.tags.items _)
    (text_of_index (λ t. t.now) c.args.table.now _ _ _ (c.index_of-key.ensures.same ∙ key_is) c.index_of-key.ensures.within)
    (text_of_index (λ t. t.now) c.args.table.now _ _ _ (c.index_of-value.ensures.same ∙ value_is) c.index_of-value.ensures.within)

pub returns-clause-texts : goal.returns-clause-texts
returns-clause-texts c = (pairs_end _ _ _ _ _ _ c.loop-index.invariant (front_at_end c.args.keys_vals.now c.loop-index.index (omega arith))).0

pub returns-clause-rest : goal.returns-clause-rest
returns-clause-rest c = nothing_behind c.args.keys_vals.now ∙ (pairs_end _ _ _ _ _ _ c.loop-index.invariant (front_at_end c.args.keys_vals.now c.loop-index.index (omega arith))).1
