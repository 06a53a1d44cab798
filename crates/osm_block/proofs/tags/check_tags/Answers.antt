use Rattle.std.proofs.Common.{rules, ◌+◌, get_or, pos, FitsSigned, w32, eqb-true, sym, ◌∙◌}
use Rattle.osm_block.proofs.TagsLemmas.{nothing_fits, none_left_stops, zero_goes_on, single_stops, pair_goes_on, zero_from_bits, not_zero_from_bits}
use Rattle.std.proofs.lemmas.Int.{to_z-of_z}
use Rattle.osm_block.proofs.tags.check_tags.Goals as goal

pub returns-then-is_empty : goal.returns-then-is_empty
returns-then-is_empty c = nothing_fits _ _ _ (eqb-true _ 0 (sym c.is_empty.ensures ∙ c.if-is_empty.true))

pub returns-then-left-eq0 : goal.returns-then-left-eq0
returns-then-left-eq0 c = none_left_stops _ _ _ _ _ _ c.loop-at-test.true c.loop-at.invariant c.if-left-eq0.true

pub loop-at-preserved-then-key-eq0 : goal.loop-at-preserved-then-key-eq0
loop-at-preserved-then-key-eq0 c =
    let key : FitsSigned w32 (get_or c.args.keys_vals.now c.loop-at.at (pos 0)) = search rules in
    zero_goes_on _ _ _ _ _ _ c.loop-at-test.true c.loop-at.invariant c.if-left-eq0.false (zero_from_bits _ key c.if-key-eq0.true)

pub returns-then-keys_vals-at-lt2 : goal.returns-then-keys_vals-at-lt2
returns-then-keys_vals-at-lt2 c = single_stops _ _ _ _ _ _ c.loop-at-test.true c.loop-at.invariant c.if-left-eq0.false (not_zero_from_bits _ c.if-key-eq0.false) c.if-keys_vals-at-lt2.true

pub loop-at-preserved : goal.loop-at-preserved
loop-at-preserved c =
    let key : FitsSigned w32 (get_or c.args.keys_vals.now c.loop-at.at (pos 0)) = search rules in
    let value : FitsSigned w32 (get_or c.args.keys_vals.now (c.loop-at.at + 1) (pos 0)) = search rules in
    pair_goes_on _ _ _ _ _ _ _ c.loop-at-test.true c.loop-at.invariant c.if-left-eq0.false (not_zero_from_bits _ c.if-key-eq0.false) c.if-keys_vals-at-lt2.false (simp to_z-of_z at c.are_indexes-all_in_table.ensures)
