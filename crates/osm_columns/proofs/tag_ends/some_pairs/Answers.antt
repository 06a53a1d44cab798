use Rattle.std.proofs.Common.{rules, ◌≡◌, ◌∙◌, length, drop, get_or, ap, sym, pos, FitsSigned, w32, arith}
use Rattle.osm_block.specs.NodeTags.{front_pairs}
use Rattle.osm_block.proofs.TagsLemmas.{zero_from_bits, not_zero_from_bits}
use Rattle.osm_block.proofs.NodeTagsLemmas.{front_at_zero, front_at_end, nothing_behind}
use Rattle.osm_columns.proofs.PairLemmas.{PairStep, pair-step}
use Rattle.osm_columns.proofs.tag_ends.some_pairs.Goals as goal

pub returns-then-keys_vals-index-eq0-clause-count : goal.returns-then-keys_vals-index-eq0-clause-count
returns-then-keys_vals-index-eq0-clause-count c =
    let fits : FitsSigned w32 (get_or c.args.keys_vals.now c.loop-index.index (pos 0)) = search rules in
    let front = front_at_zero c.args.keys_vals.now c.loop-index.index (omega arith) (zero_from_bits _ fits c.if-keys_vals-index-eq0.true) in
    let none : length (front_pairs (drop c.loop-index.index c.args.keys_vals.now)).0 ≡ 0 = ap (λ f. length f.0) front in
    omega arith

pub returns-then-keys_vals-index-eq0-clause-rest : goal.returns-then-keys_vals-index-eq0-clause-rest
returns-then-keys_vals-index-eq0-clause-rest c =
    let fits : FitsSigned w32 (get_or c.args.keys_vals.now c.loop-index.index (pos 0)) = search rules in
    let front = front_at_zero c.args.keys_vals.now c.loop-index.index (omega arith) (zero_from_bits _ fits c.if-keys_vals-index-eq0.true) in
    sym (ap (λ f. f.1) front) ∙ c.loop-index.invariant.rest

pub loop-index-preserved : goal.loop-index-preserved
loop-index-preserved c =
    let step : PairStep c.args.keys_vals.now c.loop-index.index = pair-step c.args.keys_vals.now c.loop-index.index (omega arith) (not_zero_from_bits _ c.if-keys_vals-index-eq0.false) in
    record {
      within = omega arith;
      place = omega arith;
      count = omega arith;
      rest = sym step.rest ∙ c.loop-index.invariant.rest;
    }

pub returns-clause-count : goal.returns-clause-count
returns-clause-count c =
    let front = front_at_end c.args.keys_vals.now c.loop-index.index (omega arith) in
    let none : length (front_pairs (drop c.loop-index.index c.args.keys_vals.now)).0 ≡ 0 = ap (λ f. length f.0) front in
    omega arith

pub returns-clause-rest : goal.returns-clause-rest
returns-clause-rest c =
    let front = front_at_end c.args.keys_vals.now c.loop-index.index (omega arith) in
    nothing_behind c.args.keys_vals.now ∙ sym (ap (λ f. f.1) front) ∙ c.loop-index.invariant.rest
