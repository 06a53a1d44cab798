use Rattle.std.proofs.Common.{◌≡◌, ◌∙◌, ◌+◌, length, drop, arith, refl, sym, ext_get_or}
use Rattle.std.proofs.lemmas.List.{get_or-map, length-map, length-drop}
use Rattle.sqlite.specs.declared.types.Value.TheVariants.{Null}
use Rattle.sqlite.specs.Order.{column}
use Rattle.sqlite.specs.Values.{bound, bound_value}
use Rattle.sqlite.specs.Value.{owned}
use Rattle.osm_tree_audits.proofs.Reaching.{at_last, behind}
use Rattle.osm_tree_audits.proofs.matching.has_values.Goals as goal

pub loop-at-preserved : goal.loop-at-preserved
loop-at-preserved c =
    let row = c.args.row.now in
    let values = bound c.args.values.now in
    let here : column row (c.loop-at.at + 1) ≡ column values c.loop-at.at = c.is_kept.ensures.0 c.if-not-is_kept.false ∙ sym (get_or-map (λ v. bound_value (owned v)) c.args.values.now c.loop-at.at _ Null c.loop-at-test.true) in
    at_last c.loop-at.at (λ k. column row (k + 1) ≡ column values k) c.loop-at.invariant here

pub returns : goal.returns
returns c =
    let long : length (drop 1 c.args.row.now) ≡ length (bound c.args.values.now) =
    length-drop 1 c.args.row.now ∙ omega (arith, c.saturating_sub.ensures, c.len.ensures, c.if-saturating_sub-values.false, length-map c.args.values.now (λ v. bound_value (owned v))) in
    let within : length (bound c.args.values.now) ≡ length c.args.values.now = length-map c.args.values.now (λ v. bound_value (owned v)) in
    (λ _. ext_get_or Null (drop 1 c.args.row.now) (bound c.args.values.now) long (λ k h. behind c.args.row.now k ∙ c.loop-at.invariant k (omega (arith, h, long, within, c.loop-at-test.false))), λ _. refl)
