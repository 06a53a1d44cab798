use Rattle.std.proofs.Common.{rules, ◌∙◌, ◌&&◌, ap, ℤ, ◌-ℤ◌, FitsSigned, to_z, of_z}
use Rattle.std.specs.Prelude.{int_le}
use Rattle.std.specs.Int.{w64, w128}
use Rattle.std.proofs.lemmas.Int.{to_z-of_z}
use Rattle.osm_block.specs.declared.ranges.TheConstants.{LEAST, MOST}
use Rattle.osm_block.proofs.CoordinateLemmas.{range_shift}
use Rattle.osm_block.proofs.ranges.sum_in_range.Goals as goal

pub returns : goal.returns
returns c =
    let moved : FitsSigned w128 c.args.moved = c.ranges.moved in
    let low_fits : FitsSigned w128 c.least_from.result = search rules in
    let high_fits : FitsSigned w128 c.most_from.result = search rules in
    let offset : FitsSigned w64 c.args.offset = c.ranges.offset in
    let m : ℤ = to_z w128 (of_z w128 c.args.moved) in
    let least : ℤ = LEAST -ℤ c.args.offset in
    let most : ℤ = MOST -ℤ c.args.offset in
    ap (λ x. int_le x m && int_le m (to_z w128 (of_z w128 c.most_from.result))) (to_z-of_z w128 c.least_from.result low_fits ∙ c.least_from.ensures ∙ ap (λ o. LEAST -ℤ o) (to_z-of_z w64 c.args.offset offset))
    ∙ ap (λ x. int_le least m && int_le m x) (to_z-of_z w128 c.most_from.result high_fits ∙ c.most_from.ensures ∙ ap (λ o. MOST -ℤ o) (to_z-of_z w64 c.args.offset offset))
    ∙ ap (λ x. int_le least x && int_le x most) (to_z-of_z w128 c.args.moved moved)
    ∙ range_shift c.args.offset c.args.moved
