use Rattle.std.proofs.Common.{◌≡◌, ◌<◌, ◌≤◌, ◌+◌, length, map, take, sum, arith}
use Rattle.osm_columns.proofs.EndLemmas.{sum-next, sum-front, ends-next}
use Rattle.osm_columns.proofs.end_column.put_listed.Goals as goal

pub overflow_add-last : goal.overflow_add-last
overflow_add-last g c =
    let count = g.E.EndColumn.count in
    let within : c.loop-element.element-index < length c.args.elements.now = omega (arith, c.loop-element-test.true) in
    let next : sum (map count (take (c.loop-element.element-index + 1) c.args.elements.now)) ≡ sum (map count (take c.loop-element.element-index c.args.elements.now)) + count c.element-item.result =
    sum-next count c.args.elements.now c.loop-element.element-index c.element-item.result _ within c.element-item.is in
    let all : sum (map count (take (c.loop-element.element-index + 1) c.args.elements.now)) ≤ sum (map count c.args.elements.now) = sum-front count c.args.elements.now (c.loop-element.element-index + 1) in
    omega arith

pub loop-element-preserved : goal.loop-element-preserved
loop-element-preserved g c =
    let count = g.E.EndColumn.count in
    let within : c.loop-element.element-index < length c.args.elements.now = omega (arith, c.loop-element-test.true) in
    let next : sum (map count (take (c.loop-element.element-index + 1) c.args.elements.now)) ≡ sum (map count (take c.loop-element.element-index c.args.elements.now)) + count c.element-item.result =
    sum-next count c.args.elements.now c.loop-element.element-index c.element-item.result _ within c.element-item.is in
    let last : c.loop-element.last + c.count_of.result ≡ c.args.end + sum (map count (take c.loop-element.element-index c.args.elements.now)) + count c.element-item.result = omega arith in
    record {
      place = omega arith;
      last = omega arith;
      column = ends-next count c.args.elements.now c.loop-element.element-index c.args.at c.args.end c.loop-element.place _ c.element-item.result _ _ _ _ within c.element-item.is last c.loop-element.invariant.column c.put_item.ensures c.loop-element.invariant.place;
    }
