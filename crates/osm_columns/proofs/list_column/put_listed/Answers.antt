use Rattle.std.proofs.Common.{◌≡◌, ◌<◌, ◌≤◌, ◌+◌, length, map, take, refl, arith}
use Rattle.osm_columns.specs.Lists.{joined}
use Rattle.osm_columns.proofs.AddLemmas.{adds-same, adds-twice}
use Rattle.osm_columns.proofs.ListLemmas.{IsNext, next-joined, next-end, next-fits}
use Rattle.osm_columns.proofs.list_column.put_listed.Goals as goal

pub put_of-end-requires : goal.put_of-end-requires
put_of-end-requires g c =
    let items = g.L.ListColumn.items in
    let within : c.loop-element.element-index < length c.args.elements.now = omega (arith, c.loop-element-test.true) in
    let n : IsNext items c.args.elements.now c.loop-element.element-index c.element-item.result (items c.element-item.result) (length (joined (map items (take c.loop-element.element-index c.args.elements.now)))) =
    record { within = within; default = c.element-item.result; is = c.element-item.is; items_are = refl; end_is = refl } in
    let fits : length (joined (map items (take c.loop-element.element-index c.args.elements.now))) + length (items c.element-item.result) ≤ length (joined (map items c.args.elements.now)) = next-fits _ _ _ _ _ _ n in
    omega arith

pub loop-element-preserved : goal.loop-element-preserved
loop-element-preserved g c =
    let items = g.L.ListColumn.items in
    let within : c.loop-element.element-index < length c.args.elements.now = omega (arith, c.loop-element-test.true) in
    let n : IsNext items c.args.elements.now c.loop-element.element-index c.element-item.result (items c.element-item.result) (length (joined (map items (take c.loop-element.element-index c.args.elements.now)))) =
    record { within = within; default = c.element-item.result; is = c.element-item.is; items_are = refl; end_is = refl } in
    let sum : length (joined (map items (take c.loop-element.element-index c.args.elements.now))) + length (items c.element-item.result) ≡ length (joined (map items (take (c.loop-element.element-index + 1) c.args.elements.now))) = next-end _ _ _ _ _ _ n in
    record {
      end = omega arith;
      column = adds-same c.args.at _ _ c.args.array.now c.put_of-end.new.array (next-joined _ _ _ _ _ _ n)
          (adds-twice c.args.at c.loop-element.end (joined (map items (take c.loop-element.element-index c.args.elements.now))) (items c.element-item.result) c.args.array.now c.loop-element.array c.put_of-end.new.array
          c.loop-element.invariant.column c.put_of-end.ensures.column c.loop-element.invariant.end);
    }
