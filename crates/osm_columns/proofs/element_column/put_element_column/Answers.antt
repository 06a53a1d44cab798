use Rattle.std.proofs.Common.{◌≡◌, ◌∙◌, ◌<◌, ◌≤◌, ◌+◌, [], List, length, map, take, get_or, ap, sym, subst, refl, arith}
use Rattle.std.proofs.lemmas.List.{map-append, length-append, length-map, take_all}
use Rattle.osm_block.specs.declared.groups.GroupElements.{GroupElements}
use Rattle.osm_block.specs.Block.{Joins}
use Rattle.osm_block.specs.Fields.{context_of}
use Rattle.osm_block.specs.Groups.{GroupHolds}
use Rattle.osm_columns.proofs.AddLemmas.{adds-behind}
use Rattle.osm_columns.proofs.GroupLemmas.{next-group, group-within, group-fits}
use Rattle.osm_columns.proofs.element_column.put_element_column.Goals as goal

pub put_group-at-requires : goal.put_group-at-requires
put_group-at-requires g c =
    let within : c.loop-group.group-index < length c.args.groups.now.groups.items = omega (arith, c.loop-group-test.true) in
    let is : c.group-item.result ≡ get_or c.args.groups.now.groups.items c.loop-group.group-index c.group-item.result = c.group-item.is ∙ ap (λ l. get_or l c.loop-group.group-index c.group-item.result) c.deref-group-items.ensures.value in
    let w = group-within (GroupHolds (context_of c.args.groups.now.scale)) c.requires.0 c.args.groups.now.groups.items c.loop-group.group-index c.group-item.result _ within is c.requires.1 in
    let room : length c.requires.0 ≤ length c.loop-group.array = omega (arith, c.requires.2) in
    (w.here, w.holds, group-fits c.requires.0 w.front w.here w.behind c.loop-group.at (length c.loop-group.array) w.parts (c.loop-group.invariant.count w.front w.before_holds) room)

pub loop-group-preserved : goal.loop-group-preserved
loop-group-preserved g c =
    let within : c.loop-group.group-index < length c.args.groups.now.groups.items = omega (arith, c.loop-group-test.true) in
    let is : c.group-item.result ≡ get_or c.args.groups.now.groups.items c.loop-group.group-index c.group-item.result = c.group-item.is ∙ ap (λ l. get_or l c.loop-group.group-index c.group-item.result) c.deref-group-items.ensures.value in
    record {
      count = λ es h.
          let n = next-group (GroupHolds (context_of c.args.groups.now.scale)) es c.args.groups.now.groups.items c.loop-group.group-index c.group-item.result _ within is h in
          ap length n.parts ∙ length-append n.front n.here ∙ ap (λ k. k + length n.here) (c.loop-group.invariant.count n.front n.before_holds) ∙ sym (c.put_group-at.ensures.count n.here n.holds);
      column = λ es h.
          let item = g.C.ElementColumn.item in
          let n = next-group (GroupHolds (context_of c.args.groups.now.scale)) es c.args.groups.now.groups.items c.loop-group.group-index c.group-item.result _ within is h in
          adds-behind c.loop-group.at (map item n.front) (map item n.here) (map item es) c.args.array.now c.loop-group.array c.put_group-at.new.array
          (c.loop-group.invariant.column n.front n.before_holds) (c.put_group-at.ensures.column n.here n.holds) (length-map n.front item ∙ c.loop-group.invariant.count n.front n.before_holds)
          (ap (map item) n.parts ∙ map-append item n.front n.here);
    }

pub returns : goal.returns
returns g c = λ es h.
    let all : take c.loop-group.group-index c.args.groups.now.groups.items ≡ c.args.groups.now.groups.items = take_all c.loop-group.group-index c.args.groups.now.groups.items (omega (arith, c.loop-group-test.false)) in
    let P : List GroupElements → Type 0 = λ gs. Joins (GroupHolds (context_of c.args.groups.now.scale)) es gs in
    c.loop-group.invariant.column es (subst P (sym all) h) [] c.args.array.now refl refl
