use Rattle.std.proofs.Common.{◌≡◌, ◌∙◌, ◌<◌, ◌≤◌, ◌+◌, [], List, length, map, take, get_or, ap, sym, subst, refl, arith}
use Rattle.std.proofs.lemmas.List.{length-append, take_all}
use Rattle.osm_block.specs.declared.groups.GroupElements.{GroupElements}
use Rattle.osm_block.specs.Block.{Joins}
use Rattle.osm_block.specs.Fields.{context_of}
use Rattle.osm_block.specs.Groups.{GroupHolds}
use Rattle.osm_columns.specs.Lists.{joined}
use Rattle.osm_columns.proofs.AddLemmas.{adds-behind}
use Rattle.osm_columns.proofs.GroupLemmas.{next-group, group-within, lists-fit, joined-parts}
use Rattle.osm_columns.proofs.list_column.put_list_column.Goals as goal

pub put_group-at-requires : goal.put_group-at-requires
put_group-at-requires g c =
    let within : c.loop-group.group-index < length c.args.groups.now.groups.items = omega (arith, c.loop-group-test.true) in
    let is : c.group-item.result ≡ get_or c.args.groups.now.groups.items c.loop-group.group-index c.group-item.result = c.group-item.is ∙ ap (λ l. get_or l c.loop-group.group-index c.group-item.result) c.deref-group-items.ensures.value in
    let w = group-within (GroupHolds (context_of c.args.groups.now.scale)) c.requires.0 c.args.groups.now.groups.items c.loop-group.group-index c.group-item.result _ within is c.requires.1 in
    let room : length (joined (map g.L.ListColumn.items c.requires.0)) ≤ length c.loop-group.array = omega (arith, c.requires.2) in (
      w.here,
      lists-fit g.L.ListColumn.items c.requires.0 w.front w.here w.behind c.loop-group.at (length c.loop-group.array) w.parts (c.loop-group.invariant.count w.front w.before_holds) room,
      (context_of c.args.groups.now.scale, w.holds),
    )

pub loop-group-preserved : goal.loop-group-preserved
loop-group-preserved g c =
    let within : c.loop-group.group-index < length c.args.groups.now.groups.items = omega (arith, c.loop-group-test.true) in
    let is : c.group-item.result ≡ get_or c.args.groups.now.groups.items c.loop-group.group-index c.group-item.result = c.group-item.is ∙ ap (λ l. get_or l c.loop-group.group-index c.group-item.result) c.deref-group-items.ensures.value in
    let items = g.L.ListColumn.items in
    record {
      count = λ es h.
          let n = next-group (GroupHolds (context_of c.args.groups.now.scale)) es c.args.groups.now.groups.items c.loop-group.group-index c.group-item.result _ within is h in
          ap (λ l. length (joined (map items l))) n.parts ∙ ap length (joined-parts items n.front n.here) ∙ length-append (joined (map items n.front)) (joined (map items n.here))
          ∙ ap (λ k. k + length (joined (map items n.here))) (c.loop-group.invariant.count n.front n.before_holds) ∙ sym (c.put_group-at.ensures.count (context_of c.args.groups.now.scale) n.here n.holds);
      column = λ es h.
          let n = next-group (GroupHolds (context_of c.args.groups.now.scale)) es c.args.groups.now.groups.items c.loop-group.group-index c.group-item.result _ within is h in
          adds-behind c.loop-group.at (joined (map items n.front)) (joined (map items n.here)) (joined (map items es)) c.args.array.now c.loop-group.array c.put_group-at.new.array
          (c.loop-group.invariant.column n.front n.before_holds) (c.put_group-at.ensures.column (context_of c.args.groups.now.scale) n.here n.holds) (c.loop-group.invariant.count n.front n.before_holds)
          (ap (λ l. joined (map items l)) n.parts ∙ joined-parts items n.front n.here);
    }

pub returns : goal.returns
returns g c = λ es h.
    let all : take c.loop-group.group-index c.args.groups.now.groups.items ≡ c.args.groups.now.groups.items = take_all c.loop-group.group-index c.args.groups.now.groups.items (omega (arith, c.loop-group-test.false)) in
    let P : List GroupElements → Type 0 = λ gs. Joins (GroupHolds (context_of c.args.groups.now.scale)) es gs in
    c.loop-group.invariant.column es (subst P (sym all) h) [] c.args.array.now refl refl
