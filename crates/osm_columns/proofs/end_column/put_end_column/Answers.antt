use Rattle.std.proofs.Common.{◌≡◌, ◌∙◌, ◌<◌, ◌≤◌, ◌^◌, ◌++◌, ◌+◌, [], List, length, map, take, get_or, sum, ap, sym, subst, refl, arith}
use Rattle.std.proofs.lemmas.List.{map-append, length-append, length-map, take_all}
use Rattle.osm_block.specs.declared.groups.GroupElements.{GroupElements}
use Rattle.osm_block.specs.Block.{Joins}
use Rattle.osm_block.specs.Fields.{context_of}
use Rattle.osm_block.specs.Groups.{GroupHolds}
use Rattle.osm_columns.specs.Lists.{sums_from}
use Rattle.osm_columns.proofs.AddLemmas.{adds-behind}
use Rattle.osm_columns.proofs.EndLemmas.{sum-parts, sums-parts, length-sums, counts-fit}
use Rattle.osm_columns.proofs.GroupLemmas.{next-group, group-within, group-fits}
use Rattle.osm_columns.proofs.end_column.put_end_column.Goals as goal

pub put_group-requires : goal.put_group-requires
put_group-requires g c =
    let within : c.loop-group.group-index < length c.args.groups.now.groups.items = omega (arith, c.loop-group-test.true) in
    let is : c.group-item.result ≡ get_or c.args.groups.now.groups.items c.loop-group.group-index c.group-item.result = c.group-item.is ∙ ap (λ l. get_or l c.loop-group.group-index c.group-item.result) c.deref-group-items.ensures.value in
    let w = group-within (GroupHolds (context_of c.args.groups.now.scale)) c.requires.0 c.args.groups.now.groups.items c.loop-group.group-index c.group-item.result _ within is c.requires.1 in
    let room : length c.requires.0 ≤ length c.loop-group.ends = omega (arith, c.requires.2) in (
      w.here,
      w.holds,
      group-fits c.requires.0 w.front w.here w.behind c.loop-group.at (length c.loop-group.ends) w.parts (c.loop-group.invariant.count w.front w.before_holds) room,
      counts-fit g.E.EndColumn.count c.requires.0 w.front w.here w.behind c.loop-group.end (2 ^ 64) w.parts (c.loop-group.invariant.end w.front w.before_holds) c.requires.3,
    )

pub loop-group-preserved : goal.loop-group-preserved
loop-group-preserved g c =
    let within : c.loop-group.group-index < length c.args.groups.now.groups.items = omega (arith, c.loop-group-test.true) in
    let is : c.group-item.result ≡ get_or c.args.groups.now.groups.items c.loop-group.group-index c.group-item.result = c.group-item.is ∙ ap (λ l. get_or l c.loop-group.group-index c.group-item.result) c.deref-group-items.ensures.value in
    let count = g.E.EndColumn.count in
    record {
      count = λ es h.
          let n = next-group (GroupHolds (context_of c.args.groups.now.scale)) es c.args.groups.now.groups.items c.loop-group.group-index c.group-item.result _ within is h in
          ap length n.parts ∙ length-append n.front n.here ∙ ap (λ k. k + length n.here) (c.loop-group.invariant.count n.front n.before_holds) ∙ sym (c.put_group.ensures.count n.here n.holds);
      end = λ es h.
          let n = next-group (GroupHolds (context_of c.args.groups.now.scale)) es c.args.groups.now.groups.items c.loop-group.group-index c.group-item.result _ within is h in
          ap (λ l. sum (map count l)) n.parts ∙ ap sum (map-append count n.front n.here) ∙ sum-parts (map count n.front) (map count n.here)
          ∙ ap (λ k. k + sum (map count n.here)) (c.loop-group.invariant.end n.front n.before_holds) ∙ sym (c.put_group.ensures.end n.here n.holds);
      column = λ es h.
          let n = next-group (GroupHolds (context_of c.args.groups.now.scale)) es c.args.groups.now.groups.items c.loop-group.group-index c.group-item.result _ within is h in
          let end : 0 + sum (map count n.front) ≡ c.loop-group.end = omega (arith, c.loop-group.invariant.end n.front n.before_holds) in
          adds-behind c.loop-group.at (sums_from 0 (map count n.front)) (sums_from c.loop-group.end (map count n.here)) (sums_from 0 (map count es)) c.args.ends.now c.loop-group.ends c.put_group.new.ends
          (c.loop-group.invariant.column n.front n.before_holds) (c.put_group.ensures.column n.here n.holds) (length-sums 0 (map count n.front) ∙ length-map n.front count ∙ c.loop-group.invariant.count n.front n.before_holds)
          (ap (λ l. sums_from 0 (map count l)) n.parts ∙ ap (sums_from 0) (map-append count n.front n.here) ∙ sums-parts 0 (map count n.front) (map count n.here) ∙ ap (λ k. sums_from 0 (map count n.front) ++ sums_from k (map count n.here)) end);
    }

pub returns : goal.returns
returns g c = λ es h.
    let all : take c.loop-group.group-index c.args.groups.now.groups.items ≡ c.args.groups.now.groups.items = take_all c.loop-group.group-index c.args.groups.now.groups.items (omega (arith, c.loop-group-test.false)) in
    let P : List GroupElements → Type 0 = λ gs. Joins (GroupHolds (context_of c.args.groups.now.scale)) es gs in
    c.loop-group.invariant.column es (subst P (sym all) h) [] c.args.ends.now refl refl
