use Rattle.std.proofs.Common.{◌≡◌, ◌∙◌, ◌<◌, List, length, take, get_or, ap, sym, subst, refl, arith}
use Rattle.std.proofs.lemmas.List.{take_all}
use Rattle.osm_block.specs.declared.groups.GroupElements.{GroupElements}
use Rattle.osm_block.specs.Block.{Joins}
use Rattle.osm_block.specs.Fields.{context_of}
use Rattle.osm_block.specs.Groups.{GroupHolds}
use Rattle.osm_columns.proofs.GroupLemmas.{next-group}
use Rattle.osm_columns.proofs.TallyLemmas.{none-tallied, tallied-more}
use Rattle.osm_columns.proofs.tally.tally_of.Goals as goal

pub loop-group-init : goal.loop-group-init
loop-group-init c = λ es h. none-tallied _ es h refl refl refl refl refl

pub loop-group-preserved : goal.loop-group-preserved
loop-group-preserved c = λ es h.
    let within : c.loop-group.group-index < length c.args.groups.now.groups.items = omega (arith, c.loop-group-test.true) in
    let is : c.group-item.result ≡ get_or c.args.groups.now.groups.items c.loop-group.group-index c.group-item.result = c.group-item.is ∙ ap (λ l. get_or l c.loop-group.group-index c.group-item.result) c.deref-group-items.ensures.value in
    let n = next-group (GroupHolds (context_of c.args.groups.now.scale)) es c.args.groups.now.groups.items c.loop-group.group-index c.group-item.result _ within is h in
    tallied-more _ _ _ es n.front n.here n.parts (c.loop-group.invariant n.front n.before_holds) (c.in_ok-more.ensures (context_of c.args.groups.now.scale) n.here n.holds) c.in_ok-tally.ensures

pub returns : goal.returns
returns c = λ es h.
    let all : take c.loop-group.group-index c.args.groups.now.groups.items ≡ c.args.groups.now.groups.items = take_all c.loop-group.group-index c.args.groups.now.groups.items (omega (arith, c.loop-group-test.false)) in
    let P : List GroupElements → Type 0 = λ gs. Joins (GroupHolds (context_of c.args.groups.now.scale)) es gs in
    c.loop-group.invariant es (subst P (sym all) h)
