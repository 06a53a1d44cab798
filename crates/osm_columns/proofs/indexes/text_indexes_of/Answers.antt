use Rattle.std.proofs.Common.{◌≡◌, ◌∙◌, ◌<◌, List, length, map, take, get_or, Some, ap, sym, subst, arith}
use Rattle.std.proofs.lemmas.List.{length-map, take_all}
use Rattle.osm_value.specs.declared.element.Element.{Element}
use Rattle.osm_block.specs.declared.groups.GroupElements.{GroupElements}
use Rattle.osm_block.specs.Block.{Joins}
use Rattle.osm_block.specs.Fields.{context_of}
use Rattle.osm_block.specs.Groups.{GroupHolds}
use Rattle.osm_columns.specs.Indexes.{AreIndexes}
use Rattle.osm_columns.proofs.GroupLemmas.{next-group, group-within}
use Rattle.osm_columns.proofs.TextLemmas.{extended, length-named}
use Rattle.osm_columns.proofs.indexes.text_indexes_of.Goals as goal

pub push_group-requires : goal.push_group-requires
push_group-requires c =
    let within : c.loop-group.group-index < length c.args.groups.now.groups.items = omega (arith, c.loop-group-test.true) in
    let is : c.group-item.result ≡ get_or c.args.groups.now.groups.items c.loop-group.group-index c.group-item.result = c.group-item.is ∙ ap (λ l. get_or l c.loop-group.group-index c.group-item.result) c.deref-group-items.ensures.value in
    let w = group-within (GroupHolds (context_of c.args.groups.now.scale)) c.requires.0 c.args.groups.now.groups.items c.loop-group.group-index c.group-item.result _ within is c.requires.1 in
    (context_of c.args.groups.now.scale, w.here, w.holds, ap length c.deref-in-loop-group.ensures.value ∙ length-named _ _ _ c.loop-group.invariant.table ∙ length-map (map (λ t. t.now) c.args.groups.now.scale.table.items) (λ t. Some t))

pub loop-group-init : goal.loop-group-init
loop-group-init c = record {
  table = rw (sym c.deref.ensures.value) c.in_ok-indexes.ensures.table;
  indexes = λ es h. let P : List Element → Type 0 = λ l. AreIndexes c.in_ok-indexes.indexes l in subst P (sym h) c.in_ok-indexes.ensures.indexes;
}

pub loop-group-preserved : goal.loop-group-preserved
loop-group-preserved c =
    let within : c.loop-group.group-index < length c.args.groups.now.groups.items = omega (arith, c.loop-group-test.true) in
    let is : c.group-item.result ≡ get_or c.args.groups.now.groups.items c.loop-group.group-index c.group-item.result = c.group-item.is ∙ ap (λ l. get_or l c.loop-group.group-index c.group-item.result) c.deref-group-items.ensures.value in
    record {
      table = extended _ _ _ _ c.in_ok-push_group.ensures.extends c.loop-group.invariant.table;
      indexes = λ es h.
          let n = next-group (GroupHolds (context_of c.args.groups.now.scale)) es c.args.groups.now.groups.items c.loop-group.group-index c.group-item.result _ within is h in
          let P : List Element → Type 0 = λ l. AreIndexes c.push_group.new.self l in
          subst P (sym n.parts) (c.in_ok-push_group.ensures.indexes (context_of c.args.groups.now.scale) n.front n.here n.holds (rw c.deref-in-loop-group.ensures.value c.loop-group.invariant.table) (c.loop-group.invariant.indexes n.front n.before_holds));
    }

pub returns : goal.returns
returns c = λ es h.
    let all : take c.loop-group.group-index c.args.groups.now.groups.items ≡ c.args.groups.now.groups.items = take_all c.loop-group.group-index c.args.groups.now.groups.items (omega (arith, c.loop-group-test.false)) in
    let P : List GroupElements → Type 0 = λ gs. Joins (GroupHolds (context_of c.args.groups.now.scale)) es gs in
    c.loop-group.invariant.indexes es (subst P (sym all) h)
