use Rattle.std.proofs.Common.{rules, ◌≡◌, ◌∙◌, ◌++◌, ap, refl, sym, subst, arith, length, map, not, Some, None, FitsSigned, to_z, of_z, w64}
use Rattle.std.specs.List.{list_all}
use Rattle.std.proofs.lemmas.Int.{to_z-of_z}
use Rattle.std.proofs.lemmas.List.{length-map}
use Rattle.pbf_wire.specs.Readings.{sint64, uint32}
use Rattle.osm_value.specs.Ranges.{IsWay}
use Rattle.osm_block.specs.declared.fault.BlockFault.TheVariants as faults
use Rattle.osm_block.specs.Block.{TagsAt}
use Rattle.osm_block.specs.Differences.{Diff, front_sums, fits_i64}
use Rattle.osm_block.specs.Fields.{context_of, info_message_of, way_message_of}
use Rattle.osm_block.specs.Phases.{when, info_in_range, is_index, user_indexes}
use Rattle.osm_block.proofs.IndexesLemmas.{indexes_are}
use Rattle.osm_block.proofs.PhaseLemmas.{WayRead, ways_range, range_is, fails_range, fails_index, no_phase, even_from}
use Rattle.osm_block.proofs.RangeLemmas.{tags_in_range, way_is_in_range}
use Rattle.osm_block.proofs.TextsLemmas.{TagsAt-along}
use Rattle.osm_block.proofs.way.way_of.Goals.{After-ids_in_range, After-indexes_fit, After-info_of}
use Rattle.osm_block.proofs.way.way_of.Goals as goal

-- what is known once the ranges were tested
module _ (c : After-ids_in_range) where
  id_is : to_z w64 (of_z w64 c.in-Some.id) ≡ c.in-Some.id
  id_is = let fits : FitsSigned w64 c.in-Some.id = search rules in to_z-of_z w64 _ fits

  read : WayRead (context_of c.args.scale.now) (way_message_of c.args.way.now) c.in-Some.id c.in_ok-refs.refs.items
  read =
      let taken = subst (λ l. (when (not (list_all fits_i64 (front_sums (map sint64 l)))) faults.SumTooLarge ≡ None) × Diff c.in_ok-refs.refs.items (map sint64 l)) c.deref.ensures.value c.in_ok-refs.ensures in
      record {
        there = sym c.optional_i64.ensures ∙ c.in-Some.is;
        even = even_from _ _ (omega arith);
        sums = taken.0;
        diff = taken.1;
      }

  range : c.ids_in_range.result ≡ ways_range (context_of c.args.scale.now) (way_message_of c.args.way.now)
  range = range_is _ _ _ _ _ _ _ read id_is c.deref-2.ensures.value c.ids_in_range.ensures

-- the same of the indexes
module _ (c : After-indexes_fit) where
  texts : length c.deref-table.result.now ≡ length (context_of c.args.scale.now).table
  texts = ap length c.deref-table.ensures.value ∙ sym (length-map _ (λ t. t.now))

  indexes : c.indexes_fit.result ≡ list_all (is_index (length c.deref-table.result.now)) ((way_message_of c.args.way.now).keys ++ (way_message_of c.args.way.now).vals ++ user_indexes (info_message_of c.args.way.now.element.info.numbers))
  indexes = c.indexes_fit.ensures ∙ indexes_are _ c.args.way.now.element.keys.numbers.items c.args.way.now.element.vals.numbers.items c.args.way.now.element.info.numbers.user_sid

-- the parts of the way
module _ (c : After-info_of) where
  tags_are : TagsAt (map (λ t. t.now) c.args.scale.now.table.items) (map (λ t. (t.0.now, t.1.now)) c.in_ok-tags.tags.items) (map uint32 c.args.way.now.element.keys.numbers.items) (map uint32 c.args.way.now.element.vals.numbers.items)
  tags_are = TagsAt-along _ _ _ _ _ _ _ _ c.deref-table.ensures.value c.deref-3.ensures.value c.deref-4.ensures.value c.in_ok-tags.ensures

  in_range : IsWay (record { id = to_z w64 (of_z w64 c.in-Some.id); refs = c.in_ok-refs.refs.items; tags = map (λ t. (t.0.now, t.1.now)) c.in_ok-tags.tags.items; info = c.info_of.result })
  in_range =
      let tags = tags_in_range (map (λ t. t.now) c.args.scale.now.table.items) _ _ _ c.args.scale.now.texts tags_are in
      way_is_in_range (to_z w64 (of_z w64 c.in-Some.id)) _ _ _ _ _ (info_in_range (context_of c.args.scale.now) (info_message_of c.args.way.now.element.info.numbers)) c.deref-2.ensures.value c.ids_in_range.ensures c.if-not-ids_in_range.false tags c.info_of.ensures.in_range

pub returns-then-not-ids_in_range : goal.returns-then-not-ids_in_range
returns-then-not-ids_in_range c =
    let tested = (goal.at.returns-then-not-ids_in_range c).After-ids_in_range in
    fails_range _ _ _ _ _ (read tested) (range tested) c.if-not-ids_in_range.true

pub returns-then-not-indexes_fit : goal.returns-then-not-indexes_fit
returns-then-not-indexes_fit c =
    let tested = (goal.at.returns-then-not-indexes_fit c).After-ids_in_range in
    let fit = (goal.at.returns-then-not-indexes_fit c).After-indexes_fit in
    fails_index _ _ _ _ _ _ _ (read tested) (range tested) c.if-not-ids_in_range.false (texts fit) (indexes fit) c.if-not-indexes_fit.true

pub new-requires : goal.new-requires
new-requires c = record { in_range = in_range (goal.at.new-requires c).After-info_of }

pub returns : goal.returns
returns c =
    let tested = (goal.at.returns c).After-ids_in_range in
    let fit = (goal.at.returns c).After-indexes_fit in
    let parts = (goal.at.returns c).After-info_of in (
      no_phase _ _ _ _ _ _ _ (read tested) (range tested) c.if-not-ids_in_range.false (texts fit) (indexes fit) c.if-not-indexes_fit.false,
      (
        c.new.result,
        refl,
        rw c.new.ensures (record {
          id_is = ap Some (id_is tested) ∙ sym (read tested).there;
          refs_are = (read tested).diff;
          tags_are = tags_are parts;
          info_is = c.info_of.ensures;
          in_range = in_range parts;
        }),
      ),
    )
