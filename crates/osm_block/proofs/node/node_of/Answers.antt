use Rattle.std.proofs.Common.{rules, ◌≡◌, ◌∙◌, ◌++◌, ap, refl, sym, arith, length, map, Some, true, ℤ, FitsSigned, to_z, of_z, w32, w64}
use Rattle.std.proofs.lemmas.Int.{to_z-of_z}
use Rattle.std.proofs.lemmas.List.{length-map}
use Rattle.std.specs.Prelude.{option_map}
use Rattle.std.specs.List.{list_all}
use Rattle.pbf_wire.specs.Readings.{uint32}
use Rattle.osm_value.specs.Ranges.{is_wide, IsNode}
use Rattle.osm_block.specs.Block.{coordinate, TagsAt}
use Rattle.osm_block.specs.FieldsLeft.{indexes_in, tag_indexes_in, user_in}
use Rattle.osm_block.specs.Fields.{context_of, info_message_of, node_message_of}
use Rattle.osm_block.specs.Phases.{info_in_range, coordinate_in_range, is_index, user_indexes}
use Rattle.osm_block.proofs.IndexesLemmas.{indexes_are, and_right}
use Rattle.osm_block.proofs.PhaseLemmas.{even_from}
use Rattle.osm_block.proofs.NodePhases.{NodeRead, four, nodes_range, range_is, fails_range, fails_index, no_phase}
use Rattle.osm_block.proofs.RangeLemmas.{tags_in_range}
use Rattle.osm_block.proofs.TextsLemmas.{TagsAt-along}
use Rattle.osm_block.proofs.node.node_of.Goals.{After-node_in_range, After-indexes_fit, After-info_of}
use Rattle.osm_block.proofs.node.node_of.Goals as goal

-- what is known once the ranges were tested
module _ (c : After-node_in_range) where
  id_is : to_z w64 (of_z w64 c.in-Some.id) ≡ c.in-Some.id
  id_is = let fits : FitsSigned w64 c.in-Some.id = search rules in to_z-of_z w64 _ fits

  lat_is : to_z w64 (of_z w64 c.in-Some-optional_unzigzag.lat) ≡ c.in-Some-optional_unzigzag.lat
  lat_is = let fits : FitsSigned w64 c.in-Some-optional_unzigzag.lat = search rules in to_z-of_z w64 _ fits

  lon_is : to_z w64 (of_z w64 c.in-Some-optional_unzigzag-2.lon) ≡ c.in-Some-optional_unzigzag-2.lon
  lon_is = let fits : FitsSigned w64 c.in-Some-optional_unzigzag-2.lon = search rules in to_z-of_z w64 _ fits

  read : NodeRead (context_of c.args.scale.now) (node_message_of c.args.node.now) c.in-Some.id c.in-Some-optional_unzigzag.lat c.in-Some-optional_unzigzag-2.lon
  read = record {
    there = sym c.optional_unzigzag.ensures ∙ c.in-Some.is;
    lat_there = sym c.optional_unzigzag-2.ensures ∙ c.in-Some-optional_unzigzag.is;
    lon_there = sym c.optional_unzigzag-3.ensures ∙ c.in-Some-optional_unzigzag-2.is;
    even = even_from _ _ (omega arith);
  }

  range : c.node_in_range.result ≡ nodes_range (context_of c.args.scale.now) (node_message_of c.args.node.now)
  range = range_is _ _ _ _ _ _ _ _ _ read id_is lat_is lon_is c.node_in_range.ensures

-- the indexes, as they are tested, behind ranges that hold
module _ (c : After-indexes_fit) where
  texts : length c.deref-table.result.now ≡ length (context_of c.args.scale.now).table
  texts = ap length c.deref-table.ensures.value ∙ sym (length-map _ (λ t. t.now))

  fit : c.indexes_fit.result ≡ list_all (is_index (length c.deref-table.result.now)) ((node_message_of c.args.node.now).keys ++ (node_message_of c.args.node.now).vals ++ user_indexes (info_message_of c.args.node.now.element.info.numbers))
  fit = c.indexes_fit.ensures ∙ indexes_are _ c.args.node.now.element.keys.numbers.items c.args.node.now.element.vals.numbers.items c.args.node.now.element.info.numbers.user_sid

  passed : (is_wide (to_z w64 (of_z w64 c.in-Some.id)) ≡ true)
      × (coordinate_in_range c.args.scale.now.lat_offset c.args.scale.now.granularity (to_z w64 (of_z w64 c.in-Some-optional_unzigzag.lat)) ≡ true)
      × (coordinate_in_range c.args.scale.now.lon_offset c.args.scale.now.granularity (to_z w64 (of_z w64 c.in-Some-optional_unzigzag-2.lon)) ≡ true)
      × (info_in_range (context_of c.args.scale.now) (info_message_of c.args.node.now.element.info.numbers) ≡ true)
  passed = four _ _ _ _ (sym c.node_in_range.ensures ∙ c.if-not-node_in_range.false)

-- the node's coordinates and tags, as they are made
module _ (c : After-info_of) where
  lat_is_coordinate : to_z w64 (of_z w64 c.coordinate_of-lat.result) ≡ coordinate c.args.scale.now.lat_offset c.args.scale.now.granularity (to_z w64 (of_z w64 c.in-Some-optional_unzigzag.lat))
  lat_is_coordinate =
      let fits : FitsSigned w64 c.coordinate_of-lat.result = search rules in
      let offset : FitsSigned w64 c.args.scale.now.lat_offset = search rules in
      let unit : FitsSigned w32 c.args.scale.now.granularity = search rules in
      to_z-of_z w64 c.coordinate_of-lat.result fits ∙ c.coordinate_of-lat.ensures ∙ ap (λ x. coordinate x (to_z w32 (of_z w32 c.args.scale.now.granularity)) (to_z w64 (of_z w64 c.in-Some-optional_unzigzag.lat))) (to_z-of_z w64 c.args.scale.now.lat_offset offset)
      ∙ ap (λ x. coordinate c.args.scale.now.lat_offset x (to_z w64 (of_z w64 c.in-Some-optional_unzigzag.lat))) (to_z-of_z w32 c.args.scale.now.granularity unit)

  lon_is_coordinate : to_z w64 (of_z w64 c.coordinate_of-lon.result) ≡ coordinate c.args.scale.now.lon_offset c.args.scale.now.granularity (to_z w64 (of_z w64 c.in-Some-optional_unzigzag-2.lon))
  lon_is_coordinate =
      let fits : FitsSigned w64 c.coordinate_of-lon.result = search rules in
      let offset : FitsSigned w64 c.args.scale.now.lon_offset = search rules in
      let unit : FitsSigned w32 c.args.scale.now.granularity = search rules in
      to_z-of_z w64 c.coordinate_of-lon.result fits ∙ c.coordinate_of-lon.ensures ∙ ap (λ x. coordinate x (to_z w32 (of_z w32 c.args.scale.now.granularity)) (to_z w64 (of_z w64 c.in-Some-optional_unzigzag-2.lon))) (to_z-of_z w64 c.args.scale.now.lon_offset offset)
      ∙ ap (λ x. coordinate c.args.scale.now.lon_offset x (to_z w64 (of_z w64 c.in-Some-optional_unzigzag-2.lon))) (to_z-of_z w32 c.args.scale.now.granularity unit)

  tags_are : TagsAt (map (λ t. t.now) c.args.scale.now.table.items) (map (λ t. (t.0.now, t.1.now)) c.in_ok-tags.tags.items) (map uint32 c.args.node.now.element.keys.numbers.items) (map uint32 c.args.node.now.element.vals.numbers.items)
  tags_are = TagsAt-along _ _ _ _ _ _ _ _ c.deref-table.ensures.value c.deref.ensures.value c.deref-2.ensures.value c.in_ok-tags.ensures

  in_range : IsNode (record { id = to_z w64 (of_z w64 c.in-Some.id); lat = to_z w64 (of_z w64 c.coordinate_of-lat.result); lon = to_z w64 (of_z w64 c.coordinate_of-lon.result); tags = map (λ t. (t.0.now, t.1.now)) c.in_ok-tags.tags.items; info = c.info_of.result })
  in_range =
      let p = four (is_wide (to_z w64 (of_z w64 c.in-Some.id))) (coordinate_in_range c.args.scale.now.lat_offset c.args.scale.now.granularity (to_z w64 (of_z w64 c.in-Some-optional_unzigzag.lat)))
      (coordinate_in_range c.args.scale.now.lon_offset c.args.scale.now.granularity (to_z w64 (of_z w64 c.in-Some-optional_unzigzag-2.lon))) (info_in_range (context_of c.args.scale.now) (info_message_of c.args.node.now.element.info.numbers))
      (sym c.node_in_range.ensures ∙ c.if-not-node_in_range.false) in
      record { id = p.0; lat = ap is_wide lat_is_coordinate ∙ p.1; lon = ap is_wide lon_is_coordinate ∙ p.2; tags = tags_in_range (map (λ t. t.now) c.args.scale.now.table.items) _ _ _ c.args.scale.now.texts tags_are; info = c.info_of.ensures.in_range }

pub returns-then-not-node_in_range : goal.returns-then-not-node_in_range
returns-then-not-node_in_range c =
    let tested = (goal.at.returns-then-not-node_in_range c).After-node_in_range in
    fails_range _ _ _ _ _ _ (read tested) (range tested) c.if-not-node_in_range.true

pub returns-then-not-indexes_fit : goal.returns-then-not-indexes_fit
returns-then-not-indexes_fit c =
    let tested = (goal.at.returns-then-not-indexes_fit c).After-node_in_range in
    let inside = (goal.at.returns-then-not-indexes_fit c).After-indexes_fit in
    fails_index _ _ _ _ _ _ _ _ (read tested) (range tested) c.if-not-node_in_range.false (texts inside) (fit inside) c.if-not-indexes_fit.true

pub coordinate_of-lat-requires : goal.coordinate_of-lat-requires
coordinate_of-lat-requires c =
    let inside = (goal.at.coordinate_of-lat-requires c).After-indexes_fit in
    let lat : ℤ = to_z w64 (of_z w64 c.in-Some-optional_unzigzag.lat) in
    let offset : FitsSigned w64 c.args.scale.now.lat_offset = search rules in
    let unit : FitsSigned w32 c.args.scale.now.granularity = search rules in
    ap (λ x. coordinate_in_range x (to_z w32 (of_z w32 c.args.scale.now.granularity)) lat) (to_z-of_z w64 c.args.scale.now.lat_offset offset)
    ∙ ap (λ x. coordinate_in_range c.args.scale.now.lat_offset x lat) (to_z-of_z w32 c.args.scale.now.granularity unit) ∙ (passed inside).1

pub coordinate_of-lon-requires : goal.coordinate_of-lon-requires
coordinate_of-lon-requires c =
    let inside = (goal.at.coordinate_of-lon-requires c).After-indexes_fit in
    let lon : ℤ = to_z w64 (of_z w64 c.in-Some-optional_unzigzag-2.lon) in
    let offset : FitsSigned w64 c.args.scale.now.lon_offset = search rules in
    let unit : FitsSigned w32 c.args.scale.now.granularity = search rules in
    ap (λ x. coordinate_in_range x (to_z w32 (of_z w32 c.args.scale.now.granularity)) lon) (to_z-of_z w64 c.args.scale.now.lon_offset offset)
    ∙ ap (λ x. coordinate_in_range c.args.scale.now.lon_offset x lon) (to_z-of_z w32 c.args.scale.now.granularity unit) ∙ (passed inside).2

pub info_of-requires-clause-in_range : goal.info_of-requires-clause-in_range
info_of-requires-clause-in_range c = (passed (goal.at.info_of-requires-clause-in_range c).After-indexes_fit).3

pub info_of-requires-clause-in_table : goal.info_of-requires-clause-in_table
info_of-requires-clause-in_table c =
    let fits : indexes_in (length c.deref-table.result.now) c.args.node.now.element.keys.numbers.items c.args.node.now.element.vals.numbers.items c.args.node.now.element.info.numbers.user_sid ≡ true = sym c.indexes_fit.ensures ∙ c.if-not-indexes_fit.false in
    ap (λ n. user_in n c.args.node.now.element.info.numbers.user_sid) (sym (ap length c.deref-table.ensures.value))
    ∙ and_right (tag_indexes_in (length c.deref-table.result.now) c.args.node.now.element.keys.numbers.items c.args.node.now.element.vals.numbers.items) (user_in (length c.deref-table.result.now) c.args.node.now.element.info.numbers.user_sid) fits

pub new-requires : goal.new-requires
new-requires c = record { in_range = in_range (goal.at.new-requires c).After-info_of }

pub returns : goal.returns
returns c =
    let tested = (goal.at.returns c).After-node_in_range in
    let inside = (goal.at.returns c).After-indexes_fit in
    let made = (goal.at.returns c).After-info_of in (
      no_phase _ _ _ _ _ _ _ _ (read tested) (range tested) c.if-not-node_in_range.false (texts inside) (fit inside) c.if-not-indexes_fit.false,
      (
        c.new.result,
        refl,
        rw c.new.ensures (record {
          id_is = ap Some (id_is tested) ∙ sym (read tested).there;
          lat_is = ap Some (lat_is_coordinate made ∙ ap (coordinate c.args.scale.now.lat_offset c.args.scale.now.granularity) (lat_is tested)) ∙ sym (ap (option_map (coordinate c.args.scale.now.lat_offset c.args.scale.now.granularity)) (read tested).lat_there);
          lon_is = ap Some (lon_is_coordinate made ∙ ap (coordinate c.args.scale.now.lon_offset c.args.scale.now.granularity) (lon_is tested)) ∙ sym (ap (option_map (coordinate c.args.scale.now.lon_offset c.args.scale.now.granularity)) (read tested).lon_there);
          tags_are = tags_are made;
          info_is = c.info_of.ensures;
          in_range = in_range made;
        }),
      ),
    )
