use Rattle.std.proofs.Common.{rules, [], ◌∷◌, ◌≡◌, ◌∙◌, ◌&&◌, ◌==◌, ap, refl, sym, subst, length, map, not, true, Some, None, Err, FitsSigned, to_z, of_z, w64}
use Rattle.std.specs.Prelude.{is_some, ⊤}
use Rattle.std.specs.List.{list_all}
use Rattle.std.proofs.lemmas.Int.{to_z-of_z}
use Rattle.std.proofs.lemmas.List.{length-map}
use Rattle.pbf_wire.specs.Readings.{sint64, int32, uint32}
use Rattle.osm_value.specs.Value.{RelationValue}
use Rattle.osm_value.specs.declared.element.Element.{Element}
use Rattle.osm_value.specs.declared.element.Element.TheVariants as elements
use Rattle.osm_value.specs.Ranges.{is_wide, IsRelation}
use Rattle.osm_block.specs.declared.fault.BlockFault.TheVariants as faults
use Rattle.osm_block.specs.Block.{RelationOf, TagsAt, kind}
use Rattle.osm_block.specs.Differences.{Diff, front_sums, fits_i64}
use Rattle.osm_block.specs.Fields.{context_of, info_message_of, relation_message_of}
use Rattle.osm_block.specs.Phases.{Gives, first, when, relation_phases, info_in_range, is_index}
use Rattle.osm_block.proofs.IndexesLemmas.{role_indexes_are, and_left}
use Rattle.osm_block.proofs.ReadingLemmas.{Gives-err}
use Rattle.osm_block.proofs.RangeLemmas.{tags_in_range}
use Rattle.osm_block.proofs.RelationPhases.{RelationRead, relations_range, indexes, lengths_are, three, as_long, range_is, fails_range, fails_index, past_index, MembersAt-along}
use Rattle.osm_block.proofs.TextsLemmas.{TagsAt-along}
use Rattle.osm_block.proofs.relation.relation_of.Goals.{After-ids_in_range, After-indexes_fit, After-info_of}
use Rattle.osm_block.proofs.relation.relation_of.Goals as goal

-- what is known once the ranges were tested
module _ (c : After-ids_in_range) where
  id_is : to_z w64 (of_z w64 c.in-Some.id) ≡ c.in-Some.id
  id_is = let fits : FitsSigned w64 c.in-Some.id = search rules in to_z-of_z w64 _ fits

  lengths_fit : (length c.args.relation.now.element.keys.numbers.items == length c.args.relation.now.element.vals.numbers.items && length c.args.relation.now.roles.numbers.items == length c.args.relation.now.memids.numbers.items
      && length c.args.relation.now.types.numbers.items == length c.args.relation.now.memids.numbers.items) ≡ true
  lengths_fit = sym c.lengths_fit.ensures ∙ c.if-not-lengths_fit.false

  read : RelationRead (context_of c.args.scale.now) (relation_message_of c.args.relation.now) c.in-Some.id c.in_ok-memids.memids.items
  read =
      let taken = subst (λ l. (when (not (list_all fits_i64 (front_sums (map sint64 l)))) faults.SumTooLarge ≡ None) × Diff c.in_ok-memids.memids.items (map sint64 l)) c.deref.ensures.value c.in_ok-memids.ensures in
      record {
        there = sym c.optional_i64.ensures ∙ c.in-Some.is;
        even = sym (lengths_are c.args.relation.now.element.keys.numbers.items c.args.relation.now.element.vals.numbers.items c.args.relation.now.roles.numbers.items c.args.relation.now.memids.numbers.items c.args.relation.now.types.numbers.items) ∙ lengths_fit;
        sums = taken.0;
        diff = taken.1;
      }

  range : c.ids_in_range.result ≡ relations_range (context_of c.args.scale.now) (relation_message_of c.args.relation.now)
  range = range_is _ _ _ _ _ _ _ read id_is c.deref-2.ensures.value c.ids_in_range.ensures

  as_many_roles : length c.args.relation.now.roles.numbers.items ≡ length c.in_ok-memids.memids.items
  as_many_roles =
      let equal = three (length c.args.relation.now.element.keys.numbers.items == length c.args.relation.now.element.vals.numbers.items) (length c.args.relation.now.roles.numbers.items == length c.args.relation.now.memids.numbers.items) (length c.args.relation.now.types.numbers.items == length c.args.relation.now.memids.numbers.items) lengths_fit in
      as_long c.args.relation.now.roles.numbers.items c.args.relation.now.memids.numbers.items _ equal.1 read.diff

  as_many_types : length c.args.relation.now.types.numbers.items ≡ length c.in_ok-memids.memids.items
  as_many_types =
      let equal = three (length c.args.relation.now.element.keys.numbers.items == length c.args.relation.now.element.vals.numbers.items) (length c.args.relation.now.roles.numbers.items == length c.args.relation.now.memids.numbers.items) (length c.args.relation.now.types.numbers.items == length c.args.relation.now.memids.numbers.items) lengths_fit in
      as_long c.args.relation.now.types.numbers.items c.args.relation.now.memids.numbers.items _ equal.2 read.diff

-- the indexes, as they are tested
module _ (c : After-indexes_fit) where
  texts : length c.deref-table.result.now ≡ length (context_of c.args.scale.now).table
  texts = ap length c.deref-table.ensures.value ∙ sym (length-map _ (λ t. t.now))

  fit : c.indexes_fit.result ≡ list_all (is_index (length c.deref-table.result.now)) (indexes (relation_message_of c.args.relation.now))
  fit = c.indexes_fit.ensures ∙ role_indexes_are _ c.args.relation.now.element.keys.numbers.items c.args.relation.now.element.vals.numbers.items c.args.relation.now.roles.numbers.items c.args.relation.now.element.info.numbers.user_sid

-- the parts of the relation
module _ (c : After-info_of) where
  tags_are : TagsAt (map (λ t. t.now) c.args.scale.now.table.items) (map (λ t. (t.0.now, t.1.now)) c.in_ok-tags.tags.items) (map uint32 c.args.relation.now.element.keys.numbers.items) (map uint32 c.args.relation.now.element.vals.numbers.items)
  tags_are = TagsAt-along _ _ _ _ _ _ _ _ c.deref-table.ensures.value c.deref-6.ensures.value c.deref-7.ensures.value c.in_ok-tags.ensures

  in_range : IsRelation (record { id = to_z w64 (of_z w64 c.in-Some.id); members = c.in_ok-members.members.items; tags = map (λ t. (t.0.now, t.1.now)) c.in_ok-tags.tags.items; info = c.info_of.result })
  in_range =
      let wide = and_left (is_wide (to_z w64 (of_z w64 c.in-Some.id))) (list_all is_wide c.deref-2.result.now)
      (and_left (is_wide (to_z w64 (of_z w64 c.in-Some.id)) && list_all is_wide c.deref-2.result.now) (info_in_range (context_of c.args.scale.now) (info_message_of c.args.relation.now.element.info.numbers)) (sym c.ids_in_range.ensures ∙ c.if-not-ids_in_range.false)) in
      record { id = wide; members = c.in_ok-members.ensures.1.in_range; tags = tags_in_range (map (λ t. t.now) c.args.scale.now.table.items) _ _ _ c.args.scale.now.texts tags_are; info = c.info_of.ensures.in_range }

pub returns-then-not-ids_in_range : goal.returns-then-not-ids_in_range
returns-then-not-ids_in_range c =
    let tested = (goal.at.returns-then-not-ids_in_range c).After-ids_in_range in
    fails_range _ _ _ _ _ (read tested) (range tested) c.if-not-ids_in_range.true

pub returns-then-not-indexes_fit : goal.returns-then-not-indexes_fit
returns-then-not-indexes_fit c =
    let tested = (goal.at.returns-then-not-indexes_fit c).After-ids_in_range in
    let inside = (goal.at.returns-then-not-indexes_fit c).After-indexes_fit in
    fails_index _ _ _ _ _ _ _ (read tested) (range tested) c.if-not-ids_in_range.false (texts inside) (fit inside) c.if-not-indexes_fit.true

pub members_of-requires-clause-as_many_roles : goal.members_of-requires-clause-as_many_roles
members_of-requires-clause-as_many_roles c =
    ap length c.deref-4.ensures.value ∙ as_many_roles (goal.at.members_of-requires-clause-as_many_roles c).After-ids_in_range ∙ sym (ap length c.deref-3.ensures.value)

pub members_of-requires-clause-as_many_types : goal.members_of-requires-clause-as_many_types
members_of-requires-clause-as_many_types c =
    ap length c.deref-5.ensures.value ∙ as_many_types (goal.at.members_of-requires-clause-as_many_types c).After-ids_in_range ∙ sym (ap length c.deref-3.ensures.value)

pub returns-in_err-members : goal.returns-in_err-members
returns-in_err-members c =
    let tested = (goal.at.returns-in_err-members c).After-ids_in_range in
    let inside = (goal.at.returns-in_err-members c).After-indexes_fit in
    let past = past_index _ _ _ _ _ _ _ (read tested) (range tested) c.if-not-ids_in_range.false (texts inside) (fit inside) c.if-not-indexes_fit.false in
    let same = ap (λ l. when (not (list_all (λ t. is_some (kind t)) (map int32 l))) faults.BadMemberType) c.deref-5.ensures.value in
    let IsSaid : Element → Type 0 = λ e. (r : RelationValue) × (e ∷ [] ≡ elements.Relation r ∷ []) × RelationOf (context_of c.args.scale.now) r (relation_message_of c.args.relation.now) in
    let refused : Gives IsSaid (first (relation_phases (context_of c.args.scale.now) (relation_message_of c.args.relation.now))) (Err c.in_err-members.field-0.0) =
    Gives-err {A = Unit {0}} (λ _. ⊤) IsSaid _ _ _ (λ f s. past ∙ sym same ∙ s) c.in_err-members.ensures in
    search rules

pub new-requires : goal.new-requires
new-requires c = record { in_range = in_range (goal.at.new-requires c).After-info_of }

pub returns : goal.returns
returns c =
    let tested = (goal.at.returns c).After-ids_in_range in
    let inside = (goal.at.returns c).After-indexes_fit in
    let made = (goal.at.returns c).After-info_of in
    let past = past_index _ _ _ _ _ _ _ (read tested) (range tested) c.if-not-ids_in_range.false (texts inside) (fit inside) c.if-not-indexes_fit.false in
    let same = ap (λ l. when (not (list_all (λ t. is_some (kind t)) (map int32 l))) faults.BadMemberType) c.deref-5.ensures.value in
    let members = MembersAt-along (λ t. t.now) _ _ _ _ _ _ _ _ _ c.deref-table.ensures.value c.deref-3.ensures.value c.deref-4.ensures.value c.deref-5.ensures.value c.in_ok-members.ensures.1 in (
      past ∙ sym same ∙ c.in_ok-members.ensures.0,
      (
        c.new.result,
        refl,
        rw c.new.ensures (record {
          id_is = ap Some (id_is tested) ∙ sym (read tested).there;
          memids_are = subst (λ l. Diff l (map sint64 c.args.relation.now.memids.numbers.items)) (sym members.ids_are) (read tested).diff;
          roles_are = members.roles_are;
          types_are = members.types_are;
          tags_are = tags_are made;
          info_is = c.info_of.ensures;
          in_range = in_range made;
        }),
      ),
    )
