use Rattle.std.proofs.Common.{◌≡◌, ◌∙◌, ◌<◌, ◌≤◌, ◌^◌, ℤ, List, length, map, ap, sym, subst, arith}
use Rattle.std.proofs.lemmas.List.{length-map}
use Rattle.osm_value.specs.declared.element.Element.{Element}
use Rattle.osm_value.specs.Elements.{tags_of_element}
use Rattle.osm_block.proofs.IndexesLemmas.{and_left, and_right}
use Rattle.osm_columns.specs.Values.{members_of_element, number_of_kind}
use Rattle.osm_columns.specs.Lists.{joined, ends_of, all_tags, all_members}
use Rattle.osm_columns.specs.Columns.{over, elements_fit, refs_fit, texts_fit, IsSurvey, HoldsElements}
use Rattle.osm_columns.proofs.TextLemmas.{length-named}
use Rattle.osm_columns.proofs.RoomLemmas.{HasListRoom, list-room-of}
use Rattle.osm_columns.proofs.put.put_columns.Goals as goal

pub put_tag_texts-requires-clause-keys : goal.put_tag_texts-requires-clause-keys
put_tag_texts-requires-clause-keys c =
    let es : List Element = c.requires.held.0 in
    let survey : IsSurvey c.args.survey.now es = c.requires.survey es c.requires.held.1 in
    let count : length c.deref.result.now ≡ length (all_tags es) = ap length c.deref.ensures.value ∙ length-named _ _ _ survey.indexes_are.keys_are ∙ length-map (all_tags es) _ in
    let tags : c.args.survey.now.counts.tags ≡ length (all_tags es) = survey.counts_are.tags_are in
    let room : HasListRoom c.args.survey.now.counts c.args.columns.now = list-room-of c.args.survey.now.counts c.args.columns.now c.requires.room in
    omega arith

pub put_tag_texts-requires-clause-values : goal.put_tag_texts-requires-clause-values
put_tag_texts-requires-clause-values c =
    let es : List Element = c.requires.held.0 in
    let survey : IsSurvey c.args.survey.now es = c.requires.survey es c.requires.held.1 in
    let count : length c.deref-2.result.now ≡ length (all_tags es) = ap length c.deref-2.ensures.value ∙ length-named _ _ _ survey.indexes_are.values_are ∙ length-map (all_tags es) _ in
    let tags : c.args.survey.now.counts.tags ≡ length (all_tags es) = survey.counts_are.tags_are in
    let room : HasListRoom c.args.survey.now.counts c.args.columns.now = list-room-of c.args.survey.now.counts c.args.columns.now c.requires.room in
    omega arith

pub put_roles-requires : goal.put_roles-requires
put_roles-requires c =
    let es : List Element = c.requires.held.0 in
    let survey : IsSurvey c.args.survey.now es = c.requires.survey es c.requires.held.1 in
    let count : length c.deref-3.result.now ≡ length (all_members es) = ap length c.deref-3.ensures.value ∙ length-named _ _ _ survey.indexes_are.roles_are ∙ length-map (all_members es) _ in
    let members : c.args.survey.now.counts.members ≡ length (all_members es) = survey.counts_are.members_are in
    let room : HasListRoom c.args.survey.now.counts c.args.columns.now = list-room-of c.args.survey.now.counts c.args.columns.now c.requires.room in
    omega arith

pub put_elements-requires : goal.put_elements-requires
put_elements-requires c =
    let es : List Element = c.requires.held.0 in
    let survey : IsSurvey c.args.survey.now es = c.requires.survey es c.requires.held.1 in
    let room = and_left _ _ (and_left _ _ (and_left _ _ (and_left _ _ c.requires.room))) in (
      es,
      c.requires.held.1,
      sym (ap (λ n. elements_fit n c.args.columns.now.elements) survey.counts_are.elements_are) ∙ room,
      ap length c.deref-4.ensures.value ∙ length-named _ _ _ survey.indexes_are.users_are ∙ length-map es _,
    )

pub put_tag_ends-requires : goal.put_tag_ends-requires
put_tag_ends-requires c =
    let es : List Element = c.requires.held.0 in
    let survey : IsSurvey c.args.survey.now es = c.requires.survey es c.requires.held.1 in
    let same : length c.put_tag_texts.new.tags.ends.now ≡ length c.args.columns.now.tags.ends.now = ap length c.put_tag_texts.ensures.ends in
    let elements : c.args.survey.now.counts.elements ≡ length es = survey.counts_are.elements_are in
    let room : HasListRoom c.args.survey.now.counts c.args.columns.now = list-room-of c.args.survey.now.counts c.args.columns.now c.requires.room in
    let count : length c.deref.result.now ≡ length (all_tags es) = ap length c.deref.ensures.value ∙ length-named _ _ _ survey.indexes_are.keys_are ∙ length-map (all_tags es) _ in
    let ends : length es ≤ length c.put_tag_texts.new.tags.ends.now = omega arith in
    let few : length (all_tags es) < 2 ^ 64 = omega arith in
    (es, c.requires.held.1, ends, few)

pub put_refs-requires : goal.put_refs-requires
put_refs-requires c =
    let es : List Element = c.requires.held.0 in
    let survey : IsSurvey c.args.survey.now es = c.requires.survey es c.requires.held.1 in
    let room = and_right _ _ (and_left _ _ (and_left _ _ c.requires.room)) in
    (es, c.requires.held.1, sym (ap (λ n. refs_fit n c.args.survey.now.counts.refs c.args.columns.now.refs) survey.counts_are.elements_are ∙ ap (λ n. refs_fit (length es) n c.args.columns.now.refs) survey.counts_are.refs_are) ∙ room)

pub put_members-requires : goal.put_members-requires
put_members-requires c =
    let es : List Element = c.requires.held.0 in
    let survey : IsSurvey c.args.survey.now es = c.requires.survey es c.requires.held.1 in
    let ends_same : length c.put_roles.new.members.ends.now ≡ length c.args.columns.now.members.ends.now = ap length c.put_roles.ensures.ends_are in
    let kinds_same : length c.put_roles.new.members.kinds.now ≡ length c.args.columns.now.members.kinds.now = ap length c.put_roles.ensures.kinds_are in
    let ids_same : length c.put_roles.new.members.ids.now ≡ length c.args.columns.now.members.ids.now = ap length c.put_roles.ensures.ids_are in
    let elements : c.args.survey.now.counts.elements ≡ length es = survey.counts_are.elements_are in
    let members : c.args.survey.now.counts.members ≡ length (all_members es) = survey.counts_are.members_are in
    let room : HasListRoom c.args.survey.now.counts c.args.columns.now = list-room-of c.args.survey.now.counts c.args.columns.now c.requires.room in
    let ends : length es ≤ length c.put_roles.new.members.ends.now = omega arith in
    let kinds : length (all_members es) ≤ length c.put_roles.new.members.kinds.now = omega arith in
    let ids : length (all_members es) ≤ length c.put_roles.new.members.ids.now = omega arith in
    (es, c.requires.held.1, ends, kinds, ids)

pub put_texts-requires : goal.put_texts-requires
put_texts-requires c =
    let es : List Element = c.requires.held.0 in
    let survey : IsSurvey c.args.survey.now es = c.requires.survey es c.requires.held.1 in
    let room = and_right _ _ c.requires.room in
    let texts : c.args.survey.now.counts.texts ≡ length c.deref-5.result.now = survey.counts_are.texts_are ∙ length-map c.args.survey.now.indexes.dictionary.texts.items _ ∙ sym (ap length c.deref-5.ensures.value) in
    let bytes : c.args.survey.now.counts.text_bytes ≡ length (joined (map (λ t. t.now) c.deref-5.result.now)) = survey.counts_are.text_bytes_are ∙ sym (ap (λ l. length (joined (map (λ t. t.now) l))) c.deref-5.ensures.value) in
    sym (ap (λ n. texts_fit n c.args.survey.now.counts.text_bytes c.args.columns.now.texts) texts ∙ ap (λ n. texts_fit (length c.deref-5.result.now) n c.args.columns.now.texts) bytes) ∙ room

pub returns : goal.returns
returns c = λ es h.
    let survey : IsSurvey c.args.survey.now es = c.requires.survey es h in
    let tags = c.put_tag_ends.ensures es h in
    let members = c.put_members.ensures es h in
    let U : List ℤ → Type 0 = λ l. HoldsElements l es c.args.columns.now.elements c.put_elements.new.columns in
    record {
      users = c.args.survey.now.indexes.users.items;
      keys = c.args.survey.now.indexes.keys.items;
      values = c.args.survey.now.indexes.values.items;
      roles = c.args.survey.now.indexes.roles.items;
      users_name = survey.indexes_are.users_are;
      keys_name = survey.indexes_are.keys_are;
      values_name = survey.indexes_are.values_are;
      roles_name = survey.indexes_are.roles_are;
      elements_are = subst U c.deref-4.ensures.value (c.put_elements.ensures es h);
      tags_are = record {
        ends_are = tags.ends_are ∙ ap (λ l. over (ends_of (map tags_of_element es)) l) c.put_tag_texts.ensures.ends;
        keys_are = tags.keys_are ∙ c.put_tag_texts.ensures.keys ∙ ap (λ l. over l c.args.columns.now.tags.keys.now) c.deref.ensures.value;
        values_are = tags.values_are ∙ c.put_tag_texts.ensures.values ∙ ap (λ l. over l c.args.columns.now.tags.values.now) c.deref-2.ensures.value;
      };
      refs_are = c.put_refs.ensures es h;
      members_are = record {
        ends_are = members.ends_are ∙ ap (λ l. over (ends_of (map members_of_element es)) l) c.put_roles.ensures.ends_are;
        kinds_are = members.kinds_are ∙ ap (λ l. over (map (λ m. number_of_kind m.kind) (all_members es)) l) c.put_roles.ensures.kinds_are;
        ids_are = members.ids_are ∙ ap (λ l. over (map (λ m. m.id) (all_members es)) l) c.put_roles.ensures.ids_are;
        roles_are = members.roles_are ∙ c.put_roles.ensures.roles_are ∙ ap (λ l. over l c.args.columns.now.members.roles.now) c.deref-3.ensures.value;
      };
      texts_are = rw (sym c.deref-5.ensures.value) c.put_texts.ensures;
    }
