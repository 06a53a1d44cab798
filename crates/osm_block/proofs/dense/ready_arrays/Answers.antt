use Rattle.std.proofs.Common.{rules, ◌≡◌, ◌∙◌, sym, ap, refl, length, true, false, Some, None}
use Rattle.std.specs.List.{list_all}
use Rattle.std.proofs.lemmas.List.{length-map}
use Rattle.osm_block.specs.Dense.{dense_message_of, arrays_in_range, AreReady}
use Rattle.osm_block.specs.Fields.{context_of}
use Rattle.osm_block.specs.Phases.{first, dense_phases, tags_phases, is_index}
use Rattle.osm_block.proofs.NodeTagsLemmas.{TagsFit, tags_fit}
use Rattle.osm_block.proofs.DenseArrayLemmas.{lengths_are, ready}
use Rattle.osm_block.proofs.DensePhaseLemmas.{dense_fault_is, ranges_are, tags_are, users_are}
use Rattle.osm_block.proofs.dense.ready_arrays.Goals.{After-check_tags, After-all_users}
use Rattle.osm_block.proofs.dense.ready_arrays.Goals as goal

-- the test of the tags, as it is made
module _ (c : After-check_tags) where
  texts : c.len-texts.result ≡ length (context_of c.args.scale.now).table
  texts = let table : c.len-texts.result ≡ length c.args.scale.now.table.items = search rules in table ∙ sym (length-map c.args.scale.now.table.items (λ t. t.now))

  tested : first (tags_phases c.len.result c.len-texts.result c.deref.result.now) ≡ first (tags_phases (length c.in_ok-arrays.arrays.ids.items) (length (context_of c.args.scale.now).table) c.in_ok-arrays.arrays.keys_vals.items)
  tested =
      let ids : c.len.result ≡ length c.in_ok-arrays.arrays.ids.items = search rules in
      ap (λ n. first (tags_phases n c.len-texts.result c.deref.result.now)) ids ∙ ap (λ n. first (tags_phases (length c.in_ok-arrays.arrays.ids.items) n c.deref.result.now)) texts
      ∙ ap (λ l. first (tags_phases (length c.in_ok-arrays.arrays.ids.items) (length (context_of c.args.scale.now).table) l)) c.deref.ensures.value

-- and of the users
users : (c : After-all_users) → c.all_users.result ≡ list_all (is_index (length (context_of c.args.scale.now).table)) c.in_ok-arrays.arrays.users.items
users c =
    let table : c.len-texts.result ≡ length c.args.scale.now.table.items = search rules in
    c.all_users.ensures ∙ ap (λ n. list_all (is_index n) c.deref-2.result.now) (table ∙ sym (length-map c.args.scale.now.table.items (λ t. t.now)))
    ∙ ap (list_all (is_index (length (context_of c.args.scale.now).table))) c.deref-2.ensures.value

pub returns-then-not-arrays_in_range : goal.returns-then-not-arrays_in_range
returns-then-not-arrays_in_range c =
    let b = context_of c.args.scale.now in
    let m = dense_message_of c.args.dense.now in
    let cols = c.in_ok-arrays.arrays in
    let are = c.in_ok-arrays.ensures.1 in
    dense_fault_is b m true None false _ _ (sym c.if-not-lengths_fit.false ∙ c.lengths_fit.ensures) (sym c.in_ok-arrays.ensures.0) (sym c.if-not-arrays_in_range.true ∙ c.arrays_in_range.ensures ∙ ranges_are b cols m are) refl refl

pub returns-in_err-check_tags : goal.returns-in_err-check_tags
returns-in_err-check_tags c =
    let b = context_of c.args.scale.now in
    let m = dense_message_of c.args.dense.now in
    let cols = c.in_ok-arrays.arrays in
    let are = c.in_ok-arrays.ensures.1 in
    let stands : first (dense_phases b m) ≡ Some c.in_err-check_tags.field-0.0 =
    dense_fault_is b m true None true (Some c.in_err-check_tags.field-0.0) _ (sym c.if-not-lengths_fit.false ∙ c.lengths_fit.ensures) (sym c.in_ok-arrays.ensures.0) (sym c.if-not-arrays_in_range.false ∙ c.arrays_in_range.ensures ∙ ranges_are b cols m are)
    (sym c.in_err-check_tags.ensures ∙ tested (goal.at.returns-in_err-check_tags c).After-check_tags ∙ tags_are b cols m are) refl in
    search rules

pub returns-then-not-all_users : goal.returns-then-not-all_users
returns-then-not-all_users c =
    let b = context_of c.args.scale.now in
    let m = dense_message_of c.args.dense.now in
    let cols = c.in_ok-arrays.arrays in
    let are = c.in_ok-arrays.ensures.1 in
    let known = goal.at.returns-then-not-all_users c in
    dense_fault_is b m true None true None false (sym c.if-not-lengths_fit.false ∙ c.lengths_fit.ensures) (sym c.in_ok-arrays.ensures.0) (sym c.if-not-arrays_in_range.false ∙ c.arrays_in_range.ensures ∙ ranges_are b cols m are)
    (sym c.in_ok-check_tags.ensures ∙ tested known.After-check_tags ∙ tags_are b cols m are) (sym c.if-not-all_users.true ∙ users known.After-all_users ∙ users_are b cols m are)

pub returns : goal.returns
returns c =
    let b = context_of c.args.scale.now in
    let m = dense_message_of c.args.dense.now in
    let cols = c.in_ok-arrays.arrays in
    let are = c.in_ok-arrays.ensures.1 in
    let known = goal.at.returns c in
    let lengths : lengths_are m ≡ true = sym c.lengths_fit.ensures ∙ c.if-not-lengths_fit.false in
    let ranges : arrays_in_range b cols ≡ true = sym c.arrays_in_range.ensures ∙ c.if-not-arrays_in_range.false in
    let tags : TagsFit (length cols.ids.items) (length b.table) cols.keys_vals.items = tags_fit (length cols.ids.items) (length b.table) cols.keys_vals.items (sym (tested known.After-check_tags) ∙ c.in_ok-check_tags.ensures) in
    let is_ready : AreReady b cols = ready b cols m are lengths ranges tags (sym (users known.After-all_users) ∙ c.if-not-all_users.false) in (
      dense_fault_is b m true None true None true (sym c.if-not-lengths_fit.false ∙ c.lengths_fit.ensures) (sym c.in_ok-arrays.ensures.0) (sym c.if-not-arrays_in_range.false ∙ c.arrays_in_range.ensures ∙ ranges_are b cols m are)
          (sym c.in_ok-check_tags.ensures ∙ tested known.After-check_tags ∙ tags_are b cols m are) (sym c.if-not-all_users.false ∙ users known.After-all_users ∙ users_are b cols m are),
      (is_ready, are),
    )
