use Rattle.std.proofs.Common.{rules, ◌≡◌, ◌∙◌, ap, map, length, FitsSigned, to_z, of_z, w32}
use Rattle.std.specs.Prelude.{option_map, option_and_then, slice_get}
use Rattle.std.proofs.lemmas.Int.{to_z-of_z}
use Rattle.osm_value.specs.Ranges.{is_wide, is_uid, passes}
use Rattle.osm_block.specs.Block.{time, version, text_at}
use Rattle.osm_block.specs.Fields.{context_of}
use Rattle.osm_block.specs.Phases.{is_index}
use Rattle.osm_block.proofs.DenseArrayLemmas.{in_range_parts, each_passes, info_is_at, users_along}
use Rattle.osm_block.proofs.dense.nodes.info_at.Goals as goal

pub time_of-time-requires : goal.time_of-time-requires
time_of-time-requires c =
    let fits : FitsSigned w32 c.args.scale.now.date_granularity = search rules in
    let same : to_z w32 (of_z w32 c.args.scale.now.date_granularity) ≡ c.args.scale.now.date_granularity = to_z-of_z w32 _ fits in
    let is = c.number_at.ensures ∙ ap (λ l. slice_get l c.args.index) c.deref-2.ensures.value in
    ap (λ g. passes (λ t. is_wide (time g t)) c.number_at.result) same ∙ ap (passes (λ t. is_wide (time c.args.scale.now.date_granularity t))) is
    ∙ each_passes (λ t. is_wide (time c.args.scale.now.date_granularity t)) c.args.arrays.now.timestamps.items c.args.index (in_range_parts (context_of c.args.scale.now) c.args.arrays.now c.requires.ready.in_range).times

pub uid_of-uid-requires : goal.uid_of-uid-requires
uid_of-uid-requires c =
    let is = c.number_at-2.ensures ∙ ap (λ l. slice_get l c.args.index) c.deref-4.ensures.value in
    ap (passes is_uid) is ∙ each_passes is_uid c.args.arrays.now.uids.items c.args.index (in_range_parts (context_of c.args.scale.now) c.args.arrays.now c.requires.ready.in_range).uids

pub user_of-user-requires : goal.user_of-user-requires
user_of-user-requires c =
    let is = c.number_at-3.ensures ∙ ap (λ l. slice_get l c.args.index) c.deref-6.ensures.value in
    ap (λ l. passes (is_index (length l)) c.number_at-3.result) c.deref-5.ensures.value ∙ ap (passes (is_index (length c.args.scale.now.table.items))) is
    ∙ each_passes (is_index (length c.args.scale.now.table.items)) c.args.arrays.now.users.items c.args.index
    (users_along (λ t. t.now) c.args.scale.now.table.items c.args.arrays.now.users.items c.requires.ready.users_in_table)

pub new-requires : goal.new-requires
new-requires c =
    let fits : FitsSigned w32 c.args.scale.now.date_granularity = search rules in
    let same : to_z w32 (of_z w32 c.args.scale.now.date_granularity) ≡ c.args.scale.now.date_granularity = to_z-of_z w32 _ fits in
    record {
      in_range = (info_is_at (context_of c.args.scale.now) c.args.arrays.now c.args.index _ _ _ _ _ _ c.requires.ready c.args.scale.now.texts
          (c.version_at-version.ensures ∙ ap (λ l. option_and_then version (slice_get l c.args.index)) c.deref.ensures.value)
          (c.time_of-time.ensures ∙ ap (λ g. option_map (time g) c.number_at.result) same ∙ ap (option_map (time c.args.scale.now.date_granularity)) (c.number_at.ensures ∙ ap (λ l. slice_get l c.args.index) c.deref-2.ensures.value))
          (c.number_at-changeset.ensures ∙ ap (λ l. slice_get l c.args.index) c.deref-3.ensures.value)
          (c.uid_of-uid.ensures ∙ c.number_at-2.ensures ∙ ap (λ l. slice_get l c.args.index) c.deref-4.ensures.value)
          (c.user_of-user.ensures ∙ ap (λ l. option_map (text_at (map (λ t. t.now) l)) c.number_at-3.result) c.deref-5.ensures.value
          ∙ ap (option_map (text_at (map (λ t. t.now) c.args.scale.now.table.items))) (c.number_at-3.ensures ∙ ap (λ l. slice_get l c.args.index) c.deref-6.ensures.value))
          (c.flag_at-visible.ensures ∙ ap (λ l. slice_get l c.args.index) c.deref-7.ensures.value)).in_range;
    }

pub returns : goal.returns
returns c =
    let fits : FitsSigned w32 c.args.scale.now.date_granularity = search rules in
    let same : to_z w32 (of_z w32 c.args.scale.now.date_granularity) ≡ c.args.scale.now.date_granularity = to_z-of_z w32 _ fits in
    rw c.new.ensures (info_is_at (context_of c.args.scale.now) c.args.arrays.now c.args.index _ _ _ _ _ _ c.requires.ready c.args.scale.now.texts
    (c.version_at-version.ensures ∙ ap (λ l. option_and_then version (slice_get l c.args.index)) c.deref.ensures.value)
    (c.time_of-time.ensures ∙ ap (λ g. option_map (time g) c.number_at.result) same ∙ ap (option_map (time c.args.scale.now.date_granularity)) (c.number_at.ensures ∙ ap (λ l. slice_get l c.args.index) c.deref-2.ensures.value))
    (c.number_at-changeset.ensures ∙ ap (λ l. slice_get l c.args.index) c.deref-3.ensures.value)
    (c.uid_of-uid.ensures ∙ c.number_at-2.ensures ∙ ap (λ l. slice_get l c.args.index) c.deref-4.ensures.value)
    (c.user_of-user.ensures ∙ ap (λ l. option_map (text_at (map (λ t. t.now) l)) c.number_at-3.result) c.deref-5.ensures.value
    ∙ ap (option_map (text_at (map (λ t. t.now) c.args.scale.now.table.items))) (c.number_at-3.ensures ∙ ap (λ l. slice_get l c.args.index) c.deref-6.ensures.value))
    (c.flag_at-visible.ensures ∙ ap (λ l. slice_get l c.args.index) c.deref-7.ensures.value))
