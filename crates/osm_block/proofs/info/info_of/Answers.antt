use Rattle.std.proofs.Common.{rules, ◌≡◌, ap, ◌∙◌, map, FitsSigned, to_z, of_z, w32}
use Rattle.std.proofs.lemmas.Int.{to_z-of_z}
use Rattle.std.specs.Prelude.{option_map}
use Rattle.pbf_wire.specs.Readings.{int64, uint32}
use Rattle.osm_value.specs.Ranges.{passes, is_wide}
use Rattle.osm_block.specs.Block.{text_at, time}
use Rattle.osm_block.specs.Fields.{context_of, info_message_of}
use Rattle.osm_block.proofs.InfoLemmas.{user_text}
use Rattle.osm_block.proofs.RangeLemmas.{info_is_in_range, info_time}
use Rattle.osm_block.proofs.info.info_of.Goals as goal

pub time_of-time-requires : goal.time_of-time-requires
time_of-time-requires c =
    let fits : FitsSigned w32 c.args.scale.now.date_granularity = search rules in
    let same : to_z w32 (of_z w32 c.args.scale.now.date_granularity) ≡ c.args.scale.now.date_granularity = to_z-of_z w32 _ fits in
    ap (λ g. passes (λ t. is_wide (time g t)) (option_map int64 c.args.info.now.timestamp)) same ∙ info_time (context_of c.args.scale.now) (info_message_of c.args.info.now) c.requires.in_range

pub new-requires : goal.new-requires
new-requires c =
    let fits : FitsSigned w32 c.args.scale.now.date_granularity = search rules in
    let same : to_z w32 (of_z w32 c.args.scale.now.date_granularity) ≡ c.args.scale.now.date_granularity = to_z-of_z w32 _ fits in
    let units = option_map int64 c.args.info.now.timestamp in
    let time_is : c.time_of-time.result ≡ option_map (time c.args.scale.now.date_granularity) units = c.time_of-time.ensures ∙ ap (λ g. option_map (time g) units) same in
    let user_is = c.user_of-user.ensures ∙ ap (λ l. option_map (λ i. text_at (map (λ t. t.now) l) (uint32 i)) c.args.info.now.user_sid) c.deref.ensures.value ∙ user_text _ c.args.info.now.user_sid in
    record {
      in_range = info_is_in_range (context_of c.args.scale.now) (info_message_of c.args.info.now) _ c.requires.in_range c.args.scale.now.texts
          c.version_of-version.ensures time_is c.optional_i64.ensures c.optional_i32.ensures user_is;
    }

pub returns : goal.returns
returns c =
    let fits : FitsSigned w32 c.args.scale.now.date_granularity = search rules in
    let same : to_z w32 (of_z w32 c.args.scale.now.date_granularity) ≡ c.args.scale.now.date_granularity = to_z-of_z w32 _ fits in
    let units = option_map int64 c.args.info.now.timestamp in
    let time_is : c.time_of-time.result ≡ option_map (time c.args.scale.now.date_granularity) units = c.time_of-time.ensures ∙ ap (λ g. option_map (time g) units) same in
    let user_is = c.user_of-user.ensures ∙ ap (λ l. option_map (λ i. text_at (map (λ t. t.now) l) (uint32 i)) c.args.info.now.user_sid) c.deref.ensures.value ∙ user_text _ c.args.info.now.user_sid in
    rw c.new.ensures (record {
      version_is = c.version_of-version.ensures;
      time_is = time_is;
      changeset_is = c.optional_i64.ensures;
      uid_is = c.optional_i32.ensures;
      user_is = user_is;
      visible_is = c.optional_bool.ensures;
      in_range = info_is_in_range (context_of c.args.scale.now) (info_message_of c.args.info.now) _ c.requires.in_range c.args.scale.now.texts
          c.version_of-version.ensures time_is c.optional_i64.ensures c.optional_i32.ensures user_is;
    })
