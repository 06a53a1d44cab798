use Rattle.std.proofs.Common.{rules, ◌∙◌, ◌<◌, ◌≤◌, length, map, get_or, sym, ap, subst, arith, pos, Some, FitsSigned, to_z, of_z, w64}
use Rattle.std.specs.Prelude.{is_some}
use Rattle.std.proofs.lemmas.Int.{to_z-of_z}
use Rattle.pbf_wire.specs.Readings.{int32}
use Rattle.osm_value.specs.Value.{MemberValue}
use Rattle.osm_value.specs.Ranges.{IsMember, is_wide}
use Rattle.osm_block.specs.Block.{kind}
use Rattle.osm_block.specs.Phases.{is_index}
use Rattle.osm_block.proofs.RangeLemmas.{text_there}
use Rattle.osm_block.proofs.MemberLemmas.{all_at, member_added, all_more, members_whole, kinds_whole, kinds_stop}
use Rattle.osm_block.proofs.relation.members_of.Goals as goal

pub role_of-role-requires : goal.role_of-role-requires
role_of-role-requires c = all_at (λ r. is_index (length c.args.table.now) (int32 r)) c.args.roles.now _ 0 c.requires.roles (omega arith)

pub new-requires : goal.new-requires
new-requires c =
    let inside : c.loop-at.at < length c.args.memids.now = c.loop-at-test.true in
    let wide = all_at is_wide c.args.memids.now c.loop-at.at (pos 0) c.requires.ids inside in
    let fits : FitsSigned w64 (get_or c.args.memids.now c.loop-at.at (pos 0)) = search rules in
    record {
      in_range = record {
        id = ap is_wide (to_z-of_z w64 _ fits) ∙ wide;
        role = text_there (map (λ t. t.now) c.args.table.now) _ _ c.requires.texts (sym c.role_of-role.ensures);
      };
    }

pub loop-at-preserved : goal.loop-at-preserved
loop-at-preserved c =
    let inside : c.loop-at.at < length c.args.memids.now = c.loop-at-test.true in
    let wide = all_at is_wide c.args.memids.now c.loop-at.at (pos 0) c.requires.ids inside in
    let fits : FitsSigned w64 (get_or c.args.memids.now c.loop-at.at (pos 0)) = search rules in
    let member : IsMember (record { kind = c.in-Some.kind; id = to_z w64 (of_z w64 (get_or c.args.memids.now c.loop-at.at (pos 0))); role = c.role_of-role.result.now }) = record {
      id = ap is_wide (to_z-of_z w64 _ fits) ∙ wide;
      role = text_there (map (λ t. t.now) c.args.table.now) _ _ c.requires.texts (sym c.role_of-role.ensures);
    } in
    let P : MemberValue → Type 0 = λ m. IsMember m in
    let is_kind = sym c.in-Some.is ∙ c.kind_of.ensures in
    record {
      built = member_added (map (λ t. t.now) c.args.table.now) _ _ _ _ _ _ _ (pos 0) c.in_ok-push.ensures.items inside (omega arith) (omega arith)
          (ap (λ m. m.id) c.new.ensures ∙ to_z-of_z w64 _ fits) (ap (λ m. Some m.role) c.new.ensures ∙ c.role_of-role.ensures) (ap (λ m. Some m.kind) c.new.ensures ∙ is_kind)
          (subst P (sym c.new.ensures) member) c.loop-at.invariant.built;
      kinds = all_more (λ t. is_some (kind t)) c.args.types.now c.loop-at.at (omega arith) (ap is_some (sym is_kind)) c.loop-at.invariant.kinds;
    }

pub returns-in_default : goal.returns-in_default
returns-in_default c = kinds_stop (λ t. is_some (kind t)) c.args.types.now c.loop-at.at (omega arith) (ap is_some (sym c.kind_of.ensures ∙ c.in_default.is))

pub returns : goal.returns
returns c =
    let far : length c.args.memids.now ≤ c.loop-at.at = omega arith in (
      kinds_whole (λ t. is_some (kind t)) c.args.types.now c.loop-at.at (omega arith) c.loop-at.invariant.kinds,
      members_whole (map (λ t. t.now) c.args.table.now) _ _ _ _ _ far c.requires.as_many_roles c.requires.as_many_types c.loop-at.invariant.built,
    )
