use Rattle.std.proofs.Common.{rules, ◌∙◌, ℕ, ℤ, Some}
use Rattle.osm_value.specs.Value.{MemberValue}
use Rattle.osm_write.specs.Scale.{view}
use Rattle.osm_write.specs.Canon.{index_of, number_of_kind}
use Rattle.osm_write.proofs.Deltas.{each_is, of_all}
use Rattle.osm_write.proofs.Joined.{from_ok, joined_three}
use Rattle.osm_write.proofs.message.append_members.Goals as goal

pub returns : goal.returns
returns c =
    let s = view c.args.scale.now in
    let ms = c.args.members.now in
    let role : MemberValue → ℕ = λ m. index_of s m.role in
    let id : MemberValue → ℤ = λ m. m.id in
    let kind : MemberValue → ℕ = λ m. number_of_kind m.kind in
    let roles = rw (of_all role ms) at (c.in_ok-append_packed.ensures (λ m. Some (role m)) (each_is _ (λ v x r e h. search rules) ms)) in
    let ids = rw (of_all id ms) at (c.in_ok-append_deltas.ensures (λ m. Some (id m)) (each_is _ (λ v x r e h. search rules) ms)) in
    from_ok c.append_packed-2.result c.append_packed-2.ensures
    (λ last. (rw (of_all kind ms) at (last (λ m. Some (kind m)) (each_is _ (λ v x r e h. search rules) ms))) ∙ joined_three _ _ _ _ _ _ roles ids)
