use Rattle.std.proofs.Common.{◌≡◌, ◌∙◌, rules, Some, to_z, of_z, w64, FitsSigned}
use Rattle.std.proofs.lemmas.Int.{to_z-of_z}
use Rattle.std.specs.List.{AllByRecursion}
use Rattle.osm_value.specs.Ranges.{IsWide}
use Rattle.osm_value.proofs.Ranges.{wide_fits, all_weaker}
use Rattle.osm_write.proofs.Deltas.{of_same, some_is_wide}
use Rattle.osm_write.proofs.Joined.{from_ok, joined_two}
use Rattle.osm_write.proofs.message.append_way.Goals as goal

pub append_deltas-requires-clause-wide : goal.append_deltas-requires-clause-wide
append_deltas-requires-clause-wide c =
    let all : AllByRecursion IsWide c.refs.result.now = rw c.refs.ensures.exact c.refs.ensures.in_range.refs in
    all_weaker IsWide _ c.refs.result.now (λ v w x r e h.
    let wide : IsWide x.now = rw e w in
    let is : to_z w64 (of_z w64 x.now) ≡ x.now = to_z-of_z w64 x.now (wide_fits x.now wide) in
    let again : IsWide (to_z w64 (of_z w64 x.now)) = rw is wide in
    search (rules, some_is_wide)) all

pub returns : goal.returns
returns c =
    let refs = c.refs.result.now in
    let all : AllByRecursion IsWide refs = rw c.refs.ensures.exact c.refs.ensures.in_range.refs in
    let fits : FitsSigned w64 c.id.result = search rules in
    let id : to_z w64 (of_z w64 c.id.result) ≡ c.args.way.now.id = to_z-of_z w64 _ fits ∙ c.id.ensures.exact in
    let head = rw (id, c.tags.ensures.exact, c.info.ensures.exact) at c.in_ok-append_head.ensures in
    from_ok c.append_deltas.result c.append_deltas.ensures
    (λ last.
    let refs_out = rw (of_same refs, c.refs.ensures.exact) at (last (λ z. Some z) (all_weaker IsWide _ refs (λ v w x r e h.
    let wide : IsWide x.now = rw e w in
    let is : to_z w64 (of_z w64 x.now) ≡ x.now = to_z-of_z w64 x.now (wide_fits x.now wide) in
    search (rules, is)) all)) in
    refs_out ∙ joined_two _ _ _ _ head)
