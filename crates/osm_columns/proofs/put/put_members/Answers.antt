use Rattle.std.proofs.Common.{rules, ◌≡◌, ◌∙◌, ◌<◌, ◌≤◌, ◌^◌, ℕ, ℤ, length, map, sum, ap, refl, arith}
use Rattle.std.proofs.lemmas.List.{length-map}
use Rattle.osm_value.specs.Value.{MemberValue}
use Rattle.osm_columns.specs.Values.{members_of_element, number_of_kind}
use Rattle.osm_columns.specs.Lists.{joined, all_members}
use Rattle.osm_columns.specs.Columns.{over}
use Rattle.osm_columns.proofs.EndLemmas.{joined-by-sum, ends-by-sums}
use Rattle.osm_columns.proofs.GroupLemmas.{mapped-lists}
use Rattle.osm_columns.proofs.put.put_members.Goals as goal

pub put_end_column-requires : goal.put_end_column-requires
put_end_column-requires c =
    let bound : length c.args.members.now.kinds.now < 2 ^ 64 = search rules in
    let same : sum (map (λ e. length (members_of_element e)) c.requires.0) ≡ length (all_members c.requires.0) = joined-by-sum members_of_element c.requires.0 in
    let fits : sum (map (λ e. length (members_of_element e)) c.requires.0) < 2 ^ 64 = omega (arith, c.requires.3) in
    (c.requires.0, c.requires.1, c.requires.2, fits)

pub put_list_column-requires : goal.put_list_column-requires
put_list_column-requires c =
    let kind : MemberValue → ℕ = λ m. number_of_kind m.kind in
    let same : length (joined (map (λ e. map kind (members_of_element e)) c.requires.0)) ≡ length (all_members c.requires.0) = ap length (mapped-lists kind members_of_element c.requires.0) ∙ length-map (all_members c.requires.0) kind in
    let fits : length (joined (map (λ e. map kind (members_of_element e)) c.requires.0)) ≤ length c.args.members.now.kinds.now = omega (arith, c.requires.3) in
    (c.requires.0, c.requires.1, fits)

pub put_list_column-requires-2 : goal.put_list_column-requires-2
put_list_column-requires-2 c =
    let id : MemberValue → ℤ = λ m. m.id in
    let same : length (joined (map (λ e. map id (members_of_element e)) c.requires.0)) ≡ length (all_members c.requires.0) = ap length (mapped-lists id members_of_element c.requires.0) ∙ length-map (all_members c.requires.0) id in
    let fits : length (joined (map (λ e. map id (members_of_element e)) c.requires.0)) ≤ length c.args.members.now.ids.now = omega (arith, c.requires.4) in
    (c.requires.0, c.requires.1, fits)

pub returns : goal.returns
returns c = λ es h. record {
  ends_are = c.put_end_column.ensures es h ∙ ap (λ l. over l c.args.members.now.ends.now) (ends-by-sums members_of_element 0 es);
  kinds_are = c.put_list_column.ensures es h ∙ ap (λ l. over l c.args.members.now.kinds.now) (mapped-lists (λ m. number_of_kind m.kind) members_of_element es);
  ids_are = c.put_list_column-2.ensures es h ∙ ap (λ l. over l c.args.members.now.ids.now) (mapped-lists (λ m. m.id) members_of_element es);
  roles_are = refl;
}
