use Rattle.std.proofs.Common.{rules, ◌≡◌, ◌∙◌, ◌<◌, ◌≤◌, ◌^◌, length, map, sum, ap, arith}
use Rattle.osm_columns.specs.Values.{refs_of_element}
use Rattle.osm_columns.specs.Lists.{all_refs}
use Rattle.osm_columns.specs.Columns.{over}
use Rattle.osm_columns.proofs.EndLemmas.{joined-by-sum, ends-by-sums}
use Rattle.osm_columns.proofs.put.put_refs.Goals as goal

pub put_end_column-requires : goal.put_end_column-requires
put_end_column-requires c =
    let ends : length c.requires.0 ≤ length c.args.refs.now.ends.now = search (rules, c.requires.2) in
    let ids : length (all_refs c.requires.0) ≤ length c.args.refs.now.ids.now = search (rules, c.requires.2) in
    let bound : length c.args.refs.now.ids.now < 2 ^ 64 = search rules in
    let same : sum (map (λ e. length (refs_of_element e)) c.requires.0) ≡ length (all_refs c.requires.0) = joined-by-sum refs_of_element c.requires.0 in
    let fits : sum (map (λ e. length (refs_of_element e)) c.requires.0) < 2 ^ 64 = omega arith in
    (c.requires.0, c.requires.1, ends, fits)

pub returns : goal.returns
returns c = λ es h. record {
  ends_are = c.put_end_column.ensures es h ∙ ap (λ l. over l c.args.refs.now.ends.now) (ends-by-sums refs_of_element 0 es);
  ids_are = c.put_list_column.ensures es h;
}
