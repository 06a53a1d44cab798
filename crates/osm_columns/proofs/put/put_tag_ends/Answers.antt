use Rattle.std.proofs.Common.{◌≡◌, ◌∙◌, ◌<◌, ◌^◌, length, map, sum, ap, refl, arith}
use Rattle.osm_value.specs.Elements.{tags_of_element}
use Rattle.osm_columns.specs.Lists.{all_tags}
use Rattle.osm_columns.specs.Columns.{over}
use Rattle.osm_columns.proofs.EndLemmas.{joined-by-sum, ends-by-sums}
use Rattle.osm_columns.proofs.put.put_tag_ends.Goals as goal

pub put_end_column-requires : goal.put_end_column-requires
put_end_column-requires c =
    let same : sum (map (λ e. length (tags_of_element e)) c.requires.0) ≡ length (all_tags c.requires.0) = joined-by-sum tags_of_element c.requires.0 in
    let fits : sum (map (λ e. length (tags_of_element e)) c.requires.0) < 2 ^ 64 = omega (arith, c.requires.3) in
    (c.requires.0, c.requires.1, c.requires.2, fits)

pub returns : goal.returns
returns c = λ es h. record {
  ends_are = c.put_end_column.ensures es h ∙ ap (λ l. over l c.args.tags.now.ends.now) (ends-by-sums tags_of_element 0 es);
  keys_are = refl;
  values_are = refl;
}
