use Rattle.std.proofs.Common.{◌++◌, ◌∙◌, ap, w64}
use Rattle.std.specs.Fmt.{signed_decimal}
use Rattle.std.proofs.lemmas.Int.{to_z-of_z}
use Rattle.osm_value.proofs.SinkLemmas.{Wrote-text}
use Rattle.osm_value.proofs.pieces.put_number.Goals as goal

pub returns : goal.returns
returns g c = λ start before h.
    Wrote-text start _ _ _ _ (ap (λ t. before ++ t) (c.as_bytes.ensures.value ∙ c.format.ensures.text ∙ ap signed_decimal (to_z-of_z w64 _ c.ranges.number))) (c.put.ensures start before h)
