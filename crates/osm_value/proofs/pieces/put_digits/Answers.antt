use Rattle.std.proofs.Common.{◌++◌, ◌∙◌, ap}
use Rattle.osm_value.proofs.SinkLemmas.{Wrote-text}
use Rattle.osm_value.proofs.pieces.put_digits.Goals as goal

pub returns : goal.returns
returns g c = λ start before h.
    Wrote-text start _ _ _ _ (ap (λ t. before ++ t) (c.as_bytes.ensures.value ∙ c.format.ensures.text)) (c.put.ensures start before h)
