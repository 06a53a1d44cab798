use Rattle.std.proofs.Common.{◌≡◌, ◌++◌, ap, rules, FitsSigned, w64, to_z, of_z}
use Rattle.std.proofs.lemmas.Int.{to_z-of_z}
use Rattle.std.specs.Fmt.{signed_decimal}
use Rattle.osm_value.proofs.SinkLemmas.{Wrote-text}
use Rattle.osm_value.proofs.line.put_ref.Goals as goal

pub returns : goal.returns
returns g c = λ start before h.
    let fits : FitsSigned w64 c.args.id.now = search rules in
    let same : to_z w64 (of_z w64 c.args.id.now) ≡ c.args.id.now = to_z-of_z w64 _ fits in
    Wrote-text start _ _ _ _ (ap (λ z. before ++ signed_decimal z) same) (c.put_number.ensures start before h)
