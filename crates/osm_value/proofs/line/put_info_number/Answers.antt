use Rattle.std.proofs.Common.{rules, ◌≡◌, [], ◌∷◌, ap, sym, w64, to_z, of_z, FitsSigned}
use Rattle.std.specs.Fmt.{signed_decimal}
use Rattle.std.proofs.lemmas.Int.{to_z-of_z}
use Rattle.osm_value.specs.Line.{number_info}
use Rattle.osm_value.proofs.SinkLemmas.{Wrote-text}
use Rattle.osm_value.proofs.LineLemmas.{no_piece, some_piece}
use Rattle.osm_value.proofs.line.put_info_number.Goals as goal

pub returns-in_default-clause-text : goal.returns-in_default-clause-text
returns-in_default-clause-text g c = λ start before pieces h w. Wrote-text start _ _ _ _ (no_piece (number_info c.args.letter) before pieces c.args.number c.in_default.is) w

pub returns-clause-text : goal.returns-clause-text
returns-clause-text g c = λ start before pieces h w.
    let fits : FitsSigned w64 c.in-Some.number = search rules in
    let same : to_z w64 (of_z w64 c.in-Some.number) ≡ c.in-Some.number = to_z-of_z w64 _ fits in
    Wrote-text start _ _ _ _ (some_piece (number_info c.args.letter) before pieces c.args.at (c.args.letter ∷ 61 ∷ []) _ c.args.number c.in-Some.number h c.in-Some.is (ap (λ z. c.args.letter ∷ 61 ∷ signed_decimal z) (sym same)))
    (c.put_number.ensures start _ (c.put.ensures start _ (c.put_comma.ensures start _ w)))
