use Rattle.std.proofs.Common.{[], ◌∷◌, ap, refl}
use Rattle.std.specs.Prelude.{option_copied}
use Rattle.osm_value.specs.Line.{user_info}
use Rattle.osm_value.proofs.SinkLemmas.{Wrote-text}
use Rattle.osm_value.proofs.LineLemmas.{no_piece, some_piece}
use Rattle.osm_value.proofs.line.put_info_user.Goals as goal

pub returns-in_default-clause-text : goal.returns-in_default-clause-text
returns-in_default-clause-text g c = λ start before pieces h w. Wrote-text start _ _ _ _ (no_piece user_info before pieces (option_copied c.args.user) (ap option_copied c.in_default.is)) w

pub returns-clause-text : goal.returns-clause-text
returns-clause-text g c = λ start before pieces h w.
    Wrote-text start _ _ _ _ (some_piece user_info before pieces c.args.at (117 ∷ 61 ∷ []) _ (option_copied c.args.user) c.in-Some.user.now h (ap option_copied c.in-Some.is) refl)
    (c.put_escaped.ensures start _ (c.put.ensures start _ (c.put_comma.ensures start _ w)))
