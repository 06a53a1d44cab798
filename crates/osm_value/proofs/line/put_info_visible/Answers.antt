use Rattle.std.proofs.Common.{[], ◌∷◌, ap, sym}
use Rattle.osm_value.specs.Line.{visible_info}
use Rattle.osm_value.proofs.SinkLemmas.{Wrote-text}
use Rattle.osm_value.proofs.LineLemmas.{no_piece, some_piece}
use Rattle.osm_value.proofs.line.put_info_visible.Goals as goal

pub returns-in_default : goal.returns-in_default
returns-in_default g c = λ start before pieces h w. Wrote-text start _ _ _ _ (no_piece visible_info before pieces c.args.visible c.in_default.is) w

pub returns : goal.returns
returns g c = λ start before pieces h w.
    Wrote-text start _ _ _ _ (some_piece visible_info before pieces c.args.at (120 ∷ 61 ∷ []) _ c.args.visible c.in-Some.visible h c.in-Some.is (ap (λ d. 120 ∷ 61 ∷ d ∷ []) (sym c.digit_of.ensures)))
    (c.put-2.ensures start _ (c.put.ensures start _ (c.put_comma.ensures start _ w)))
