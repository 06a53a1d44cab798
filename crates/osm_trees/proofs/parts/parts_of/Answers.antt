use Rattle.std.proofs.Common.{◌≡◌, ◌∙◌, ap, pos, [], ◌∷◌}
use Rattle.std.proofs.lemmas.Result.{MatchResult-weaker}
use Rattle.sqlite_value.specs.declared.value.Value.TheVariants.{Int}
use Rattle.sqlite_value.specs.Order.{Row, column}
use Rattle.osm_trees.proofs.Answers.{joined}
use Rattle.osm_trees.proofs.TreeReads.{its_tags, its_links}
use Rattle.osm_trees.proofs.parts.parts_of.Goals as goal

pub returns-clause-held : goal.returns-clause-held
returns-clause-held g c clean held p holds is alone =
    let trees = (g.S.Store.view c.args.store.now).trees in
    let key : c.in_ok-key.key ≡ Int (pos p.0) ∷ Int (pos p.1) ∷ [] = c.in_ok-key.ensures ∙ ap (λ (r : Row). column r 0 ∷ column r 1 ∷ []) is in
    MatchResult-weaker c.parts_with.result (joined c.parts_with.result _ _ _ c.parts_with.ensures.found c.parts_with.ensures.sound c.parts_with.ensures.ours)
    (λ parts h.
    let found = rw key at (h.0 clean) in
    (record { are_tags = its_tags trees held holds.tables p alone _ found.0; are_links = its_links trees held holds.tables p alone _ found.1 }, h.1 clean))
    (λ fault h. h)
