use Rattle.std.proofs.Common.{◌≡◌, ◌∙◌, List, ◌∷◌, refl, sym, ap, arith}
use Rattle.sqlite_value.specs.Order.{Row}
use Rattle.sqlite_trees.specs.View.{IsClean}
use Rattle.sqlite_exec.proofs.CheckLemmas.{from_no_key}
use Rattle.sqlite_exec.specs.Loops.{left_of}
use Rattle.osm_openings.proofs.OpeningLemmas.{from_end}
use Rattle.osm_openings.proofs.version.has_only.Goals as goal

pub returns-then-branch-clause-only : goal.returns-then-branch-clause-only
returns-then-branch-clause-only g c =
    from_end _ _ _ _ c.has_ended.ensures.ended (λ clean none.
    let late : IsClean (g.S.Store.view c.next_is.new.store) = omega (arith, c.has_ended.ensures.quiet.clean) in
    let early : IsClean (g.S.Store.view c.seek-2.new.self) = omega (arith, c.has_ended.ensures.quiet.clean, c.in_ok-next_is.ensures.quiet.clean) in
    let whole : left_of (g.S.Store.view c.seek-2.new.self) 0 ≡ (g.S.Store.view c.args.store.now).trees c.args.table =
    rw (c.in_default.ensures.ok early, c.new.ensures, from_no_key) refl in
    sym whole ∙ c.in_ok-next_is.ensures.next c.if-branch.true late ∙ ap (λ (rows : List Row). c.args.row.now ∷ rows) none)
