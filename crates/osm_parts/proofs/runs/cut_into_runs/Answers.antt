use Rattle.std.proofs.Common.{List, take, get_or, sym, subst}
use Rattle.osm_parts.specs.Runs.{AreCut}
use Rattle.osm_parts.specs.declared.pieces.Piece.{Piece}
use Rattle.osm_parts.proofs.PieceLemmas.{blank, piece-at, taken}
use Rattle.osm_parts.proofs.RunLemmas.{cut-more}
use Rattle.osm_parts.proofs.runs.cut_into_runs.Goals as goal

pub loop-piece-preserved : goal.loop-piece-preserved
loop-piece-preserved c =
    let i = c.loop-piece.piece-index in
    subst (λ (l : List Piece). AreCut c.add_to_runs.new.parts.items l) (sym (taken c.args.pieces.now i (get_or c.args.pieces.now i blank) c.loop-piece-test.true (piece-at c.args.pieces.now i c.loop-piece-test.true)))
    (cut-more c.loop-piece.parts.items c.add_to_runs.new.parts.items (take i c.args.pieces.now) (get_or c.args.pieces.now i blank) c.loop-piece.invariant c.in_ok-add_to_runs.ensures)
