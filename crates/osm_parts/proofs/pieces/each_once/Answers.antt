use Rattle.std.proofs.Common.{get_or}
use Rattle.osm_parts.specs.Pieces.{IsAmong}
use Rattle.osm_parts.proofs.OpeningLemmas.{if-err}
use Rattle.osm_parts.proofs.PieceLemmas.{blank, piece-at, once-more, in-the-way}
use Rattle.osm_parts.proofs.pieces.each_once.Goals as goal

pub returns-in_err-add_once-clause-refused : goal.returns-in_err-add_once-clause-refused
returns-in_err-add_once-clause-refused c = λ sorted.
    let i = c.loop-piece.piece-index in
    if-err c.from_residual.result c.in_err-add_once.field-0.0 (IsAmong c.args.pieces.now) c.from_residual.ensures.1
    (in-the-way c.args.pieces.now i (get_or c.args.pieces.now i blank) c.loop-piece.kept.items c.loop-piece-test.true (piece-at c.args.pieces.now i c.loop-piece-test.true) c.loop-piece.invariant sorted
    c.in_err-add_once.field-0.0 c.in_err-add_once.ensures.refused)

pub loop-piece-preserved : goal.loop-piece-preserved
loop-piece-preserved c =
    let i = c.loop-piece.piece-index in
    once-more c.args.pieces.now i (get_or c.args.pieces.now i blank) c.loop-piece.kept.items c.add_once.new.kept.items c.loop-piece-test.true (piece-at c.args.pieces.now i c.loop-piece-test.true) c.loop-piece.invariant
    c.in_ok-add_once.ensures.next
