use Rattle.std.proofs.Common.{◌≡◌, ◌∙◌, [], Some, false, true, refl, sym, append-nil}
use Rattle.std.specs.Io.KnownBytes.{prepend_known}
use Rattle.osm_reading.proofs.Begun.{not-ready}
use Rattle.osm_reading.proofs.Filling.{moved_absorbed}
use Rattle.osm_reading.proofs.Moves.{moved_both}
use Rattle.osm_reading.proofs.stream.reading.fill.Goals as goal

pub returns-in-Ok-true-clause-moved : goal.returns-in-Ok-true-clause-moved
returns-in-Ok-true-clause-moved g c =
    moved_absorbed c.args.framer.now c.loop-piece.framer c.absorb.new.framer (prepend_known c.args.piece.now (g.R.Source.bytes_left c.args.reader.now)) c.loop-piece.piece c.absorb.new.piece (g.R.Source.bytes_left c.loop-piece.reader)
    c.loop-piece.invariant.moved c.absorb.ensures.moved

pub returns-in-Ok-true-clause-begun : goal.returns-in-Ok-true-clause-begun
returns-in-Ok-true-clause-begun g c = λ begun. c.absorb.ensures.begun (c.loop-piece.invariant.begun begun)

pub returns-in-Err-clause-begun : goal.returns-in-Err-clause-begun
returns-in-Err-clause-begun g c = λ begun. c.absorb.ensures.begun (c.loop-piece.invariant.begun begun)

pub loop-piece-preserved : goal.loop-piece-preserved
loop-piece-preserved g c = record {
  moved = moved_both c.args.framer.now c.absorb.new.framer c.absorb.new.framer (prepend_known c.args.piece.now (g.R.Source.bytes_left c.args.reader.now)) (prepend_known c.absorb.new.piece (g.R.Source.bytes_left c.loop-piece.reader))
      (prepend_known c.has_more.new.piece (g.R.Source.bytes_left c.has_more.new.reader))
      (moved_absorbed c.args.framer.now c.loop-piece.framer c.absorb.new.framer (prepend_known c.args.piece.now (g.R.Source.bytes_left c.args.reader.now)) c.loop-piece.piece c.absorb.new.piece (g.R.Source.bytes_left c.loop-piece.reader)
      c.loop-piece.invariant.moved c.absorb.ensures.moved)
      ([], refl, sym (append-nil c.absorb.new.framer.rest), c.has_more.ensures.kept);
  begun = λ begun. c.absorb.ensures.begun (c.loop-piece.invariant.begun begun);
  late = λ begun ready.
      absurd (not-ready c.args.framer.now c.absorb.new.framer c.args.piece.now c.absorb.new.piece
      (moved_both c.args.framer.now c.loop-piece.framer c.absorb.new.framer (Some c.args.piece.now) (Some c.loop-piece.piece) (Some c.absorb.new.piece) (c.loop-piece.invariant.late begun ready).1 c.absorb.ensures.moved)
      (c.absorb.ensures.begun (c.loop-piece.invariant.begun begun)) (λ full. (let bad : false ≡ true = sym c.in-Ok-false.field-0-test ∙ c.in-Ok-false.ensures.full.1 full in cc)) (c.in-Ok-false.ensures.spent c.in-Ok-false.field-0-test) ready);
}

pub returns-in-Ok-true-clause-late : goal.returns-in-Ok-true-clause-late
returns-in-Ok-true-clause-late g c = λ begun ready. (c.loop-piece.invariant.late begun ready).0

pub returns-in-Err-clause-late : goal.returns-in-Err-clause-late
returns-in-Err-clause-late g c = λ begun ready. (c.loop-piece.invariant.late begun ready).0

pub returns-in-Ok-false-has_more-clause-late : goal.returns-in-Ok-false-has_more-clause-late
returns-in-Ok-false-has_more-clause-late g c = λ begun ready.
    absurd (not-ready c.args.framer.now c.absorb.new.framer c.args.piece.now c.absorb.new.piece
    (moved_both c.args.framer.now c.loop-piece.framer c.absorb.new.framer (Some c.args.piece.now) (Some c.loop-piece.piece) (Some c.absorb.new.piece) (c.loop-piece.invariant.late begun ready).1 c.absorb.ensures.moved)
    (c.absorb.ensures.begun (c.loop-piece.invariant.begun begun)) (λ full. (let bad : false ≡ true = sym c.in-Ok-false.field-0-test ∙ c.in-Ok-false.ensures.full.1 full in cc)) (c.in-Ok-false.ensures.spent c.in-Ok-false.field-0-test) ready)

pub returns-in-Err-has_more-clause-late : goal.returns-in-Err-has_more-clause-late
returns-in-Err-has_more-clause-late g c = λ begun ready.
    absurd (not-ready c.args.framer.now c.absorb.new.framer c.args.piece.now c.absorb.new.piece
    (moved_both c.args.framer.now c.loop-piece.framer c.absorb.new.framer (Some c.args.piece.now) (Some c.loop-piece.piece) (Some c.absorb.new.piece) (c.loop-piece.invariant.late begun ready).1 c.absorb.ensures.moved)
    (c.absorb.ensures.begun (c.loop-piece.invariant.begun begun)) (λ full. (let bad : false ≡ true = sym c.in-Ok-false.field-0-test ∙ c.in-Ok-false.ensures.full.1 full in cc)) (c.in-Ok-false.ensures.spent c.in-Ok-false.field-0-test) ready)

pub returns-in-Ok-false-has_more-clause-begun : goal.returns-in-Ok-false-has_more-clause-begun
returns-in-Ok-false-has_more-clause-begun g c = λ begun. c.absorb.ensures.begun (c.loop-piece.invariant.begun begun)

pub returns-in-Err-has_more-clause-begun : goal.returns-in-Err-has_more-clause-begun
returns-in-Err-has_more-clause-begun g c = λ begun. c.absorb.ensures.begun (c.loop-piece.invariant.begun begun)
