use Rattle.std.specs.Io.KnownBytes.{prepend_known}
use Rattle.osm_reading.proofs.Filling.{lacks-frame, stopped-frame, end-known}
use Rattle.osm_reading.proofs.stream.reading.read_frame.Goals as goal

pub returns-in-Err-clause-err : goal.returns-in-Err-clause-err
returns-in-Err-clause-err g c =
    stopped-frame c.fill.new.framer (prepend_known c.fill.new.piece (g.R.Source.bytes_left c.fill.new.reader)) (g.R.Source.has_failed c.fill.new.reader) c.in-Err.stop c.in-Err.ensures.cause (λ is. (c.in-Err.ensures.unread is).0)

pub returns-in-Err-end-clause-err : goal.returns-in-Err-end-clause-err
returns-in-Err-end-clause-err g c =
    let left = g.R.Source.bytes_left c.fill.new.reader in
    let e = c.in-Err-end.ensures in
    lacks-frame c.fill.new.framer c.in-Ok.field-0 (prepend_known c.fill.new.piece left) c.in-Err-end.fault c.in-Ok.ensures.full (λ h. end-known c.fill.new.piece left (c.in-Ok.ensures.ended h)) (e.fault, e.stands, e.fine.1)

pub returns-in-Err-clause-begun : goal.returns-in-Err-clause-begun
returns-in-Err-clause-begun g c = λ begun. c.fill.ensures.begun begun

pub returns-in-Ok-end-clause-begun : goal.returns-in-Ok-end-clause-begun
returns-in-Ok-end-clause-begun g c = λ begun. c.fill.ensures.begun begun

pub returns-in-Err-end-clause-begun : goal.returns-in-Err-end-clause-begun
returns-in-Err-end-clause-begun g c = λ begun. c.fill.ensures.begun begun

pub returns-in-Err-clause-late : goal.returns-in-Err-clause-late
returns-in-Err-clause-late g c = λ begun ready. c.fill.ensures.late begun ready

pub returns-in-Ok-end-clause-late : goal.returns-in-Ok-end-clause-late
returns-in-Ok-end-clause-late g c = λ begun ready. c.fill.ensures.late begun ready

pub returns-in-Err-end-clause-late : goal.returns-in-Err-end-clause-late
returns-in-Err-end-clause-late g c = λ begun ready. c.fill.ensures.late begun ready

pub returns-in-Err-clause-spent : goal.returns-in-Err-clause-spent
returns-in-Err-clause-spent g c = λ is. (c.in-Err.ensures.unread is).1
