use Rattle.std.proofs.Common.{◌≡◌, refl, subst, inl}
use Rattle.std.specs.Io.KnownBytes.{Consumes, prepend_known}
use Rattle.osm_import.specs.Stores.{TakesOne}
use Rattle.osm_reading.proofs.Begun.{begun-empty}
use Rattle.osm_import.proofs.FrameLemmas.{got-of, reading-stopped, frame-stopped, nothing-held}
use Rattle.osm_import.proofs.stream.run.import_frame.Goals as goal

pub returns-in-Err-clause-step : goal.returns-in-Err-clause-step
returns-in-Err-clause-step g c =
    let before = prepend_known c.args.piece.now (g.R.Source.bytes_left c.args.reader.now) in
    let after = prepend_known c.read_frame.new.piece (g.R.Source.bytes_left c.read_frame.new.reader) in
    reading-stopped (g.T.Teller.tells c.args.teller.now) c.args.framer.now before after (g.S.Sink.written c.args.out.now) (g.R.Source.has_failed c.read_frame.new.reader) (g.S.Sink.has_failed c.args.out.now) (c.args.keeper.now ≡ c.args.keeper.now) (TakesOne g.K.BlobReader c.args.keeper.now c.args.keeper.now) c.read_frame.new.framer c.in-Err.stop
    (got-of c.args.framer.now c.read_frame.new.framer before after c.read_frame.ensures.moved c.requires) (c.read_frame.ensures.begun (begun-empty c.args.framer.now c.requires)) c.in-Err.ensures.err refl

pub returns-in-Err-deliver_waiting-clause-step : goal.returns-in-Err-deliver_waiting-clause-step
returns-in-Err-deliver_waiting-clause-step g c =
    let before = prepend_known c.args.piece.now (g.R.Source.bytes_left c.args.reader.now) in
    let after = prepend_known c.read_frame.new.piece (g.R.Source.bytes_left c.read_frame.new.reader) in
    frame-stopped (g.T.Teller.tells c.args.teller.now) c.args.framer.now before after (g.S.Sink.written c.args.out.now) (g.R.Source.has_failed c.read_frame.new.reader) (g.S.Sink.has_failed c.args.out.now) (c.deliver_waiting.new.keeper ≡ c.args.keeper.now) (TakesOne g.K.BlobReader c.args.keeper.now c.deliver_waiting.new.keeper) c.read_frame.new.framer c.in-Err-deliver_waiting.fault
    (got-of c.args.framer.now c.read_frame.new.framer before after c.read_frame.ensures.moved c.requires) (inl c.in-Err-deliver_waiting.ensures.0) c.in-Err-deliver_waiting.ensures.1

pub returns-in-Ok-None-clause-step : goal.returns-in-Ok-None-clause-step
returns-in-Ok-None-clause-step g c =
    let before = prepend_known c.args.piece.now (g.R.Source.bytes_left c.args.reader.now) in
    let after = prepend_known c.read_frame.new.piece (g.R.Source.bytes_left c.read_frame.new.reader) in
    let gave = rw c.in-Ok-None.field-0-is at c.in-Ok-None.ensures in
    let held = nothing-held c.read_frame.new.framer after gave.0 c.in-Ok.ensures.ok in
    let got = got-of c.args.framer.now c.read_frame.new.framer before after c.read_frame.ensures.moved c.requires in
    (subst (Consumes before after) held.0 got.1, held.1, refl, gave.3)
