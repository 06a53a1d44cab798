use Rattle.std.proofs.Common.{◌≡◌, ◌<◌, ◌∙◌, ℕ, List, [], length, Result, refl, sym, ap, subst, arith}
use Rattle.std.specs.FinMap.{empty}
use Rattle.std.specs.Io.KnownBytes.{prepend_known}
use Rattle.pbf_frame.specs.Framer.{Framing}
use Rattle.osm_import.specs.Flows.{input, input_behind, output}
use Rattle.osm_import.specs.Stores.{Takes, TakesOne}
use Rattle.osm_import.specs.Streams.{Streams, summary_of, end_at}
use Rattle.osm_import.specs.declared.stream.fault.ImportStop.{ImportStop}
use Rattle.osm_import.specs.declared.stream.fault.ImportFault.TheVariants.{Stream, BlobLimit}
use Rattle.osm_reading.specs.declared.stream.fault.Stop.TheVariants.{ReadFailed}
use Rattle.osm_import.specs.declared.stream.summary.Summary.{Summary}
use Rattle.osm_reading.proofs.Begun.{no-frame-in-nothing}
use Rattle.osm_reading.proofs.Filling.{end-known}
use Rattle.osm_import.proofs.MergeLemmas.{stream_part}
use Rattle.osm_import.proofs.StreamFiles.{stream-one-file}
use Rattle.osm_import.proofs.StreamLemmas.{InStream, stream-more, stream-ends, stop-between, stream-stops, stream-begins, never-begun, stream-stays}
use Rattle.osm_import.proofs.StreamTakes.{took-none, took-more}
use Rattle.osm_import.proofs.stream.run.import_stream.Goals as goal

pub returns-in_default-clause-streams : goal.returns-in_default-clause-streams
returns-in_default-clause-streams g c =
    never-begun (g.T.Teller.tells c.args.teller.now) c.args.from c.args.max_blobs (g.R.Source.bytes_left c.args.reader.now) (g.S.Sink.written c.args.out.now) (g.R.Source.has_failed c.args.reader.now) (g.S.Sink.has_failed c.args.out.now)
    (Takes g.K.BlobReader c.args.keeper.now c.args.keeper.now) (took-none g.K.BlobReader g.met.K.BlobReader.settled g.met.K.BlobReader.leaves_held g.met.K.BlobReader.same_tables_self c.args.keeper.now)

pub loop-blobs-init : goal.loop-blobs-init
loop-blobs-init g c =
    let left = g.R.Source.bytes_left c.args.reader.now in
    let written = g.S.Sink.written c.args.out.now in
    subst (λ (piece : List ℕ). InStream (g.T.Teller.tells c.args.teller.now) c.args.from 0 c.new-framer.result left (prepend_known piece left) written written (summary_of [] c.args.from) (Takes g.K.BlobReader c.args.keeper.now c.args.keeper.now)) (sym c.in-Ok.ensures)
    (stream-begins (g.T.Teller.tells c.args.teller.now) c.args.from left written c.new-framer.result (summary_of [] c.args.from) (Takes g.K.BlobReader c.args.keeper.now c.args.keeper.now)
    (ap (λ (f : Framing). f.offset) c.new-framer.ensures) (ap (λ (f : Framing). f.rest) c.new-framer.ensures) c.requires refl
    (took-none g.K.BlobReader g.met.K.BlobReader.settled g.met.K.BlobReader.leaves_held g.met.K.BlobReader.same_tables_self c.args.keeper.now))

pub loop-blobs-preserved : goal.loop-blobs-preserved
loop-blobs-preserved g c =
    let one = rw c.in-Ok-Some.field-0-is at c.in-Ok-Some.ensures.step in
    stream-more c.args.from c.loop-blobs._blobs c.loop-blobs.framer c.import_frame.new.framer (g.R.Source.bytes_left c.args.reader.now) (g.S.Sink.written c.args.out.now)
    (input_behind g.R.Source c.loop-blobs.piece c.import_frame.new.piece c.loop-blobs.reader c.import_frame.new.reader) (output (g.T.Teller.tells c.args.teller.now) g.S.Sink c.loop-blobs.out c.import_frame.new.out) c.loop-blobs.summary c.add.new.self
    (Takes g.K.BlobReader c.args.keeper.now c.loop-blobs.keeper) (Takes g.K.BlobReader c.args.keeper.now c.import_frame.new.keeper) (TakesOne g.K.BlobReader c.loop-blobs.keeper c.import_frame.new.keeper)
    c.in-Ok-Some.blob c.loop-blobs.invariant one
    (λ ds rs off bytes a sound all step. took-more g.K.BlobReader g.met.K.BlobReader.settled g.met.K.BlobReader.same_tables_self g.met.K.BlobReader.same_tables_then c.args.keeper.now c.loop-blobs.keeper c.import_frame.new.keeper ds rs off bytes a sound all step)
    c.add.ensures

pub returns-in-Ok-None-clause-streams : goal.returns-in-Ok-None-clause-streams
returns-in-Ok-None-clause-streams g c =
    let none = rw c.in-Ok-None.field-0-is at c.in-Ok-None.ensures.step in
    let source = input g.R.Source c.args.reader.now c.import_frame.new.reader in
    let sink = output (g.T.Teller.tells c.args.teller.now) g.S.Sink c.args.out.now c.import_frame.new.out in
    let within : c.loop-blobs._blobs < c.args.max_blobs = omega arith in
    subst (λ (r : Result Summary ImportStop). Streams c.args.from c.args.max_blobs source sink (Takes g.K.BlobReader c.args.keeper.now c.import_frame.new.keeper) r) (sym c.end_of.ensures)
    (stream-ends c.args.from c.args.max_blobs c.loop-blobs._blobs c.loop-blobs.framer source c.import_frame.new.piece sink c.loop-blobs.summary (Takes g.K.BlobReader c.args.keeper.now c.import_frame.new.keeper)
    (stream-stays (g.T.Teller.tells c.args.teller.now) c.args.from c.loop-blobs._blobs c.loop-blobs.framer source.before (prepend_known c.loop-blobs.piece (g.R.Source.bytes_left c.loop-blobs.reader)) (prepend_known c.import_frame.new.piece source.after)
    sink.before (g.S.Sink.written c.loop-blobs.out) sink.after c.loop-blobs.summary (Takes g.K.BlobReader c.args.keeper.now c.loop-blobs.keeper) (Takes g.K.BlobReader c.args.keeper.now c.import_frame.new.keeper)
    (c.import_frame.new.keeper ≡ c.loop-blobs.keeper) c.loop-blobs.invariant none.0 none.2
    (λ ds rs same took. subst (λ (k : g.row.K.Denot). Takes g.K.BlobReader c.args.keeper.now k ds rs) (sym same) took) none.3)
    none.1 (omega arith))

pub returns-in-Err-clause-streams : goal.returns-in-Err-clause-streams
returns-in-Err-clause-streams g c =
    stream-stops c.args.from c.args.max_blobs c.loop-blobs._blobs c.loop-blobs.framer (input g.R.Source c.args.reader.now c.import_frame.new.reader) c.import_frame.new.piece
    (prepend_known c.loop-blobs.piece (g.R.Source.bytes_left c.loop-blobs.reader)) (output (g.T.Teller.tells c.args.teller.now) g.S.Sink c.args.out.now c.import_frame.new.out) (g.S.Sink.written c.loop-blobs.out) c.loop-blobs.summary
    (Takes g.K.BlobReader c.args.keeper.now c.loop-blobs.keeper) (Takes g.K.BlobReader c.args.keeper.now c.import_frame.new.keeper) (TakesOne g.K.BlobReader c.loop-blobs.keeper c.import_frame.new.keeper)
    (c.import_frame.new.keeper ≡ c.loop-blobs.keeper) c.in-Err.fault c.loop-blobs.invariant c.in-Err.ensures.step
    (λ ds rs same took. subst (λ (k : g.row.K.Denot). Takes g.K.BlobReader c.args.keeper.now k ds rs) (sym same) took)
    (λ ds rs off bytes a sound all step. took-more g.K.BlobReader g.met.K.BlobReader.settled g.met.K.BlobReader.same_tables_self g.met.K.BlobReader.same_tables_then c.args.keeper.now c.loop-blobs.keeper c.import_frame.new.keeper ds rs off bytes a sound all step)
    (omega arith) c.in-Err.ensures.spent

pub returns-in-Ok-true-clause-streams : goal.returns-in-Ok-true-clause-streams
returns-in-Ok-true-clause-streams g c =
    let more : 0 < length c.has_more.new.piece = c.in-Ok-true.ensures.more c.in-Ok-true.field-0-test in
    let all : c.loop-blobs._blobs ≡ c.args.max_blobs = omega arith in
    stop-between c.args.from c.args.max_blobs c.loop-blobs._blobs c.loop-blobs.framer (input g.R.Source c.args.reader.now c.has_more.new.reader) c.has_more.new.piece
    (prepend_known c.loop-blobs.piece (g.R.Source.bytes_left c.loop-blobs.reader)) (output (g.T.Teller.tells c.args.teller.now) g.S.Sink c.args.out.now c.loop-blobs.out) (g.S.Sink.written c.loop-blobs.out) c.loop-blobs.summary
    (Takes g.K.BlobReader c.args.keeper.now c.loop-blobs.keeper) (Takes g.K.BlobReader c.args.keeper.now c.loop-blobs.keeper)
    (Unit {0}) BlobLimit [] c.loop-blobs.invariant c.in-Ok-true.ensures.kept (λ ds rs same took. took) tt (omega arith)
    (λ rs many here lines. (refl, many ∙ all, more, lines))

pub returns-in-Ok-false-clause-streams : goal.returns-in-Ok-false-clause-streams
returns-in-Ok-false-clause-streams g c =
    let source = input g.R.Source c.args.reader.now c.has_more.new.reader in
    let sink = output (g.T.Teller.tells c.args.teller.now) g.S.Sink c.args.out.now c.loop-blobs.out in
    subst (λ (r : Result Summary ImportStop). Streams c.args.from c.args.max_blobs source sink (Takes g.K.BlobReader c.args.keeper.now c.loop-blobs.keeper) r) (sym c.end_of-in-Ok-false.ensures)
    (stream-ends c.args.from c.args.max_blobs c.loop-blobs._blobs c.loop-blobs.framer source c.has_more.new.piece sink c.loop-blobs.summary (Takes g.K.BlobReader c.args.keeper.now c.loop-blobs.keeper)
    (stream-stays (g.T.Teller.tells c.args.teller.now) c.args.from c.loop-blobs._blobs c.loop-blobs.framer source.before (prepend_known c.loop-blobs.piece (g.R.Source.bytes_left c.loop-blobs.reader)) (prepend_known c.has_more.new.piece source.after)
    sink.before sink.after sink.after c.loop-blobs.summary (Takes g.K.BlobReader c.args.keeper.now c.loop-blobs.keeper) (Takes g.K.BlobReader c.args.keeper.now c.loop-blobs.keeper)
    (Unit {0}) c.loop-blobs.invariant c.in-Ok-false.ensures.kept refl (λ ds rs same took. took) tt)
    (end-known c.has_more.new.piece source.after (c.in-Ok-false.ensures.ended c.in-Ok-false.field-0-test)) (omega arith))

pub returns-clause-streams : goal.returns-clause-streams
returns-clause-streams g c =
    stop-between c.args.from c.args.max_blobs c.loop-blobs._blobs c.loop-blobs.framer (input g.R.Source c.args.reader.now c.has_more.new.reader) c.has_more.new.piece
    (prepend_known c.loop-blobs.piece (g.R.Source.bytes_left c.loop-blobs.reader)) (output (g.T.Teller.tells c.args.teller.now) g.S.Sink c.args.out.now c.loop-blobs.out) (g.S.Sink.written c.loop-blobs.out) c.loop-blobs.summary
    (Takes g.K.BlobReader c.args.keeper.now c.loop-blobs.keeper) (Takes g.K.BlobReader c.args.keeper.now c.loop-blobs.keeper)
    (Unit {0}) (Stream ReadFailed) [] c.loop-blobs.invariant c.in-Err-has_more.ensures.kept (λ ds rs same took. took) tt (omega arith)
    (λ rs many here lines. (c.in-Err-has_more.ensures.failed, refl, lines, no-frame-in-nothing (end_at c.args.from rs) c.has_more.new.piece c.in-Err-has_more.ensures.empty))

pub returns-in-Ok-None-clause-one_file : goal.returns-in-Ok-None-clause-one_file
returns-in-Ok-None-clause-one_file g c = λ file held left zero holds honest.
    stream-one-file c.args.from c.args.max_blobs file (input g.R.Source c.args.reader.now c.import_frame.new.reader) (output (g.T.Teller.tells c.args.teller.now) g.S.Sink c.args.out.now c.import_frame.new.out)
    (Takes g.K.BlobReader c.args.keeper.now c.import_frame.new.keeper) (g.K.BlobReader.holds c.import_frame.new.keeper) held left zero
    (λ ds rs took none. took.unbroken held holds honest none) c.end_of.result (returns-in-Ok-None-clause-streams g c)

pub returns-in-Ok-None-clause-part : goal.returns-in-Ok-None-clause-part
returns-in-Ok-None-clause-part g c = λ piece left holds honest.
    stream_part c.args.from c.args.max_blobs piece (input g.R.Source c.args.reader.now c.import_frame.new.reader) (output (g.T.Teller.tells c.args.teller.now) g.S.Sink c.args.out.now c.import_frame.new.out)
    (Takes g.K.BlobReader c.args.keeper.now c.import_frame.new.keeper) (g.K.BlobReader.holds c.import_frame.new.keeper) left
    (λ ds rs took none. took.unbroken empty holds honest none) c.end_of.result (returns-in-Ok-None-clause-streams g c)

pub returns-in-Ok-false-clause-one_file : goal.returns-in-Ok-false-clause-one_file
returns-in-Ok-false-clause-one_file g c = λ file held left zero holds honest.
    stream-one-file c.args.from c.args.max_blobs file (input g.R.Source c.args.reader.now c.has_more.new.reader) (output (g.T.Teller.tells c.args.teller.now) g.S.Sink c.args.out.now c.loop-blobs.out)
    (Takes g.K.BlobReader c.args.keeper.now c.loop-blobs.keeper) (g.K.BlobReader.holds c.loop-blobs.keeper) held left zero
    (λ ds rs took none. took.unbroken held holds honest none) c.end_of-in-Ok-false.result (returns-in-Ok-false-clause-streams g c)

pub returns-in-Ok-false-clause-part : goal.returns-in-Ok-false-clause-part
returns-in-Ok-false-clause-part g c = λ piece left holds honest.
    stream_part c.args.from c.args.max_blobs piece (input g.R.Source c.args.reader.now c.has_more.new.reader) (output (g.T.Teller.tells c.args.teller.now) g.S.Sink c.args.out.now c.loop-blobs.out)
    (Takes g.K.BlobReader c.args.keeper.now c.loop-blobs.keeper) (g.K.BlobReader.holds c.loop-blobs.keeper) left
    (λ ds rs took none. took.unbroken empty holds honest none) c.end_of-in-Ok-false.result (returns-in-Ok-false-clause-streams g c)
