use Rattle.std.specs.Io.KnownBytes.{prepend_known}
use Rattle.osm_import.specs.Stores.{Takes}
use Rattle.osm_import.proofs.StreamLemmas.{InStream}
use Rattle.osm_import.proofs.stream.run.import_stream.Given as goal

abbrev pub invariant-loop-blobs : goal.invariant-loop-blobs
invariant-loop-blobs g l =
    InStream (g.T.Teller.tells l.teller) l.from l._blobs l.framer (g.R.Source.bytes_left l.fn.reader) (prepend_known l.piece (g.R.Source.bytes_left l.reader)) (g.S.Sink.written l.fn.out) (g.S.Sink.written l.out) l.summary
    (Takes g.K.BlobReader l.fn.keeper l.keeper)
