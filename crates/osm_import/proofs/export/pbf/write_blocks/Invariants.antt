use Rattle.std.proofs.Common.{length}
use Rattle.osm_import.proofs.PbfLemmas.{CutSoFar}
use Rattle.osm_import.proofs.export.pbf.write_blocks.Given as goal

abbrev pub invariant-loop-block : goal.invariant-loop-block
invariant-loop-block g l = CutSoFar (g.S.Sink.written l.fn.out) (g.S.Sink.written l.out) l.elements l.cutter

abbrev pub decreases-loop-block : goal.decreases-loop-block
decreases-loop-block g l = length l.cutter
