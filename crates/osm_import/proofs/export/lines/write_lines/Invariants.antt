use Rattle.std.proofs.Common.{take}
use Rattle.std.specs.Io.KnownBytes.{Appends}
use Rattle.osm_import.specs.Exports.{lines_of}
use Rattle.osm_import.proofs.export.lines.write_lines.Given as goal

abbrev pub invariant-loop-element : goal.invariant-loop-element
invariant-loop-element g l = Appends (g.S.Sink.written l.fn.out) (g.S.Sink.written l.out) (lines_of (take l.element-index l.elements))
