use Rattle.std.proofs.Common.{arith}
use Rattle.std.proofs.KnownBytes.{Appends-nil}
use Rattle.osm_import.proofs.HandedOn.{on-err}
use Rattle.osm_import.proofs.WritingLemmas.{lines-more, lines-front, all-lines}
use Rattle.osm_import.proofs.export.lines.write_lines.Goals as goal

pub loop-element-init : goal.loop-element-init
loop-element-init g c = Appends-nil (g.S.Sink.written c.args.out.now)

pub returns-in_err-write_line-clause-front : goal.returns-in_err-write_line-clause-front
returns-in_err-write_line-clause-front g c =
    on-err c.from_residual.result _
    (lines-front (g.S.Sink.written c.args.out.now) (g.S.Sink.written c.loop-element.out) (g.S.Sink.written c.write_line.new.sink) c.args.elements.now c.loop-element.element-index c.element-item.result (omega arith) c.element-item.is
    c.loop-element.invariant c.in_err-write_line.ensures.front)

pub loop-element-preserved : goal.loop-element-preserved
loop-element-preserved g c =
    lines-more (g.S.Sink.written c.args.out.now) (g.S.Sink.written c.loop-element.out) (g.S.Sink.written c.write_line.new.sink) c.args.elements.now c.loop-element.element-index c.element-item.result (omega arith) c.element-item.is
    c.loop-element.invariant c.in_ok-write_line.ensures.line

pub returns-clause-lines : goal.returns-clause-lines
returns-clause-lines g c = all-lines (g.S.Sink.written c.args.out.now) (g.S.Sink.written c.loop-element.out) c.args.elements.now c.loop-element.element-index (omega arith) c.loop-element.invariant
