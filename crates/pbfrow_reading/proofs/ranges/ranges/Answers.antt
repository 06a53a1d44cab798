use Rattle.std.proofs.Common.{List, subst}
use Rattle.osm_value.specs.Sink.{Writes}
use Rattle.pbf_frame.specs.declared.ranges.Range.{Range}
use Rattle.pbfrow_reading.specs.Ranging.{range_lines}
use Rattle.pbfrow_reading.proofs.RangesLemmas.{cuts-early, cuts-known, cuts-whole}
use Rattle.pbfrow_reading.proofs.ranges.ranges.Goals as goal

pub returns-in-Ok-clause-cut : goal.returns-in-Ok-clause-cut
returns-in-Ok-clause-cut g c =
    let old = g.S.Sink.written c.args.out.now in
    let mid = g.S.Sink.written c.put_ranges.new.out in
    let before = g.S.Sink.has_failed c.args.out.now in
    let between = g.S.Sink.has_failed c.put_ranges.new.out in
    let ranges = c.in-Ok.ranges.items in
    let read = c.in-Ok.ensures.ok in
    let lines : Writes old before mid between (range_lines ranges) = subst (λ (rs : List Range). Writes old before mid between (range_lines rs)) c.deref.ensures.value c.put_ranges.ensures in
    cuts-whole c.args.count (g.R.Read.remaining c.args.input.now) old mid (g.S.Sink.written c.finish.new.out) before between (g.S.Sink.has_failed c.finish.new.out) read.0 ranges c.finish.result read.1 read.2 lines c.finish.ensures.line
    c.finish.ensures.status

pub returns-in-Ok-clause-whole : goal.returns-in-Ok-clause-whole
returns-in-Ok-clause-whole g c = λ zero.
    let left = g.R.Read.remaining c.args.input.now in
    let old = g.S.Sink.written c.args.out.now in
    let mid = g.S.Sink.written c.put_ranges.new.out in
    let written = g.S.Sink.written c.finish.new.out in
    let before = g.S.Sink.has_failed c.args.out.now in
    let between = g.S.Sink.has_failed c.put_ranges.new.out in
    let failed = g.S.Sink.has_failed c.finish.new.out in
    let ranges = c.in-Ok.ranges.items in
    let read = c.in-Ok.ensures.ok in
    let lines : Writes old before mid between (range_lines ranges) = subst (λ (rs : List Range). Writes old before mid between (range_lines rs)) c.deref.ensures.value c.put_ranges.ensures in
    cuts-known c.args.count left old written failed c.finish.result
    (cuts-whole c.args.count left old mid written before between failed read.0 ranges c.finish.result read.1 read.2 lines c.finish.ensures.line c.finish.ensures.status) zero

pub returns-in-Err-clause-cut : goal.returns-in-Err-clause-cut
returns-in-Err-clause-cut g c =
    let out = c.finish-in-Err.new.out in
    let read = c.in-Err.ensures.err in
    cuts-early c.args.count (g.R.Read.remaining c.args.input.now) (g.S.Sink.written c.args.out.now) (g.S.Sink.written out) (g.S.Sink.has_failed c.args.out.now) (g.S.Sink.has_failed out) read.0 c.in-Err.stop c.finish-in-Err.result read.1
    c.finish-in-Err.ensures.line c.finish-in-Err.ensures.status
