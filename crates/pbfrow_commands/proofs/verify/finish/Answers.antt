use Rattle.std.proofs.Common.{◌++◌, ℕ, List, length, sym, subst}
use Rattle.osm_rows.specs.Faults.{name_of}
use Rattle.osm_rows.specs.declared.keeper.Extent.{Extent}
use Rattle.osm_reading.specs.Lines.{fault_line}
use Rattle.osm_value.specs.Sink.{Wrote}
use Rattle.pbfrow_commands.specs.Verifying.{close_text, counts_line, counts_of, extra_lines, header_line}
use Rattle.pbfrow_commands.specs.declared.verify.Close.{Close}
use Rattle.pbfrow_commands.proofs.verify.finish.Goals as goal

pub returns-in-Whole-clause-line : goal.returns-in-Whole-clause-line
returns-in-Whole-clause-line g c = λ blobs is start before h.
    let out = c.finish_whole.new.out in
    subst (λ (e : Close). Wrote start (before ++ close_text e blobs) (g.S.Sink.written out) (g.S.Sink.has_failed out)) (sym c.in-Whole.is)
    (subst (λ (es : List Extent). Wrote start (before ++ (header_line blobs ++ extra_lines es ++ counts_line (counts_of blobs (length es)))) (g.S.Sink.written out) (g.S.Sink.has_failed out))
    c.deref.ensures.value (c.finish_whole.ensures.line blobs is start before h))

pub returns-in-Early-clause-line : goal.returns-in-Early-clause-line
returns-in-Early-clause-line g c = λ blobs is start before h.
    let out = c.finish_early.new.out in
    subst (λ (e : Close). Wrote start (before ++ close_text e blobs) (g.S.Sink.written out) (g.S.Sink.has_failed out)) (sym c.in-Early.is) (c.finish_early.ensures blobs is start before h)

pub returns-in-Broken-clause-line : goal.returns-in-Broken-clause-line
returns-in-Broken-clause-line g c = λ blobs is start before h.
    let out = c.put_fault_at.new.out in
    let fault = c.in-Broken.fault in
    let at = c.in-Broken.at in
    subst (λ (e : Close). Wrote start (before ++ close_text e blobs) (g.S.Sink.written out) (g.S.Sink.has_failed out)) (sym c.in-Broken.is)
    (subst (λ n. Wrote start (before ++ fault_line n (name_of fault) at) (g.S.Sink.written out) (g.S.Sink.has_failed out)) c.number.ensures
    (subst (λ (name : List ℕ). Wrote start (before ++ fault_line c.number.result name at) (g.S.Sink.written out) (g.S.Sink.has_failed out)) c.name.ensures (c.put_fault_at.ensures start before h)))
