use Rattle.std.proofs.Common.{◌++◌, sym, subst}
use Rattle.osm_value.specs.Sink.{Wrote}
use Rattle.pbfrow_reading.specs.Checking.{check_end}
use Rattle.pbfrow_reading.specs.declared.input.Ending.{Ending}
use Rattle.pbfrow_reading.proofs.check.finish.Goals as goal

pub returns-in-Whole-clause-line : goal.returns-in-Whole-clause-line
returns-in-Whole-clause-line g c = λ blobs is start before h.
    let out = c.finish_whole.new.out in
    subst (λ (e : Ending). Wrote start (before ++ check_end e blobs) (g.S.Sink.written out) (g.S.Sink.has_failed out)) (sym c.in-Whole.is) (c.finish_whole.ensures.line blobs is start before h)

pub returns-in-Early-clause-line : goal.returns-in-Early-clause-line
returns-in-Early-clause-line g c = λ blobs is start before h.
    let out = c.finish_early.new.out in
    subst (λ (e : Ending). Wrote start (before ++ check_end e blobs) (g.S.Sink.written out) (g.S.Sink.has_failed out)) (sym c.in-Early.is) (c.finish_early.ensures blobs is start before h)
