use Rattle.std.proofs.Common.{◌++◌, sym, subst}
use Rattle.osm_value.specs.Sink.{Wrote}
use Rattle.pbfrow_reading.specs.Walks.{ending_line}
use Rattle.pbfrow_reading.specs.declared.input.Ending.{Ending}
use Rattle.pbfrow_reading.proofs.input.finish.Goals as goal

pub returns-in-Early-clause-line : goal.returns-in-Early-clause-line
returns-in-Early-clause-line g c = λ start before h.
    subst (λ (e : Ending). Wrote start (before ++ ending_line e) (g.S.Sink.written c.put_stop.new.out) (g.S.Sink.has_failed c.put_stop.new.out)) (sym c.in-Early.is) (c.put_stop.ensures start before h)
