use Rattle.std.proofs.Common.{◌∙◌, List, ℕ, [], sym, subst}
use Rattle.std.specs.Io.KnownBytes.{Appends}
use Rattle.osm_value.specs.Sink.{AppendsFront}
use Rattle.osm_value.proofs.SinkLemmas.{started, whole_text, front_text}
use Rattle.osm_import.proofs.PbfLemmas.{behind-nothing}
use Rattle.osm_import.proofs.export.pbf.write_payload.Goals as goal

pub returns-then-failed-clause-wrote : goal.returns-then-failed-clause-wrote
returns-then-failed-clause-wrote g c =
    subst (λ (text : List ℕ). AppendsFront (g.S.Sink.written c.args.out.now) (g.S.Sink.written c.put.new.sink) text) (c.deref.ensures.value ∙ behind-nothing _ _ _ c.new-frame.ensures.items c.in-Ok.ensures.exact)
    (front_text _ _ _ _ (sym c.if-failed.ensures) (c.put.ensures _ [] (started _ _)))

pub returns-clause-wrote : goal.returns-clause-wrote
returns-clause-wrote g c =
    subst (λ (text : List ℕ). Appends (g.S.Sink.written c.args.out.now) (g.S.Sink.written c.put.new.sink) text) (c.deref.ensures.value ∙ behind-nothing _ _ _ c.new-frame.ensures.items c.in-Ok.ensures.exact)
    (whole_text _ _ _ _ (sym c.if-failed.ensures) (c.put.ensures _ [] (started _ _)))
