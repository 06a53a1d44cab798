use Rattle.std.proofs.Common.{◌++◌, List, Option, sym, ap, subst}
use Rattle.std.specs.List.{flat_map}
use Rattle.osm_value.specs.Line.{line}
use Rattle.osm_value.specs.declared.element.Element.{Element}
use Rattle.osm_value.specs.Sink.{Wrote}
use Rattle.osm_value.proofs.SinkLemmas.{Wrote-text}
use Rattle.osm_block.specs.HeaderBlock.{HeaderValue}
use Rattle.pbfrow_reading.specs.Showing.{content_lines}
use Rattle.pbfrow_reading.proofs.show.put_content.Goals as goal

pub returns-in-Some : goal.returns-in-Some
returns-in-Some g c = λ start before h.
    let out = c.put_header.new.out in
    subst (λ (header : Option HeaderValue). Wrote start (before ++ content_lines header c.args.good.now.elements.items) (g.S.Sink.written out) (g.S.Sink.has_failed out)) (sym c.in-Some.is) (c.put_header.ensures start before h)

pub returns-in-None : goal.returns-in-None
returns-in-None g c = λ start before h.
    let out = c.put_elements.new.out in
    subst (λ (header : Option HeaderValue). Wrote start (before ++ content_lines header c.args.good.now.elements.items) (g.S.Sink.written out) (g.S.Sink.has_failed out)) (sym c.in-None.is)
    (Wrote-text start _ _ _ _ (ap (λ (es : List Element). before ++ flat_map line es) c.deref.ensures.value) (c.put_elements.ensures start before h))
