use Rattle.osm_value.proofs.SinkLemmas.{Wrote-text}
use Rattle.pbfrow_reading.proofs.ShowLemmas.{header_parts}
use Rattle.pbfrow_reading.proofs.show.put_header.Goals as goal

pub returns : goal.returns
returns g c = λ start before h.
    Wrote-text start _ _ _ _
    (header_parts before c.args.header.now _ _ _ _ _ _ _ _ c.bbox.ensures c.required.ensures c.optional.ensures c.program.ensures c.source.ensures c.timestamp.ensures c.sequence.ensures c.url.ensures)
    (c.put_optional_text-3.ensures start _
    (c.put_optional_number-2.ensures start _
    (c.put_optional_number.ensures start _
    (c.put_optional_text-2.ensures start _ (c.put_optional_text.ensures start _ (c.put_texts-2.ensures start _ (c.put_texts.ensures start _ (c.put_box.ensures start before h))))))))
