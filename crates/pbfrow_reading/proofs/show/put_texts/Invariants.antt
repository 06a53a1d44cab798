use Rattle.std.proofs.Common.{◌≡◌, List, ◌++◌}
use Rattle.std.specs.List.{flat_map}
use Rattle.osm_value.specs.Sink.{Writes}
use Rattle.osm_value.specs.Value.{Text}
use Rattle.osm_block.specs.HeaderTexts.{texts_left}
use Rattle.pbfrow_reading.specs.Showing.{text_line}
use Rattle.pbfrow_reading.proofs.show.put_texts.Given as goal

abbrev pub invariant-loop-text : goal.invariant-loop-text
invariant-loop-text g l = record {
  can : (goal.iterator-loop-text g).can_next l.text-iterator;
  ends : (goal.iterator-loop-text g).is_finite l.text-iterator;
  so_far : (done : List Text) × (texts_left l.fn.texts ≡ done ++ texts_left l.text-iterator)
      × Writes (g.S.Sink.written l.fn.out) (g.S.Sink.has_failed l.fn.out) (g.S.Sink.written l.out) (g.S.Sink.has_failed l.out) (flat_map (text_line l.label) done);
}
