use Rattle.std.proofs.Common.{◌≡◌}
use Rattle.std.specs.Option.{option_copied}
use Rattle.pbf_wire.specs.FieldList.{last_or}
use Rattle.pbf_wire.specs.Readings.{fields}
use Rattle.osm_block.specs.HeaderBlock.{last_text}
use Rattle.osm_block.specs.HeaderTexts.{texts_left}
use Rattle.osm_block.proofs.header.last_text.Given as goal

abbrev pub invariant-loop-text : goal.invariant-loop-text
invariant-loop-text l = record {
  can : (goal.iterator-loop-text).can_next l.text-iterator;
  ends : (goal.iterator-loop-text).is_finite l.text-iterator;
  so_far : last_or (option_copied l.last) (texts_left l.text-iterator) ≡ last_text (fields l.bytes) l.number;
}
