use Rattle.std.proofs.Common.{◌≡◌, ◌++◌, ℤ, Option, drop, map}
use Rattle.std.specs.List.{flat_map, filter_map}
use Rattle.pbf_wire.specs.Write.{shortest, zigzag}
use Rattle.osm_value.specs.Ranges.{IsWide}
use Rattle.osm_write.specs.Arrays.{AnswerEach}
use Rattle.osm_block.specs.Differences.{differences, differences_from}
use Rattle.osm_write.proofs.append.append_deltas.Given as goal

abbrev pub invariant-loop-item : goal.invariant-loop-item
invariant-loop-item g l = record {
  spelled : (number : g.row.T.Denot → Option ℤ) → AnswerEach g.F.Fn l.number_of (λ x r. r ≡ number x) l.items
      → l.array.items ++ flat_map shortest (map zigzag (differences_from l.before (filter_map number (drop l.item-index l.items)))) ≡ flat_map shortest (map zigzag (differences (filter_map number l.items)));
  wide : IsWide l.before;
}
