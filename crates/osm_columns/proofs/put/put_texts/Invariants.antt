use Rattle.std.proofs.Common.{◌≡◌, length, map, take}
use Rattle.osm_columns.specs.Lists.{joined, ends_of}
use Rattle.osm_columns.specs.Columns.{over}
use Rattle.osm_columns.proofs.put.put_texts.Given as goal

abbrev pub invariant-loop-text : goal.invariant-loop-text
invariant-loop-text l = record {
  at : l.at ≡ l.text-index;
  end : l.end ≡ length (joined (map (λ t. t.now) (take l.text-index l.texts)));
  ends_room : length l.column.ends.now ≡ length l.fn.column.ends.now;
  bytes_room : length l.column.bytes.now ≡ length l.fn.column.bytes.now;
  ends : l.column.ends.now ≡ over (ends_of (map (λ t. t.now) (take l.text-index l.texts))) l.fn.column.ends.now;
  bytes : l.column.bytes.now ≡ over (joined (map (λ t. t.now) (take l.text-index l.texts))) l.fn.column.bytes.now;
}
