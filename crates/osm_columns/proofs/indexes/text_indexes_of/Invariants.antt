use Rattle.std.proofs.Common.{List, map, take, Some}
use Rattle.osm_value.specs.declared.element.Element.{Element}
use Rattle.osm_block.specs.Block.{Joins}
use Rattle.osm_block.specs.Fields.{context_of}
use Rattle.osm_block.specs.Groups.{GroupHolds}
use Rattle.osm_columns.specs.Texts.{NameAll}
use Rattle.osm_columns.specs.Indexes.{AreIndexes, texts_in}
use Rattle.osm_columns.proofs.indexes.text_indexes_of.Given as goal

abbrev pub invariant-loop-group : goal.invariant-loop-group
invariant-loop-group l = record {
  table : NameAll (texts_in l.indexes.dictionary) l.table.items (map (λ t. Some t) (map (λ t. t.now) l.groups.scale.table.items));
  indexes : (es : List Element) → Joins (GroupHolds (context_of l.groups.scale)) es (take l.group-index l.groups.groups.items) → AreIndexes l.indexes es;
}
