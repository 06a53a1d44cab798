use Rattle.std.proofs.Common.{◌≡◌, List, map, take, All}
use Rattle.osm_value.specs.Ranges.{AreTags}
use Rattle.osm_value.specs.Value.{Text}
use Rattle.osm_rows.specs.TableRows.{Part, tag_row}
use Rattle.osm_rows.specs.Load.TableElements.{IsTagPart, item_of}
use Rattle.osm_rows.proofs.load.tables.elements.tags_of.Given as goal

abbrev pub invariant-loop-row : goal.invariant-loop-row
invariant-loop-row l = record {
  so_far : (parts : List (Part (Text × Text))) → All IsTagPart parts → l.rows ≡ map tag_row parts → map (λ t. (t.0.now, t.1.now)) l.tags.items ≡ map item_of (take l.row-index parts);
  in_range : AreTags (map (λ t. (t.0.now, t.1.now)) l.tags.items);
}
