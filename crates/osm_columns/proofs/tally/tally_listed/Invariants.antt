use Rattle.std.proofs.Common.{◌≡◌, ◌==◌, ◌+◌, ◌≤◌, length, map, take}
use Rattle.std.specs.List.{count_by}
use Rattle.osm_columns.specs.Values.{kind_number, refs_of_element}
use Rattle.osm_columns.specs.Lists.{joined}
use Rattle.osm_columns.proofs.tally.tally_listed.Given as goal

abbrev pub invariant-loop-element : goal.invariant-loop-element
invariant-loop-element l = record {
  nodes : l.nodes ≡ count_by (λ e. kind_number e == 0) (take l.element-index l.elements);
  ways : l.ways ≡ count_by (λ e. kind_number e == 1) (take l.element-index l.elements);
  relations : l.relations ≡ count_by (λ e. kind_number e == 2) (take l.element-index l.elements);
  few : l.nodes + l.ways + l.relations ≤ l.element-index;
  refs : l.refs ≡ length (joined (map refs_of_element (take l.element-index l.elements)));
}
