-- How many elements there are, by their kinds, and how many references.
use Rattle.std.specs.Prelude.{◌≡◌, ◌==◌, ◌+◌, List, length}
use Rattle.std.specs.List.{count_by}
use Rattle.osm_value.specs.declared.element.Element.{Element}
use Rattle.osm_columns.specs.declared.tally.Tally.{Tally}
use Rattle.osm_columns.specs.Values.{kind_number}
use Rattle.osm_columns.specs.Lists.{all_refs}

pub record AreTallied (t : Tally) (es : List Element) : Type 0 where
  pub elements_are : t.elements ≡ length es
  pub nodes_are : t.nodes ≡ count_by (λ e. kind_number e == 0) es
  pub ways_are : t.ways ≡ count_by (λ e. kind_number e == 1) es
  pub relations_are : t.relations ≡ count_by (λ e. kind_number e == 2) es
  pub refs_are : t.refs ≡ length (all_refs es)

-- the sums of two
pub record Added (one other sum : Tally) : Type 0 where
  pub elements_are : sum.elements ≡ one.elements + other.elements
  pub nodes_are : sum.nodes ≡ one.nodes + other.nodes
  pub ways_are : sum.ways ≡ one.ways + other.ways
  pub relations_are : sum.relations ≡ one.relations + other.relations
  pub refs_are : sum.refs ≡ one.refs + other.refs
