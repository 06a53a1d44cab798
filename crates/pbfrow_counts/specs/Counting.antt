-- How many elements there are, what they have, and from when they are.
use Rattle.std.specs.Prelude.{◌≡◌, ℕ, ℤ, ◌≤ℤ◌, List, [], ◌++◌, length, flat_map, codes, Option, Some, None, option_to_list, Result, Ok, Err}
use Rattle.std.specs.List.{All, Contains, count_by, sum_by}
use Rattle.osm_value.specs.declared.element.Element.{Element}
use Rattle.osm_value.specs.declared.element.Element.TheVariants.{Node, Way, Relation}
use Rattle.osm_value.specs.Elements.{tags_of_element, info_of_element}
use Rattle.osm_rows.specs.Faults as stores
use Rattle.osm_rows.specs.Held.{Blob}
use Rattle.osm_rows.specs.Keeping.{IsForeign}
use Rattle.osm_import.specs.Step.{HasCause}
use Rattle.pbfrow_reading.specs.Checking.{capped, is_node, is_way, is_relation}
use Rattle.pbfrow_counts.specs.declared.elements.ElementCounts.{ElementCounts}
use Rattle.pbfrow_counts.specs.declared.fault.CountFault.{CountFault}
use Rattle.pbfrow_counts.specs.declared.fault.CountFault.TheVariants.{Miscounted, Store}

-- the elements of held blobs, by offset and position
abbrev pub elements_of : List (ℕ × Blob) → List Element
elements_of blobs = flat_map (λ (entry : ℕ × Blob). entry.1.elements) blobs

-- how many nodes a way has, or members a relation
abbrev pub links_in : Element → ℕ
links_in (Node node) = 0
links_in (Way way) = length way.refs
links_in (Relation relation) = length relation.members

-- the times of those elements that have one
abbrev pub times_of : List Element → List ℤ
times_of elements = flat_map (λ (element : Element). option_to_list (info_of_element element).time) elements

-- one of the times before which none is, or none where there are no times
abbrev pub IsOldest : List ℤ → Option ℤ → Type 0
IsOldest times None = times ≡ []
IsOldest times (Some time) = Contains times time × All (λ other. time ≤ℤ other) times

-- one of the times after which none is, or none where there are no times
abbrev pub IsNewest : List ℤ → Option ℤ → Type 0
IsNewest times None = times ≡ []
IsNewest times (Some time) = Contains times time × All (λ other. other ≤ℤ time) times

-- These are the counts of the elements, each of them at most 2^64 - 1, and the times of the oldest and the newest.
pub record AreCounts (elements : List Element) (counts : ElementCounts) : Type 0 where
  pub nodes : counts.nodes ≡ capped (count_by is_node elements)
  pub ways : counts.ways ≡ capped (count_by is_way elements)
  pub relations : counts.relations ≡ capped (count_by is_relation elements)
  pub tags : counts.tags ≡ capped (sum_by (λ (element : Element). length (tags_of_element element)) elements)
  pub links : counts.links ≡ capped (sum_by links_in elements)
  pub oldest : IsOldest (times_of elements) counts.oldest
  pub newest : IsNewest (times_of elements) counts.newest

-- whatever elements were counted before, now they are counted with these
abbrev pub CountsMore : ElementCounts → List Element → ElementCounts → Type 0
CountsMore old elements new = (before : List Element) → AreCounts before old → AreCounts (before ++ elements) new

-- so many elements, whichever they are, are counted now as well
abbrev pub CountsSoMany : ElementCounts → ℕ → ElementCounts → Type 0
CountsSoMany old count new = (elements : List Element) × (length elements ≡ count) × CountsMore old elements new

-- where a map is held, a read has failed: it isn't said that the tables are another store's, or that a blob has other
-- elements than its row says
abbrev pub IsOfMap : CountFault → Type 0
IsOfMap (Store fault) = ¬ (IsForeign fault)
IsOfMap (Miscounted off) = ⊥

-- a store fault has a cause
abbrev pub CountHasCause : ℕ → ℕ → CountFault → Type 0
CountHasCause before now (Store fault) = HasCause before now fault
CountHasCause before now (Miscounted off) = Unit {0}

-- a call of the store that has failed is told: another answer comes only where none has
abbrev pub CountTells : ℕ → ℕ → Result (Unit {0}) CountFault → Type 0
CountTells before now (Ok _) = now ≡ before
CountTells before now (Err (Store fault)) = Unit {0}
CountTells before now (Err (Miscounted off)) = now ≡ before

-- the number of a fault: 66, or that of the store's
abbrev pub count_number_of : CountFault → ℕ
count_number_of (Miscounted off) = 66
count_number_of (Store fault) = stores.number_of fault

-- its name
abbrev pub count_name_of : CountFault → List ℕ
count_name_of (Miscounted off) = codes "NotThisStore"
count_name_of (Store fault) = stores.name_of fault
