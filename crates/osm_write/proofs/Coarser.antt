-- The scale of a block of one element, beside that of a block which begins with it: the same indexes for its texts, and granularities
-- that are the same or greater.
use Rattle.std.proofs.Common.{◌≡◌, ◌⊎◌}
use Rattle.std.specs.List.{AllByRecursion}
use Rattle.osm_value.specs.declared.element.Element.{Element}
use Rattle.osm_write.specs.Canon.{Scale, index_of, texts_of}

pub record Coarser (e : Element) (one all : Scale) : Type 0 where
  pub same_index : AllByRecursion (λ t. index_of one t ≡ index_of all t) (texts_of e)
  pub coordinates : (one.granularity ≡ all.granularity) ⊎ ((one.granularity ≡ 100) × (all.granularity ≡ 1))
  pub times : (one.date_granularity ≡ all.date_granularity) ⊎ ((one.date_granularity ≡ 1000) × (all.date_granularity ≡ 1))
