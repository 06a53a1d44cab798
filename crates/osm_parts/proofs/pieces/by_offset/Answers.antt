use Rattle.std.proofs.Common.{rules}
use Rattle.std.proofs.lemmas.List.Sorted.{IsNonDecreasingBy-from_sort_by_key}
use Rattle.osm_parts.specs.Pieces.{offset_of}
use Rattle.osm_parts.proofs.pieces.by_offset.Goals as goal

pub returns-clause-sorted : goal.returns-clause-sorted
returns-clause-sorted c = IsNonDecreasingBy-from_sort_by_key offset_of _ c.in_ok-sort_by_key.ensures.sorted (λ a r q k. search rules)
