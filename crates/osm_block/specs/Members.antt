-- The members that three arrays stand to: ids, indexes of roles, and kinds.
use Rattle.std.specs.Prelude.{◌≡◌, List, map, ℤ, Some}
use Rattle.std.specs.List.{AllByRecursion}
use Rattle.osm_value.specs.Value.{Text, MemberValue}
use Rattle.osm_value.specs.Ranges.{IsMember}
use Rattle.osm_block.specs.Block.{text_at, kind}

pub record MembersAt (table : List Text) (members : List MemberValue) (ids roles types : List ℤ) : Type 0 where
  pub ids_are : map (λ x. x.id) members ≡ ids
  pub roles_are : map (λ x. Some x.role) members ≡ map (text_at table) roles
  pub types_are : map (λ x. Some x.kind) members ≡ map kind types
  pub in_range : AllByRecursion IsMember members
