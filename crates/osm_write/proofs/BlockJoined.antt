-- The parts of a block, one after the other.
use Rattle.std.proofs.Common.{◌≡◌, ℕ, List, [], ◌∷◌, ◌++◌, refl}
use Rattle.std.specs.List.{flat_map}
use Rattle.osm_value.specs.declared.element.Element.{Element}
use Rattle.osm_block.specs.declared.fields.TheConstants.{BLOCK_DATE_GRANULARITY, BLOCK_GRANULARITY, BLOCK_PRIMITIVEGROUP, BLOCK_STRINGTABLE, STRINGTABLE_S}
use Rattle.osm_write.specs.Canon.{Scale, scale_of, bytes_field, group_bytes, groups_of, granularity_field, canon}

pub block_joined : (es : List Element) (s : Scale) (o0 o1 o2 o3 : List ℕ) → s ≡ scale_of es → o0 ≡ []
    → o1 ≡ o0 ++ bytes_field BLOCK_STRINGTABLE (flat_map (bytes_field STRINGTABLE_S) ([] ∷ s.texts))
    → o2 ≡ o1 ++ flat_map (λ g. bytes_field BLOCK_PRIMITIVEGROUP (group_bytes s g)) (groups_of es)
    → o3 ≡ o2 ++ granularity_field BLOCK_GRANULARITY 100 s.granularity ++ granularity_field BLOCK_DATE_GRANULARITY 1000 s.date_granularity
    → o3 ≡ canon es
unfolding canon
block_joined es s o0 o1 o2 o3 is e0 e1 e2 e3 = rw (e3, e2, e1, e0, is) refl
