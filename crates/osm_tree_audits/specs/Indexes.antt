-- When one index of a store is whole, and when those are that the user has added.
use Rattle.std.specs.Prelude.{List, [], ◌∷◌}
use Rattle.std.specs.List.{AllByRecursion}
use Rattle.sqlite_trees.specs.Tree.{Trees}
use Rattle.sqlite_sql.specs.Catalog.{IsIndexOf}
use Rattle.sqlite_schema.specs.declared.schema.Index.{Index}
use Rattle.osm_tree_audits.specs.declared.indexes.StoreIndex.{StoreIndex}
use Rattle.osm_tree_audits.specs.declared.indexes.StoreIndex.TheVariants.{ElementKey, TagKey, LinkKey, ElementById}
use Rattle.osm_rows.specs.declared.trees.TheConstants.{ELEMENTS, ELEMENT_BY_ID, ELEMENT_KEY, LINKS, LINK_KEY, TAGS, TAG_KEY}

-- the index has one entry for each row of its table, and no other
abbrev pub IsWhole : Trees → StoreIndex → Type 0
IsWhole db ElementKey = IsIndexOf (1 ∷ 2 ∷ []) (db ELEMENTS) (db ELEMENT_KEY)
IsWhole db TagKey = IsIndexOf (1 ∷ 2 ∷ 3 ∷ []) (db TAGS) (db TAG_KEY)
IsWhole db LinkKey = IsIndexOf (1 ∷ 2 ∷ 3 ∷ []) (db LINKS) (db LINK_KEY)
IsWhole db ElementById = IsIndexOf (3 ∷ 4 ∷ []) (db ELEMENTS) (db ELEMENT_BY_ID)

-- an index that the user has added has one entry for each row of its table, and no other
abbrev pub IsWholeAdded : Trees → Index → Type 0
IsWholeAdded db index = IsIndexOf index.columns (db index.table) (db index.tree)

-- each of these indexes has one entry for each row of its table, and no other
abbrev pub AreWhole : Trees → List Index → Type 0
AreWhole db indexes = AllByRecursion (IsWholeAdded db) indexes
