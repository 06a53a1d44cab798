-- The trees of a store that keeps elements in tables, as the list of a database's trees has them.
use Rattle.std.specs.Prelude.{ℕ, ◌+◌, pos, List, [], ◌∷◌, codes}
use Rattle.sqlite_value.specs.declared.value.Value.{Value}
use Rattle.sqlite_value.specs.declared.value.Value.TheVariants.{Null, Int, Text}
use Rattle.sqlite_value.specs.Order.{Row}
use Rattle.osm_rows.specs.declared.schema.sql.TheConstants.{CREATE_META, CREATE_BLOB, CREATE_ELEMENT, CREATE_TAG, CREATE_LINK, CREATE_ELEMENT_INDEX}

-- the rowid, type, name, table and SQL text, then the number of a table's shape, and no REAL columns
abbrev pub table_listing : ℕ → List ℕ → List ℕ → Row
table_listing tree name sql = Int (pos (tree + 1)) ∷ Text (codes "table") ∷ Text name ∷ Text name ∷ Text sql ∷ Int (pos 1) ∷ Int (pos 0) ∷ []

-- the same of an index whose entries ascend by their bytes; one that a primary key makes has no text
abbrev pub index_listing : ℕ → List ℕ → List ℕ → Value → Row
index_listing tree name table sql = Int (pos (tree + 1)) ∷ Text (codes "index") ∷ Text name ∷ Text table ∷ sql ∷ Int (pos 2) ∷ Int (pos 0) ∷ []

-- the whole list of a store that keeps elements in tables, in the order of its trees' numbers
abbrev pub table_listings : List Row
table_listings =
    table_listing 0 (codes "meta") CREATE_META.now
    ∷ table_listing 1 (codes "blob") CREATE_BLOB.now
    ∷ table_listing 2 (codes "element") CREATE_ELEMENT.now
    ∷ index_listing 3 (codes "sqlite_autoindex_element_1") (codes "element") Null
    ∷ table_listing 4 (codes "tag") CREATE_TAG.now
    ∷ index_listing 5 (codes "sqlite_autoindex_tag_1") (codes "tag") Null
    ∷ table_listing 6 (codes "link") CREATE_LINK.now
    ∷ index_listing 7 (codes "sqlite_autoindex_link_1") (codes "link") Null
    ∷ index_listing 8 (codes "element_by_id") (codes "element") (Text CREATE_ELEMENT_INDEX.now)
    ∷ []
