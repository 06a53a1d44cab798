-- What a walk over the rows of a table says of those that belong to no blob.
use Rattle.std.proofs.Common.{◌≡◌, ℤ, List, ◌∷◌, ◌++◌, All, Any, Option, None, Some, MatchOption, refl, arith}
use Rattle.std.proofs.lemmas.List.Elements.{Contains-append_right}
use Rattle.sqlite_value.specs.declared.value.Value.TheVariants.{Int}
use Rattle.sqlite_value.specs.Order.{Row, column}
use Rattle.sqlite_trees.specs.Tree.{Trees}
use Rattle.osm_tree_audits.specs.ElementTables.{table_of}
use Rattle.osm_tree_audits.specs.Strays.{HasBlob, IsStrayRow, LacksBlob}
use Rattle.osm_tree_audits.specs.declared.strays.Stray.{Stray}
use Rattle.osm_tree_audits.specs.declared.tables.ElementTable.{ElementTable}
use Rattle.osm_tree_audits.specs.declared.tables.ElementTable.TheVariants.{Elements, Tags, Links}

-- the first row that is left is one of them all
pub any_next : (P : Row → Type 0) (done left : List Row) (row : Row) → P row → Any P (done ++ row ∷ left)
any_next P done left row holds =
    let there = Contains-append_right done (row ∷ left) row (0, omega arith, refl) in
    (there.0, row, there.1, there.2, holds)

-- a table has no row of this offset where no blob is held, if each of its rows has one
settled : (db : Trees) (rows : List Row) (off : ℤ) → All (HasBlob db) rows → Any (λ row. column row 1 ≡ Int off) rows → ¬ (LacksBlob db off)
settled db rows off all row lacks = all row.0 row.1 row.2 off (rw row.3 row.4) lacks

-- none is stray where each row of the three tables has a blob
none_stray : (db : Trees) → All (HasBlob db) (db 2) → All (HasBlob db) (db 4) → All (HasBlob db) (db 6) → (stray : Stray) → ¬ (IsStrayRow db stray)
none_stray db elements tags links stray is = settled db (db (table_of stray.table)) stray.off (each stray.table) is.0 is.1
  where
    each : (of : ElementTable) → All (HasBlob db) (db (table_of of))
    each Elements = elements
    each Tags = tags
    each Links = links

-- what the last table tells is told of all
pub told_last : (db : Trees) → All (HasBlob db) (db 2) → All (HasBlob db) (db 4) → (found : Option Stray) → MatchOption found (All (HasBlob db) (db 6)) (IsStrayRow db)
    → MatchOption found ((stray : Stray) → ¬ (IsStrayRow db stray)) (IsStrayRow db)
told_last db elements tags None links = none_stray db elements tags links
told_last db elements tags (Some stray) is = is
