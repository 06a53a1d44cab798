-- Rows of elements, of tags and of links that belong to no blob.
use Rattle.std.specs.Prelude.{◌≡◌, ℤ, [], filter, Any}
use Rattle.sqlite_value.specs.declared.value.Value.TheVariants.{Int}
use Rattle.sqlite_value.specs.Order.{Row, column}
use Rattle.sqlite_trees.specs.Tree.{Trees, has_rowid}
use Rattle.osm_tree_audits.specs.ElementTables.{table_of}
use Rattle.osm_tree_audits.specs.declared.strays.Stray.{Stray}
use Rattle.osm_rows.specs.declared.trees.TheConstants.{BLOBS}

-- no blob is held at this offset
abbrev pub LacksBlob : Trees → ℤ → Type 0
LacksBlob db off = filter (has_rowid off) (db BLOBS) ≡ []

-- if this is the row of an offset, a blob is held there
abbrev pub HasBlob : Trees → Row → Type 0
HasBlob db row = (off : ℤ) → column row 1 ≡ Int off → ¬ (LacksBlob db off)

-- the table has a row of this offset, at which no blob is held
abbrev pub IsStrayRow : Trees → Stray → Type 0
IsStrayRow db stray = Any (λ row. column row 1 ≡ Int stray.off) (db (table_of stray.table)) × LacksBlob db stray.off
