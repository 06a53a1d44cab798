-- What the queries mean on the tables that all layouts have.
use Rattle.std.proofs.Common.{◌≡◌, ℕ, List, [], ◌∷◌, codes, pos, true, false, refl}
use Rattle.sqlite.specs.declared.types.Value.TheVariants.{Int}
use Rattle.sqlite.specs.Term.{Term, col, lit, op2}
use Rattle.sqlite_value.specs.declared.keys.Key.{Key}
use Rattle.sqlite.specs.Collation.TheVariants.{Binary}
use Rattle.sqlite.specs.Command.TheVariants.{Select}
use Rattle.sqlite_sql.specs.declared.ops.CompareOp.{CompareOp}
use Rattle.sqlite_sql.specs.declared.ops.CompareOp.TheVariants.{Lt, Le, Gt, Ge}
use Rattle.sqlite_sql.specs.declared.ops.BinaryOp.TheVariants.{Compare}
use Rattle.sqlite_tied.specs.Compute.{everything}
use Rattle.sqlite.specs.Listing.{understood, reads_listing}
use Rattle.sqlite.proofs.Callers.{IsPlain, command_of}
use Rattle.osm_rows.specs.declared.schema.layout.Layout.{Layout}
use Rattle.osm_rows.specs.declared.schema.layout.Layout.TheVariants.{Bodies, Tables}
use Rattle.osm_rows.specs.Schema.Layouts.{schema_of}
use Rattle.osm_sql_store.proofs.LoadLemmas.OneTable.{select, select_some}
use Rattle.osm_sql_store.specs.declared.schema.sql.TheConstants.{SELECT_VERSION, SELECT_EXTENTS, SELECT_LAST_START, SELECT_TOUCHING}

abbrev pub compares : CompareOp → Term → Term → Term
compares op a b = op2 (Compare op Binary) a b

pub version_is : (layout : Layout) → (command_of (understood (schema_of layout) SELECT_VERSION.now) ≡ Select (record { lets = []; body = select 0 [] (col 1 0 ∷ []) [] }) (codes "version" ∷ [])) × (reads_listing (schema_of layout) SELECT_VERSION.now ≡ false) × IsPlain (understood (schema_of layout) SELECT_VERSION.now)
unfolding understood everything
version_is Bodies = (refl, refl, (refl, refl))
version_is Tables = (refl, refl, (refl, refl))

abbrev pub extent_columns : List Term
extent_columns = col 1 0 ∷ col 1 2 ∷ col 1 3 ∷ col 1 4 ∷ col 1 5 ∷ []

abbrev pub extent_names : List (List ℕ)
extent_names = codes "off" ∷ codes "fin" ∷ codes "digest" ∷ codes "kind" ∷ codes "n" ∷ []

pub extents_is : (layout : Layout) → (command_of (understood (schema_of layout) SELECT_EXTENTS.now) ≡ Select (record { lets = []; body = select 1 [] extent_columns (col 1 0 ∷ []) }) extent_names) × (reads_listing (schema_of layout) SELECT_EXTENTS.now ≡ false) × IsPlain (understood (schema_of layout) SELECT_EXTENTS.now)
unfolding understood everything
extents_is Bodies = (refl, refl, (refl, refl))
extents_is Tables = (refl, refl, (refl, refl))

pub touching_is : (layout : Layout) → (command_of (understood (schema_of layout) SELECT_TOUCHING.now) ≡ Select (record { lets = []; body = select 1 (compares Ge (col 1 0) (col 0 0) ∷ compares Lt (col 1 0) (col 0 1) ∷ compares Gt (col 1 2) (col 0 2) ∷ []) extent_columns (col 1 0 ∷ []) }) extent_names) × (reads_listing (schema_of layout) SELECT_TOUCHING.now ≡ false) × IsPlain (understood (schema_of layout) SELECT_TOUCHING.now)
unfolding understood everything
touching_is Bodies = (refl, refl, (refl, refl))
touching_is Tables = (refl, refl, (refl, refl))

abbrev pub latest_first : List (Term × Key)
latest_first = (col 1 0, record { collation = Binary; descending = true }) ∷ []

pub last_start_is : (layout : Layout) → (command_of (understood (schema_of layout) SELECT_LAST_START.now) ≡ Select (record { lets = []; body = select_some 1 (compares Le (col 1 0) (col 0 0) ∷ []) (col 1 0 ∷ []) latest_first (lit (Int (pos 1))) }) (codes "off" ∷ [])) × (reads_listing (schema_of layout) SELECT_LAST_START.now ≡ false) × IsPlain (understood (schema_of layout) SELECT_LAST_START.now)
unfolding understood everything
last_start_is Bodies = (refl, refl, (refl, refl))
last_start_is Tables = (refl, refl, (refl, refl))
