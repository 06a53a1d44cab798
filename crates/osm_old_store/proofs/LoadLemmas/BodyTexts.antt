-- What the queries mean on the table of bodies.
use Rattle.std.proofs.Common.{◌≡◌, ℕ, List, [], ◌∷◌, codes, false, refl}
use Rattle.sqlite.specs.Term.{Term, col}
use Rattle.sqlite.specs.Command.TheVariants.{Select}
use Rattle.sqlite_sql.specs.declared.ops.CompareOp.TheVariants.{Eq}
use Rattle.sqlite_tied.specs.Compute.{everything}
use Rattle.sqlite.specs.Listing.{understood, reads_listing}
use Rattle.sqlite.proofs.Callers.{IsPlain, command_of}
use Rattle.osm_rows.specs.Schema.Bodies.{body_schema}
use Rattle.osm_sql_store.proofs.LoadLemmas.OneTable.{select}
use Rattle.osm_sql_store.proofs.LoadLemmas.SharedTexts.{compares}
use Rattle.osm_old_store.specs.declared.schema.sql.TheConstants.{SELECT_BODIES, FIND_BODIES}

abbrev pub body_shown : List Term
body_shown = col 1 1 ∷ col 1 2 ∷ col 1 3 ∷ col 1 4 ∷ col 1 5 ∷ []

abbrev pub body_names : List (List ℕ)
body_names = codes "off" ∷ codes "pos" ∷ codes "kind" ∷ codes "id" ∷ codes "data" ∷ []

abbrev pub body_order : List Term
body_order = col 1 1 ∷ col 1 2 ∷ []

pub rows_are : (command_of (understood body_schema SELECT_BODIES.now) ≡ Select (record { lets = []; body = select 2 (compares Eq (col 1 1) (col 0 0) ∷ []) body_shown body_order }) body_names) × (reads_listing body_schema SELECT_BODIES.now ≡ false) × IsPlain (understood body_schema SELECT_BODIES.now)
unfolding understood everything
rows_are = (refl, refl, (refl, refl))

pub element_is : (command_of (understood body_schema FIND_BODIES.now) ≡ Select (record { lets = []; body = select 2 (compares Eq (col 1 3) (col 0 0) ∷ compares Eq (col 1 4) (col 0 1) ∷ []) body_shown body_order }) body_names) × (reads_listing body_schema FIND_BODIES.now ≡ false) × IsPlain (understood body_schema FIND_BODIES.now)
unfolding understood everything
element_is = (refl, refl, (refl, refl))
