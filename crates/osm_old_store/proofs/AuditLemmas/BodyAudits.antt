-- What the queries of an audit say of the table of bodies, whatever rows it has.
use Rattle.std.proofs.Common.{◌≡◌, ℕ, pos, false, List, [], ◌∷◌, map, length, codes, refl}
use Rattle.std.specs.Prelude.{◌↔◌}
use Rattle.sqlite.specs.declared.types.Value.TheVariants.{Null, Int}
use Rattle.sqlite.specs.Command.TheVariants.{Select}
use Rattle.sqlite.specs.Order.{Row}
use Rattle.sqlite.specs.Program.{overlay}
use Rattle.sqlite.specs.State.{State}
use Rattle.sqlite.specs.Term.{col}
use Rattle.sqlite.specs.Listing.{understood, reads_listing}
use Rattle.sqlite.proofs.Callers.{reads_as, IsPlain, command_of}
use Rattle.sqlite_sql.specs.declared.ops.CompareOp.TheVariants.{Eq}
use Rattle.sqlite_tied.specs.Compute.{everything}
use Rattle.sqlite_trees.proofs.ListLemmas.{ascending_weaker}
use Rattle.osm_value.specs.declared.element.Element.{Element}
use Rattle.osm_rows.specs.Audit.{is_at, HasAt, seen_bodies}
use Rattle.osm_rows.specs.Rows.{body_row, placed}
use Rattle.osm_rows.specs.Schema.Bodies.{body_schema}
use Rattle.osm_sql_store.specs.Load.Asking.{IsAnswered}
use Rattle.osm_sql_store.proofs.AuditLemmas.AtOffset.{exactly}
use Rattle.osm_sql_store.proofs.AuditLemmas.BlobReads.{placed_ascend}
use Rattle.osm_sql_store.proofs.AuditLemmas.CountReads.{counts, counted, counts_shown}
use Rattle.osm_sql_store.proofs.LoadLemmas.ReadLemmas.{alone, in_order}
use Rattle.osm_sql_store.proofs.LoadLemmas.SharedTexts.{compares}
use Rattle.osm_old_store.specs.declared.schema.sql.TheConstants.{COUNT_BODIES, SELECT_BODIES}
use Rattle.osm_old_store.proofs.LoadLemmas.BodyReads.{body_output}
use Rattle.osm_old_store.proofs.LoadLemmas.BodyTexts.{body_shown, body_order, rows_are}

-- the answer is the rows of the elements where these are at their offset, and no others
pub bodies_told : (old new : State) (rows : List Row) (off : ℕ) (es : List Element) → old.now.schema ≡ body_schema → IsAnswered SELECT_BODIES.now (Int (pos off) ∷ []) old new rows
    → (rows ≡ map body_row (placed off 0 es)) ↔ HasAt off (map body_row (placed off 0 es)) (seen_bodies old.now.trees)
bodies_told old new rows off es schema answered =
    let params = Int (pos off) ∷ [] in
    let read = reads_as SELECT_BODIES.now params old new body_schema schema _ rows_are.0 rows_are.2 rows_are.1 rows answered.shown in
    exactly 2 (compares Eq (col 1 1) (col 0 0) ∷ []) body_shown body_order (overlay old.now.trees []) params rows (1 ∷ 2 ∷ 3 ∷ 4 ∷ 5 ∷ [])
    (is_at off) (λ r. alone _) body_output (λ r. refl) (λ r. refl) (read.answer Null) body_row (placed off 0 es) (ascending_weaker _ _ in_order (placed off 0 es) (placed_ascend off es)) (λ x. refl)

-- the statement counts the rows of the table
count_is : (command_of (understood body_schema COUNT_BODIES.now) ≡ Select (record { lets = []; body = counts 2 }) (codes "count(*)" ∷ [])) × (reads_listing body_schema COUNT_BODIES.now ≡ false) × IsPlain (understood body_schema COUNT_BODIES.now)
unfolding understood everything
count_is = (refl, refl, (refl, refl))

pub bodies_counted : (old new : State) (rows : List Row) → old.now.schema ≡ body_schema → IsAnswered COUNT_BODIES.now [] old new rows → rows ≡ counted (length (old.now.trees 2)) ∷ []
bodies_counted old new rows schema answered =
    let read = reads_as COUNT_BODIES.now [] old new body_schema schema _ count_is.0 count_is.2 count_is.1 rows answered.shown in
    counts_shown 2 (overlay old.now.trees []) rows (read.answer Null)
