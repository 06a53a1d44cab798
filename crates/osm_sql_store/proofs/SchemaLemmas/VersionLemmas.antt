-- The version that a query names.
use Rattle.std.proofs.Common.{◌≡◌, ℤ, List, [], ◌∷◌, Result, Ok, Err, sym, subst, ◌∙◌}
use Rattle.std.specs.Prelude.{IfOk}
use Rattle.sqlite.specs.declared.types.Value.TheVariants.{Int}
use Rattle.sqlite.specs.Order.{Row, column}
use Rattle.sqlite.specs.State.{State}
use Rattle.osm_rows.specs.declared.fault.StoreFault.{StoreFault}
use Rattle.osm_sql_store.specs.Load.Asking.{IsAnswered, NamesVersion}
use Rattle.osm_sql_store.specs.declared.schema.sql.TheConstants.{SELECT_VERSION}

pub names_version : (old new : State) (rows : List Row) {shown : List Row} (r : Result ℤ StoreFault) → shown ≡ rows → IsAnswered SELECT_VERSION.now [] old new rows
    → IfOk r (λ version. (row : Row) × (shown ≡ row ∷ []) × (column row 0 ≡ Int version)) → IfOk r (NamesVersion old new)
names_version old new rows (Ok version) is answered h = record { row = h.0; answered = subst (IsAnswered SELECT_VERSION.now [] old new) (sym is ∙ h.1) answered; named = h.2 }
names_version old new rows (Err fault) is answered h = tt
