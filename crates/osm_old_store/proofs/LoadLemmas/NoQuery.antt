-- What is left where nothing is asked.
use Rattle.std.proofs.Common.{refl}
use Rattle.sqlite.specs.State.{State}
use Rattle.osm_sql_store.specs.Load.Asking.{JustAsks}
use Rattle.osm_sql_store.proofs.PutLemmas.RowSteps.{survives_nothing}

-- nothing is asked
pub asks_nothing : (s : State) → JustAsks s s
asks_nothing s = record {
  keeps = λ _. record { was_open = λ up. up; committed = λ _. refl; now = λ _ _. refl };
  mode = λ outside. outside;
  crash = survives_nothing s;
}
