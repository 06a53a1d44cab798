use Rattle.osm_old_store.proofs.MapLemmas.EarlierLaws.{kept_now, tables_now}
use Rattle.osm_old_store.proofs.laws.earlier_rows_hold_the_same.Goals as goal

pub returns : goal.returns
returns c = record { kept = kept_now; same = tables_now }
