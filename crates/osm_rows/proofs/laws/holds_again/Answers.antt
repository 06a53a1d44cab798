use Rattle.sqlite.specs.Held.{state}
use Rattle.sqlite_catalog.proofs.ReadLemmas.{lists_once}
use Rattle.osm_rows.proofs.MapLemmas.OneMap.{one_map}
use Rattle.osm_rows.proofs.laws.holds_again.Goals as goal

pub returns : goal.returns
returns g c clean opens live layout held kept tables = record {
  clean = clean;
  opened = opens.is_open;
  settled = opens.clean;
  schema = lists_once _ _ _ (live opens.is_open).0.lists tables.sound.lists;
  kept = kept;
  tables = tables;
  only = λ other kept_too tables_too. one_map layout other held (state g.S.Store c.args.connection.now).now.trees kept_too kept tables_too tables;
}
