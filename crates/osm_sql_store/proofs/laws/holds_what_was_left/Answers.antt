use Rattle.sqlite.specs.Held.{state}
use Rattle.sqlite_catalog.proofs.ReadLemmas.{lists_once}
use Rattle.osm_rows.proofs.MapLemmas.OneMap.{one_map}
use Rattle.osm_sql_store.proofs.laws.holds_what_was_left.Goals as goal

pub returns : goal.returns
returns g c whole may clean opens live =
    let found = whole (state g.S.Store c.args.connection.now).now.trees may in
    let left = found.0 in
    let kept = found.1 in
    let tables = found.2 in (
      left,
      record { kept = kept; trees = (state g.S.Store c.args.connection.now).now.trees; left = may; tables = tables },
      record {
        clean = clean;
        opened = opens.is_open;
        settled = opens.clean;
        schema = lists_once _ _ _ (live opens.is_open).0.lists tables.sound.lists;
        kept = kept;
        tables = tables;
        only = λ other kept_too tables_too. one_map g.L.StoreLayout.LAYOUT other left (state g.S.Store c.args.connection.now).now.trees kept_too kept tables_too tables;
      },
    )
