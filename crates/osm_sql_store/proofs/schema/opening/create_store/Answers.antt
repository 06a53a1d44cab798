use Rattle.std.proofs.Common.{sym, inl, inr}
use Rattle.osm_rows.proofs.MapLemmas.OneMore.{nothing_kept}
use Rattle.osm_sql_store.proofs.MapLemmas.AfterCalls.{hold_nothing, nothing_else}
use Rattle.osm_sql_store.proofs.schema.opening.create_store.Goals as goal

pub returns-in-Ok-clause-empty : goal.returns-in-Ok-clause-empty
returns-in-Ok-clause-empty g c clean =
    let made = c.in-Ok.ensures.made clean in
    record {
      clean = clean;
      opened = made.is_open;
      settled = sym made.committed;
      schema = made.schema_is;
      kept = nothing_kept g.L.StoreLayout.LAYOUT;
      tables = hold_nothing g.L.StoreLayout.LAYOUT _ made.empty;
      only = nothing_else g.L.StoreLayout.LAYOUT _ made.empty;
    }

pub returns-in-Err-clause-crash : goal.returns-in-Err-clause-crash
returns-in-Err-clause-crash g c clean db left = elim (c.create_tables.ensures.crash.crash clean db left) [ inl before ↦ inl before | inr made ↦ inr (hold_nothing g.L.StoreLayout.LAYOUT db made) ]
