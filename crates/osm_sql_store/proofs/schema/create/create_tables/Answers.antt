use Rattle.std.proofs.Common.{◌≡◌, ◌∙◌, IsTrue, ap, rules}
use Rattle.sqlite.specs.Effect.{Database}
use Rattle.sqlite.specs.Held.{state}
use Rattle.osm_sql_store.proofs.schema.create.create_tables.Goals as goal

pub returns-clause-made : goal.returns-clause-made
returns-clause-made g c clean =
    let end = state g.S.Store c.connection-2-1.given.0 in
    let there : IsTrue end.is_open = search rules in
    let same : end.committed ≡ end.now = search rules in
    record {
      is_open = there;
      schema_is = search rules;
      empty = search rules;
      committed = same;
      settled = λ db left. g.met.S.Store.settled c.connection-2-1.given.0.store db there left ∙ ap (λ (d : Database). d.trees) same;
    }
