use Rattle.std.proofs.Common.{arith, refl, ext_get_or}
use Rattle.std.proofs.lemmas.List.{length-map}
use Rattle.sqlite.specs.declared.types.Value.TheVariants.{Null}
use Rattle.sqlite.specs.Values.{bound, bound_value}
use Rattle.sqlite.specs.Value.{owned}
use Rattle.osm_sql_store.proofs.audit.same.has_values.Goals as goal

pub returns : goal.returns
returns c = (λ _. ext_get_or Null c.args.row.now (bound c.args.values.now) (omega (arith, length-map c.args.values.now (λ v. bound_value (owned v)))) (λ k h. c.loop-at.invariant k (omega arith)), λ _. refl)
