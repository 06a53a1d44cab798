use Rattle.std.proofs.Common.{arith, ap, ◌∙◌, pos, w64}
use Rattle.std.proofs.lemmas.Int.{to_z_pos}
use Rattle.std.proofs.lemmas.Result.{on_ok_weaker}
use Rattle.sqlite.specs.declared.types.Value.TheVariants.{Int}
use Rattle.sqlite.specs.Held.{state}
use Rattle.osm_rows.specs.Rows.{blob_code}
use Rattle.osm_sql_store.proofs.PutLemmas.RowSteps.{adds_extent}
use Rattle.osm_sql_store.proofs.put.transaction.add_extent.Goals as goal

pub returns-clause-added : goal.returns-clause-added
returns-clause-added g c clean layout over =
    let extent = c.args.extent.now in
    let off = c.params-to_sql.ensures ∙ ap Int (to_z_pos w64 extent.off (omega (arith, c.requires.bounds.0))) in
    let fin = c.params-to_sql-2.ensures ∙ ap Int (to_z_pos w64 extent.fin (omega (arith, c.requires.bounds.1))) in
    let n = c.params-to_sql-5.ensures ∙ ap Int (to_z_pos w64 extent.n (omega (arith, c.requires.bounds.2))) in
    let old = state g.S.Store c.args.transaction.now.conn.now in
    let new = state g.S.Store c.execute.new.transaction.conn.now in
    on_ok_weaker c.execute.result
    (λ ran. adds_extent layout old new (pos extent.off) (pos extent.fin) extent.digest (pos (blob_code extent.kind)) (pos extent.n) ran.0 over (rw (off, fin, c.params-to_sql-3.ensures, c.params-to_sql-4.ensures, n, c.as_slice.ensures, c.blob_code-kind.ensures) at ran.1))
    (c.execute.ensures.ran clean over.inside)

pub returns-clause-opened : goal.returns-clause-opened
returns-clause-opened g c clean = on_ok_weaker c.execute.result (λ ran. ran.1.1.was_open) (c.execute.ensures.ran clean c.requires.inside)
