use Rattle.std.proofs.Common.{arith, ap, ◌∙◌, pos, w64}
use Rattle.std.proofs.lemmas.Int.{to_z-of_z, to_z_pos}
use Rattle.std.proofs.lemmas.Result.{on_ok_weaker}
use Rattle.sqlite.specs.declared.types.Value.TheVariants.{Int}
use Rattle.sqlite.specs.Held.{state}
use Rattle.osm_rows.specs.Rows.{element_code}
use Rattle.osm_old_store.proofs.PutLemmas.BodySteps.{adds_body}
use Rattle.osm_old_store.proofs.put.bodies.add_body.Goals as goal

pub returns-clause-added : goal.returns-clause-added
returns-clause-added g c clean over =
    let off = c.params-to_sql.ensures ∙ ap Int (to_z_pos w64 c.args.off (omega (arith, c.requires.bounds.0))) in
    let position = c.params-to_sql-2.ensures ∙ ap Int (to_z_pos w64 c.args.position (omega (arith, c.requires.bounds.1))) in
    let id = c.params-to_sql-4.ensures ∙ ap Int (to_z-of_z w64 c.args.id c.ranges.id) in
    let old = state g.S.Store c.args.transaction.now.conn.now in
    let new = state g.S.Store c.execute.new.transaction.conn.now in
    on_ok_weaker c.execute.result
    (λ ran. adds_body old new (pos c.args.off) (pos c.args.position) (pos (element_code c.args.kind)) c.args.id c.args.block.now ran.0 over (rw (off, position, c.params-to_sql-3.ensures, id, c.params-to_sql-5.ensures, c.element_code-code.ensures) at ran.1))
    (c.execute.ensures.ran clean over.inside)
