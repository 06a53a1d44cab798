use Rattle.std.proofs.Common.{arith, ap, ◌∙◌, w64}
use Rattle.std.proofs.lemmas.Int.{to_z-of_z, to_z_pos}
use Rattle.sqlite.specs.declared.types.Value.TheVariants.{Int}
use Rattle.osm_old_store.proofs.audit.bodies.has_body.Goals as goal

pub returns : goal.returns
returns c =
    let off = c.params-to_sql.ensures ∙ ap Int (to_z_pos w64 c.args.off (omega (arith, c.requires.bounds.0))) in
    let position = c.params-to_sql-2.ensures ∙ ap Int (to_z_pos w64 c.args.position (omega (arith, c.requires.bounds.1))) in
    let id = c.params-to_sql-4.ensures ∙ ap Int (to_z-of_z w64 c.args.id c.ranges.id) in
    rw (off, position, c.params-to_sql-3.ensures, id, c.params-to_sql-5.ensures, c.element_code-code.ensures) at c.has_values.ensures
