use Rattle.std.proofs.Common.{arith, ap, ◌∙◌, w64}
use Rattle.std.proofs.lemmas.Int.{to_z_pos}
use Rattle.sqlite.specs.declared.types.Value.TheVariants.{Int}
use Rattle.osm_sql_store.proofs.audit.extent.is_extent.Goals as goal

pub returns : goal.returns
returns c =
    let extent = c.args.extent.now in
    let off = c.params-to_sql.ensures ∙ ap Int (to_z_pos w64 extent.off (omega (arith, c.requires.bounds.0))) in
    let fin = c.params-to_sql-2.ensures ∙ ap Int (to_z_pos w64 extent.fin (omega (arith, c.requires.bounds.1))) in
    let n = c.params-to_sql-5.ensures ∙ ap Int (to_z_pos w64 extent.n (omega (arith, c.requires.bounds.2))) in
    rw (off, fin, c.params-to_sql-3.ensures, c.params-to_sql-4.ensures, n, c.as_slice.ensures, c.blob_code-kind.ensures) at c.has_values.ensures
