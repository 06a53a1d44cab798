use Rattle.std.proofs.Common.{◌∙◌}
use Rattle.std.proofs.lemmas.Result.{err_from_is_err_and}
use Rattle.sqlite.specs.State.{HasCleanDisk}
use Rattle.sqlite.specs.Held.{state}
use Rattle.osm_rows.specs.declared.schema.layout.Layout.TheVariants.{Bodies}
use Rattle.osm_sql_store.proofs.MapLemmas.AfterCalls.{clean_before, asks_holds}
use Rattle.osm_old_store.proofs.load.bodies.flags.any_flag_in_bodies.Goals as goal

pub returns-in_err-extents-clause-held : goal.returns-in_err-extents-clause-held
returns-in_err-extents-clause-held g c held clean holds =
    let p = err_from_is_err_and c.from_residual.result c.from_residual.ensures.1 in
    rw (p.1, p.2) (c.in_err-extents.ensures.held clean Bodies held holds)

pub returns-clause-held : goal.returns-clause-held
returns-clause-held g c held clean holds =
    let old = state g.S.Store c.args.connection.now in
    let now = state g.S.Store c.all_extents.new.connection in
    let next = state g.S.Store c.any_flag_among.new.connection in
    let clean_now : HasCleanDisk now = clean_before now next c.any_flag_among.ensures.asks clean in
    let extents = c.in_ok-extents.ensures.held clean_now Bodies held holds in
    c.any_flag_among.ensures.held held (c.deref.ensures.value ∙ extents.0) clean (asks_holds Bodies old now c.all_extents.ensures.asks held holds clean_now extents.1)
