use Rattle.std.proofs.Common.{◌∙◌, refl, sym, arith}
use Rattle.std.proofs.lemmas.List.{get_or_default}
use Rattle.std.proofs.lemmas.Result.{err_from_is_err_and}
use Rattle.sqlite.specs.Held.{state}
use Rattle.osm_rows.specs.declared.schema.layout.Layout.TheVariants.{Bodies}
use Rattle.osm_sql_store.proofs.MapLemmas.AfterCalls.{clean_before, asks_holds}
use Rattle.osm_sql_store.proofs.LoadLemmas.AnswerLemmas.{asks_then}
use Rattle.osm_old_store.proofs.LoadLemmas.NoQuery.{asks_nothing}
use Rattle.osm_rows.proofs.LoadLemmas.FlagLaws.{flags_by_blob, next_blob, flag_behind, flag_here, no_flag_left}
use Rattle.osm_old_store.proofs.load.bodies.flags.any_flag_among.Goals as goal

pub loop-extent-init : goal.loop-extent-init
loop-extent-init g c = record { asks = asks_nothing _; read = λ clean held holds are. (holds, refl) }

pub loop-extent-preserved : goal.loop-extent-preserved
loop-extent-preserved g c =
    let old = state g.S.Store c.args.connection.now in
    let now = state g.S.Store c.loop-extent.connection in
    let next = state g.S.Store c.any_flag_at.new.connection in
    let asks = c.any_flag_at.ensures.asks in
    record {
      asks = asks_then old now next c.loop-extent.invariant.asks asks;
      read = λ clean held holds are.
          let before = c.loop-extent.invariant.read (clean_before now next asks clean) held holds are in
          let it = next_blob held c.args.extents.now c.loop-extent.extent-index _ are c.loop-extent-test.true (get_or_default c.args.extents.now c.loop-extent.extent-index _ _ c.loop-extent-test.true) in
          let found = c.in_ok-any_flag_at.ensures.held held it.blob it.found clean before.0 in (
            asks_holds Bodies now next asks held before.0 clean found.1,
            flag_behind held c.loop-extent.extent-index _ it (sym found.0 ∙ c.if-branch.false) ∙ before.1,
          );
    }

pub returns-then-branch-clause-held : goal.returns-then-branch-clause-held
returns-then-branch-clause-held g c held are clean holds =
    let now = state g.S.Store c.loop-extent.connection in
    let next = state g.S.Store c.any_flag_at.new.connection in
    let before = c.loop-extent.invariant.read (clean_before now next c.any_flag_at.ensures.asks clean) held holds are in
    let it = next_blob held c.args.extents.now c.loop-extent.extent-index _ are c.loop-extent-test.true (get_or_default c.args.extents.now c.loop-extent.extent-index _ _ c.loop-extent-test.true) in
    let found = c.in_ok-any_flag_at.ensures.held held it.blob it.found clean before.0 in
    (sym (flags_by_blob held ∙ sym before.1 ∙ flag_here held c.loop-extent.extent-index _ it (sym found.0 ∙ c.if-branch.true)), found.1)

pub returns-in_err-any_flag_at-clause-held : goal.returns-in_err-any_flag_at-clause-held
returns-in_err-any_flag_at-clause-held g c held are clean holds =
    let now = state g.S.Store c.loop-extent.connection in
    let next = state g.S.Store c.any_flag_at.new.connection in
    let p = err_from_is_err_and c.from_residual.result c.from_residual.ensures.1 in
    let before = c.loop-extent.invariant.read (clean_before now next c.any_flag_at.ensures.asks clean) held holds are in
    let it = next_blob held c.args.extents.now c.loop-extent.extent-index _ are c.loop-extent-test.true (get_or_default c.args.extents.now c.loop-extent.extent-index _ _ c.loop-extent-test.true) in
    rw (p.1, p.2) (c.in_err-any_flag_at.ensures.held held it.blob it.found clean before.0)

pub returns-clause-held : goal.returns-clause-held
returns-clause-held g c held are clean holds =
    let now = c.loop-extent.invariant.read clean held holds are in
    (sym (flags_by_blob held ∙ sym now.1 ∙ no_flag_left held c.args.extents.now c.loop-extent.extent-index are (omega arith)), now.0.opened)
