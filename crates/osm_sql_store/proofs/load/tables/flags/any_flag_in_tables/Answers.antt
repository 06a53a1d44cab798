use Rattle.std.proofs.Common.{◌≡◌, ◌==◌, refl, not, ap, ◌∙◌, length, vec_len, rules}
use Rattle.sqlite_tied.specs.Compute.{everything}
use Rattle.sqlite.specs.Held.{state}
use Rattle.osm_rows.specs.Rows.{placed_in}
use Rattle.osm_sql_store.proofs.MapLemmas.HeldTables.{has_tables}
use Rattle.osm_sql_store.proofs.LoadLemmas.FlagReads.{flag_read}
use Rattle.osm_sql_store.proofs.load.tables.flags.any_flag_in_tables.Goals as goal

pub answer-requires : goal.answer-requires
unfolding everything
answer-requires g c = refl

pub returns-clause-held : goal.returns-clause-held
returns-clause-held g c held clean holds =
    let old = state g.S.Store c.args.connection.now in
    let answered = c.in_ok-rows.ensures.rows clean in
    let read = flag_read old (state g.S.Store c.answer.new.connection) _ (placed_in held) (has_tables old.now held holds.schema holds.tables) answered.shown in
    let many : vec_len c.in_ok-rows.rows ≡ length c.in_ok-rows.rows.items = search rules in
    (ap not c.is_empty.ensures ∙ ap (λ n. not (n == 0)) many ∙ read, answered.is_open)
