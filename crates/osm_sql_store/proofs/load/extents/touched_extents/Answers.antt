use Rattle.std.proofs.Common.{◌≡◌, map, pos, refl, ◌∙◌, ap, subst, w64, SFits, rules}
use Rattle.std.proofs.lemmas.Int.{to_z-of_z}
use Rattle.sqlite.specs.Value.{owned}
use Rattle.std.proofs.lemmas.List.Elements.{All-filter}
use Rattle.std.proofs.lemmas.Result.{MatchResult-weaker}
use Rattle.sqlite_tied.specs.Compute.{everything}
use Rattle.sqlite.specs.Held.{state}
use Rattle.sqlite.specs.declared.types.Value.TheVariants.{Int}
use Rattle.osm_rows.specs.Keeping.{extents_of, touches, IsForeign}
use Rattle.osm_rows.specs.LayoutHolding.{IsKeptExtent}
use Rattle.osm_rows.specs.Rows.{extent_columns}
use Rattle.osm_sql_store.proofs.LoadLemmas.AnswerLemmas.{asks_then}
use Rattle.osm_sql_store.proofs.LoadLemmas.Starts.{touch_from}
use Rattle.osm_rows.proofs.LoadLemmas.ExtentLaws.{extents_kept, some_apart}
use Rattle.osm_sql_store.proofs.MapLemmas.HeldTables.{has_extents}
use Rattle.osm_sql_store.proofs.MapLemmas.AfterCalls.{clean_before, asks_holds}
use Rattle.osm_sql_store.proofs.LoadLemmas.ReadLemmas.{touching_read}
use Rattle.osm_sql_store.proofs.load.extents.touched_extents.Goals as goal

pub answer-requires : goal.answer-requires
unfolding everything
answer-requires g c = refl

pub returns-clause-asks : goal.returns-clause-asks
returns-clause-asks g c =
    asks_then (state g.S.Store c.args.connection.now) (state g.S.Store c.last_start.new.connection) (state g.S.Store c.answer.new.connection) c.last_start.ensures.asks c.answer.ensures.asks

pub returns-clause-held : goal.returns-clause-held
returns-clause-held g c layout held clean holds =
    let old = state g.S.Store c.args.connection.now in
    let middle = state g.S.Store c.last_start.new.connection in
    let new = state g.S.Store c.answer.new.connection in
    let clean_middle = clean_before middle new c.answer.ensures.asks clean in
    let started = c.in_ok-start.ensures.held layout held clean_middle holds in
    let still = asks_holds layout old middle c.last_start.ensures.asks held holds clean_middle started.1 in
    let answered = c.in_ok-rows.ensures.rows clean in
    let fits : SFits w64 c.in_ok-start.start = search rules in
    let start : owned c.integer.result ≡ Int (pos started.0.off) = c.integer.ensures ∙ ap Int (to_z-of_z w64 c.in_ok-start.start fits ∙ started.0.is) in
    let shown = rw (start, c.number.ensures, c.number-2.ensures) at answered.shown in
    let read = touching_read layout middle new _ (extents_of held) (has_extents layout middle.now held still.schema still.tables) started.0.off c.args.from c.args.to shown
    ∙ ap (map extent_columns) (touch_from started.0.off c.args.from c.args.to (extents_of held) started.0.later) in
    let fit = All-filter _ IsKeptExtent (extents_of held) (extents_kept layout held holds.kept) in
    MatchResult-weaker c.read_apart.result (c.read_apart.ensures.exact _ fit (some_apart (touches c.args.from c.args.to) held holds.kept.apart) (c.deref.ensures.value ∙ read)) (λ v same. (same, answered.is_open)) (λ fault is foreign. subst IsForeign is foreign)
