-- What a query leaves of a connection, whatever it answers.
use Rattle.std.proofs.Common.{◌≡◌, inl, inr, ℕ, List, true, true≢false, sym, subst, ◌∙◌, arith}
use Rattle.sqlite.specs.Order.{Row}
use Rattle.sqlite.specs.declared.error.Error.{Error}
use Rattle.sqlite.specs.Clock.{timed}
use Rattle.sqlite.specs.State.{State, IsUnchanged, IsRolledBack, Shown, ShowsRows, FailsToQuery, FailsToShow, IsNotRun, Survives, CommitsShowing}
use Rattle.sqlite.proofs.StateLemmas.{survives_weaker, survives_then}
use Rattle.osm_sql_store.proofs.LoadLemmas.SelectLemmas.{query_plain}
use Rattle.osm_sql_store.specs.Load.Asking.{Keeps, JustAsks, IsAnswered}
use Rattle.osm_sql_store.specs.Load.Selects.{selects}

pub unchanged_keeps : (old new : State) → IsUnchanged old new → Keeps old new
unchanged_keeps old new h = record { was_open = λ _. h.0.was_open; committed = λ _. h.0.committed_is; now = λ _ _. h.0.now_is }

rolled_keeps : (old new : State) → IsRolledBack old new → Keeps old new
rolled_keeps old new h = record { was_open = h.was_open; committed = λ up. (h.undone up).1; now = λ up settled. (h.undone up).0 ∙ sym settled }

not_run_keeps : (old new : State) (sql : List ℕ) (params : Row) (e : Error) → IsNotRun old new sql params e → Keeps old new
unfolding IsNotRun
not_run_keeps old new sql params e (inl h) = unchanged_keeps old new h.1
not_run_keeps old new sql params e (inr h) = rolled_keeps old new h.3

-- one query after another
module _ (old middle new : State) where
  keeps_then : Keeps old middle → Keeps middle new → Keeps old new
  keeps_then one two = record {
    was_open = λ up. one.was_open (two.was_open up);
    committed = λ up. two.committed up ∙ one.committed (two.was_open up);
    now = λ up settled. (let before = one.now (two.was_open up) settled in two.now up (before ∙ settled ∙ sym (one.committed (two.was_open up))) ∙ before);
  }

  pub asks_then : JustAsks old middle → JustAsks middle new → JustAsks old new
  asks_then one two = record {
    keeps = λ clean. keeps_then (one.keeps (omega (arith, two.crash.clean, clean))) (two.keeps clean);
    mode = λ outside. two.mode (one.mode outside);
    crash = survives_then old middle new (λ _. ⊥) (λ _. ⊥) (λ _. ⊥) (λ _ db none. none) (λ _ db none. none) one.crash two.crash;
  }

module _ (sql : List ℕ) (params : Row) (old new : State) (is : selects sql ≡ true) where
  pub shown_keeps : (rows : List Row) → Shown sql params old new rows → Keeps old new
  unfolding Shown
  shown_keeps rows h =
      let none = (query_plain old.now.schema sql is h.0 h.1.is).0 in
      let it = subst (ShowsRows old new sql h.0 (timed params h.0.formats h.1.now) rows) none h.2 in
      unchanged_keeps old new it.3

  pub failed_keeps : (e : Error) → FailsToQuery sql params old new e → Keeps old new
  unfolding FailsToQuery
  failed_keeps e (inl h) = not_run_keeps old new sql params e h
  failed_keeps e (inr h) =
      let none = (query_plain old.now.schema sql is h.0 h.1.is).0 in
      let it = subst (FailsToShow old new sql h.0 (timed params h.0.formats h.1.now) e) none h.2 in
      unchanged_keeps old new it.3

  -- a query commits nothing
  pub commits_nothing : Survives old new (CommitsShowing sql params old) → Survives old new (λ _. ⊥)
  unfolding CommitsShowing
  commits_nothing = survives_weaker old new _ _ (λ _ db h. let none = (query_plain old.now.schema sql is h.0 h.1.is).0 in absurd (true≢false (sym (rw none at h.2))))

  -- a query that answers found the connection open
  pub answered : (rows : List Row) → Shown sql params old new rows → IsAnswered sql params old new rows
  unfolding Shown
  answered rows h =
      let none = (query_plain old.now.schema sql is h.0 h.1.is).0 in
      let it = subst (ShowsRows old new sql h.0 (timed params h.0.formats h.1.now) rows) none h.2 in
      record { was_open = it.3.0.was_open; is_open = it.3.0.is_open; shown = h }
